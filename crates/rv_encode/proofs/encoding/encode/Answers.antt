use Rattle.std.proofs.Common.{◌≡◌, None}
use Rattle.rv_fields.specs.RowTable.{form_of, value_of}
use Rattle.rv_encode.specs.Fitting.{misfit}
use Rattle.rv_encode.specs.Packing.{packed}
use Rattle.rv_encode.proofs.Encoded.{encoded_decodes, decoded_is_encoded}
use Rattle.rv_encode.proofs.encoding.encode.Goals as goal

pub returns-in-None-clause-decodes : goal.returns-in-None-clause-decodes
returns-in-None-clause-decodes c =
    let ins = c.args.ins in
    let ops = c.args.ops.now in
    let fits : misfit (form_of ins) ops ≡ None = cc in
    let word-is : c.packed.result ≡ packed (form_of ins) (value_of ins) ops = cc in
    rw word-is (encoded_decodes ins ops fits)

pub returns-in-None-clause-only : goal.returns-in-None-clause-only
returns-in-None-clause-only c word small e =
    let only : packed (form_of c.args.ins) (value_of c.args.ins) c.args.ops.now ≡ word = (decoded_is_encoded word c.args.ins c.args.ops.now small e).1 in
    cc

-- a word that decodes to the operands shows that they fit
pub returns-in-Some-clause-only : goal.returns-in-Some-clause-only
returns-in-Some-clause-only c word small e =
    let fits : misfit (form_of c.args.ins) c.args.ops.now ≡ None = (decoded_is_encoded word c.args.ins c.args.ops.now small e).0 in
    absurd cc
