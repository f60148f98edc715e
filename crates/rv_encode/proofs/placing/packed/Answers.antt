use Rattle.std.proofs.Common.{ℕ, ◌^◌, ◌<◌, sym, subst}
use Rattle.rv_encode.specs.Packing.{put_imm}
use Rattle.rv_encode.proofs.Packing.{is_word, packed_lt}
use Rattle.rv_encode.proofs.Encoded.{all_fit}
use Rattle.rv_encode.proofs.placing.packed.Goals as goal

pub without_imm-requires : goal.without_imm-requires
without_imm-requires c = is_word c.args.form c.args.value c.args.ops.now c.requires.value (all_fit c.args.form c.args.ops.now c.requires.fits)

pub with_imm-requires-clause-size : goal.with_imm-requires-clause-size
with_imm-requires-clause-size c =
    let small = packed_lt c.args.form c.args.value c.args.ops.now c.requires.value (all_fit c.args.form c.args.ops.now c.requires.fits) in
    let P : ℕ → Type 0 = λ w. put_imm c.args.form w c.args.ops.now.imm < 2 ^ 32 in
    subst P (sym c.without_imm.ensures) small
