use Rattle.std.proofs.Common.{◌≡◌, ◌*◌, ◌^◌, ◌∙◌}
use Rattle.rv_fields.specs.Field.{field_mask, with_field}
use Rattle.rv_csr.specs.Views.{field_seen}
use Rattle.rv_fields.proofs.Masks.{cut, mask_small, field_of-with_field, field_of-with_field_other}
use Rattle.rv_csr.proofs.field.Field.with.Goals as goal

with_is : (c : goal.After-masked) → c.masked.result ≡ with_field (field_seen c.args.self) c.args.register c.args.value
unfolding with_field
with_is c =
    let field = field_seen c.args.self in
    c.masked.ensures ∙ rw c.mask.ensures (cut (field_mask field) c.args.register (c.args.value * 2 ^ field.low) (mask_small field c.args.self.in_register))

pub returns-clause-value : goal.returns-clause-value
returns-clause-value c = with_is c

pub returns-clause-reads_back : goal.returns-clause-reads_back
returns-clause-reads_back c small =
    rw (with_is c) (field_of-with_field (field_seen c.args.self) c.args.register c.args.value c.args.self.in_register small)

pub returns-clause-others : goal.returns-clause-others
returns-clause-others c other within apart =
    rw (with_is c)
    (field_of-with_field_other (field_seen c.args.self) other c.args.register c.args.value c.args.self.in_register within apart)
