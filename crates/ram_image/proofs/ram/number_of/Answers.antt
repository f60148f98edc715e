use Rattle.std.proofs.Common.{◌<◌, ◌*◌, ◌^◌, length, arith, sym, subst, ◌∙◌}
use Rattle.ram_image.proofs.Numbers.{number_of_put, number_small}
use Rattle.ram_image.proofs.ram.number_of.Goals as goal

pub returns-clause-number : goal.returns-clause-number
returns-clause-number c = c.from_le_bytes.ensures ∙ rw c.copy_from_slice.ensures.after (number_of_put c.args.bytes.now c.requires)

pub returns-clause-small : goal.returns-clause-small
returns-clause-small c =
    let spelled = c.from_le_bytes.ensures ∙ rw c.copy_from_slice.ensures.after (number_of_put c.args.bytes.now c.requires) in
    subst (λ n. n < 2 ^ (8 * length c.args.bytes.now)) (sym spelled) (number_small c.args.bytes.now (λ k below. omega (arith, c.type_inv.bytes k)))
