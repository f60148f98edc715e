use Rattle.std.proofs.Common.{◌≡◌, eqb, ltb, ap, sym, false, ◌∙◌, arith}
use Rattle.std.specs.Int.{bit_at}
use Rattle.std.proofs.lemmas.Nat.Bits.{bit_at_above}
use Rattle.std.proofs.lemmas.Bool.Decides.{nat_tests}
use Rattle.rv_csr.proofs.file.trap.has_bit.Goals as goal

pub returns-else-place-lt64 : goal.returns-else-place-lt64
returns-else-place-lt64 c =
    let none : bit_at c.args.number c.args.place ≡ 0 = bit_at_above c.args.number 64 c.args.place (omega arith) c.if-place-lt64.false in
    let past : ltb c.args.place 64 ≡ false = grind (arith, nat_tests) in
    past ∙ ap (λ n. eqb n 1) (sym none)
