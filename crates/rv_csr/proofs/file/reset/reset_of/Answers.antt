use Rattle.std.proofs.Common.{◌≡◌, ◌≤◌, ap, drop, take, length, length-drop, arith, ◌∙◌, sym, subst}
use Rattle.std.proofs.lemmas.List.{take_all}
use Rattle.rv_fields.specs.Csr.{all_csrs}
use Rattle.rv_fields.specs.Field.{with_field}
use Rattle.rv_fields.specs.Status.{mie, mprv, HasMode}
use Rattle.rv_fields.specs.CsrFile.{CsrFile, reset, zero_file, written_each}
use Rattle.rv_fields.specs.Ranges.{IsLegal}
use Rattle.rv_fields.proofs.Legal.{legal_at_reset}
use Rattle.rv_fields.proofs.Modes.{reset_mode}
use Rattle.rv_csr.proofs.file.reset.reset_of.Goals as goal

pub returns-clause-value : goal.returns-clause-value
unfolding reset
returns-clause-value c =
    let started : CsrFile → CsrFile = λ f. record f { mhartid = c.args.hart; mstatus = with_field mprv (with_field mie f.mstatus 0) 0 } in
    let raw = drop 1 c.args.raw.now in
    let short : length raw ≤ 18 = omega (arith, length-drop 1 c.args.raw.now) in
    let writes : c.put_each.new.self ≡ written_each zero_file (drop 1 all_csrs) (take 18 raw) = c.put_each.ensures in
    let left : c.put_each.new.self ≡ written_each zero_file (drop 1 all_csrs) raw =
    writes ∙ ap (written_each zero_file (drop 1 all_csrs)) (take_all 18 raw short) in
    rw (c.with-2.ensures.value, c.with.ensures.value, c.from.ensures) (ap started (c.file.view_is ∙ left))

pub returns-clause-has_mode : goal.returns-clause-has_mode
returns-clause-has_mode c =
    subst (λ (file : CsrFile). HasMode file.mstatus) (sym (returns-clause-value c)) (reset_mode c.args.hart c.args.raw.now)

pub returns-clause-legal : goal.returns-clause-legal
returns-clause-legal c = subst IsLegal (sym (returns-clause-value c)) (legal_at_reset c.args.hart c.args.raw.now (omega arith))
