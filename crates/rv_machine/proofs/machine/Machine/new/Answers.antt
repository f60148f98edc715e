use Rattle.std.proofs.Common.{◌≡◌, ◌+◌, List, [], ◌∷◌, length, get_or, Some, sym, ap, subst, ◌∙◌, inl, inr, arith}
use Rattle.std.specs.List.{slice_get}
use Rattle.std.specs.Option.{option_map_or}
use Rattle.std.proofs.lemmas.Option.{slice_get_cases, slice_get_within, slice_get-get_or}
use Rattle.std.proofs.lemmas.List.{length-append}
use Rattle.rv_step.specs.declared.hart.Hart.{Hart}
use Rattle.rv_step.specs.Views.{hart_seen}
use Rattle.rv_machine.specs.Views.{absent_hart, reset_hart}
use Rattle.rv_fields.proofs.Lists.{get_of_more}
use Rattle.rv_machine.proofs.Made.{IsMade}
use Rattle.rv_machine.proofs.machine.Machine.new.Goals as goal

pub loop-number-init : goal.loop-number-init
loop-number-init c = record {
  long = ap length c.in_ok-harts.ensures.items;
  each = λ h hart e. absurd (let none = subst (λ (xs : List _). slice_get xs h ≡ Some hart) c.in_ok-harts.ensures.items e in cc);
}

pub loop-number-preserved : goal.loop-number-preserved
loop-number-preserved c =
    let resets = c.args.resets.now in
    let items = c.loop-number.harts.items in
    let number = c.loop-number.number in
    let last : IsMade resets number c.hart.result = record {
      reset = get_or resets number (record { x = []; csrs = [] });
      given = slice_get-get_or resets number (record { x = []; csrs = [] }) c.loop-number-test.true;
      seen = c.hart.ensures.hart;
      number = c.hart.ensures.number;
      zero = c.hart.ensures.zero;
    } in
    record {
      long = ap length c.in_ok-push.ensures.items ∙ length-append items (c.hart.result ∷ []) ∙ ap (λ n. n + 1) c.loop-number.invariant.long;
      each = λ h hart e. elim (get_of_more items c.hart.result h hart (ap (λ (xs : List Hart). slice_get xs h) (sym c.in_ok-push.ensures.items) ∙ e)) [
        | inl within ↦ c.loop-number.invariant.each h hart within
        | inr here ↦
            subst (IsMade resets h) here.1
            (subst (λ n. IsMade resets n c.hart.result) (sym (here.0 ∙ c.loop-number.invariant.long)) last)
      ];
    }

pub invariant_of-result : goal.invariant_of-result
invariant_of-result c = record {
  numbered = λ h hart e. let made = c.loop-number.invariant.each h hart e in (made.number, made.zero);
}

pub returns-clause-harts : goal.returns-clause-harts
returns-clause-harts c h reset given =
    let long = c.loop-number.invariant.long in
    let within = slice_get_within c.args.resets.now h reset given in
    elim (slice_get_cases c.loop-number.harts.items h).1 [
      | inl there ↦
          let made = c.loop-number.invariant.each h there.0 there.2 in
          let same : made.reset ≡ reset = let a = made.given in cc in
          ap (λ o. option_map_or hart_seen o absent_hart) there.2 ∙ made.seen ∙ ap (reset_hart h) same
      | inr past ↦ absurd (omega arith)
    ]

pub returns-clause-count : goal.returns-clause-count
returns-clause-count c = let long = c.loop-number.invariant.long in omega arith
