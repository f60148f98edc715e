use Rattle.std.proofs.Common.{◌≡◌, length, slice_set, Some, refl, sym, ap, ◌∙◌, inl, inr, arith, slice_index}
use Rattle.std.specs.List.{slice_get}
use Rattle.std.specs.Option.{option_map_or}
use Rattle.std.proofs.lemmas.Bool.{cases_eq}
use Rattle.std.proofs.lemmas.Option.{slice_get_read}
use Rattle.rv_fields.specs.Memory.{after_access}
use Rattle.rv_fields.specs.Hart.{updated}
use Rattle.rv_fields.specs.Step as steps
use Rattle.rv_fields.proofs.AllTold.{all_told}
use Rattle.ram_image.specs.Ram.{memory}
use Rattle.rv_step.specs.declared.hart.Hart.{Hart}
use Rattle.rv_step.specs.Views.{hart_seen, effect_seen, stepped_seen}
use Rattle.rv_machine.specs.Links.{stands}
use Rattle.rv_machine.specs.Views.{memory_seen, hart_in, absent_hart}
use Rattle.rv_fields.proofs.Lists.{get_of_set_other, get_of_set_same}
use Rattle.rv_machine.proofs.Made.{harts_updated}
use Rattle.rv_machine.proofs.machine.Machine.turn.Goals as goal

pub step-requires-clause-told : goal.step-requires-clause-told
step-requires-clause-told c =
    all_told (memory_seen c.make_room.new.self) (hart_seen c.index_mut-own.result.now)
    (record { bytes = λ a. (memory c.make_room.new.self.ram a, refl); links = λ h g. (stands c.make_room.new.self.links.standing.items h g, refl) })
    (record { told = λ r. (slice_index c.index_mut-own.result.now.x r, refl) })

pub invariant_of-self-2 : goal.invariant_of-self-2
invariant_of-self-2 c = record {
  numbered = λ h hart e. elim (cases_eq h c.from.result) [
    | inl same ↦
        let own : Some c.step.new.hart ≡ Some hart = sym (get_of_set_same c.args.self.now.harts.items c.from.result c.step.new.hart (omega arith))
        ∙ ap (slice_get (slice_set c.args.self.now.harts.items c.from.result c.step.new.hart)) (sym same) ∙ e in
        let is : c.step.new.hart ≡ hart = cc in
        let held = slice_get_read c.args.self.now.harts.items (length c.args.self.now.harts.items) c.from.result c.index_mut-own.result.now refl (omega arith) c.index_mut-own.ensures.value in
        let before = c.args.self.now.numbered c.from.result c.index_mut-own.result.now held in
        (ap (λ (k : Hart). k.number) (sym is) ∙ c.step.ensures.number ∙ before.0 ∙ sym same, ap (λ (k : Hart). slice_index k.x 0) (sym is) ∙ c.step.ensures.zero)
    | inr apart ↦
        c.args.self.now.numbered h hart (sym (get_of_set_other c.args.self.now.harts.items c.from.result c.step.new.hart h apart) ∙ e)
  ];
}

pub returns-clause-turn : goal.returns-clause-turn
returns-clause-turn c =
    let items = c.args.self.now.harts.items in
    let own = c.index_mut-own.result.now in
    let place : c.from.result ≡ c.args.hart = c.from.ensures in
    let held = slice_get_read items (length items) c.from.result own refl (omega arith) c.index_mut-own.ensures.value in
    let number : own.number ≡ c.args.hart = (c.args.self.now.numbered c.from.result own held).0 ∙ place in
    let hart : hart_in items c.args.hart ≡ hart_seen own =
    ap (hart_in items) (sym place) ∙ ap (λ o. option_map_or hart_seen o absent_hart) held in
    record {
      stepped = stepped_seen c.step.new.hart c.step.result;
      step = (λ i. steps.step (sym c.make_room.ensures.same i) (hart i)) ∙ c.step.ensures.step;
      effect = ap (λ n. effect_seen n c.step.result) (c.step.ensures.number ∙ number);
      machine = λ i. record {
        seen = (c.step.ensures.bus ∙ (λ i. after_access (number i) c.step.result.access (c.make_room.ensures.same i))) i;
        harts = λ h. (harts_updated items c.from.result c.step.new.hart h (omega arith) ∙ ap (λ n. updated (hart_in items) n (hart_seen c.step.new.hart) h) place) i;
      };
    }
