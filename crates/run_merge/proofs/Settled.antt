-- The entries of a way stand: those that were fixed, and those that the lines tell.
use Rattle.std.proofs.Common.{◌⊎◌, ℕ, ◌≡◌, Bool, true, false, cond, eqb, eqb-true, List, [], ◌∷◌, Option, Some, None, inl, inr, refl, sym, subst, map, filter}
use Rattle.std.specs.Prelude.{is_none}
use Rattle.rv_fields.specs.Effect.{Entry}
use Rattle.rv_fields.specs.Hart.{updated}
use Rattle.rv_fields.specs.Memory.{Seen}
use Rattle.rv_fields.specs.Play.{Machine}
use Rattle.region_plan.specs.Plan.{Work}
use Rattle.table_space.specs.Tables.{TableSpace, lies_under, unfixed, with_entries}
use Rattle.table_space.proofs.Ways.{Agrees, EachEntry, way_agrees}
use Rattle.trace_text.specs.Lines.{settled}
use Rattle.world_face.specs.Events.{Event, Settle, Short, is_short}
use Rattle.world_face.specs.Spaces.{SpaceRight, settled_lines, space_after, space_legal, way_settled}
use Rattle.world_face.specs.Told.{entry_lines}
use Rattle.hart_task.proofs.Held.{EntriesStand}
use Rattle.hart_task.proofs.Lined.{AllHave, entries_told}
use Rattle.hart_task.proofs.Standing.{Stands}

-- each entry of the way stands
entries_stand : (m : Machine) (entries : ℕ → Option ℕ) (hart number : ℕ) (es : List Entry) → EntriesStand m.seen entries → EachEntry (Agrees entries) es
    → AllHave m (map (settled hart number) (filter (λ e. is_none (entries e.at)) es)) → EachEntry (λ e. Stands m.seen e.at 8 e.pte) es
entries_stand m entries hart number [] stand agree all = tt
entries_stand m entries hart number (e ∷ es) stand agree all = of (entries e.at) refl agree.0 (entries_stand m entries hart number es stand agree.1) all
  where
    of : (o : Option ℕ) → o ≡ entries e.at → Agrees entries e
        → (AllHave m (map (settled hart number) (filter (λ e. is_none (entries e.at)) es)) → EachEntry (λ e. Stands m.seen e.at 8 e.pte) es)
        → AllHave m (map (settled hart number) (cond (is_none o) (e ∷ filter (λ e. is_none (entries e.at)) es) (filter (λ e. is_none (entries e.at)) es)))
        → EachEntry (λ e. Stands m.seen e.at 8 e.pte) (e ∷ es)
    of None is agrees more all = (all.0, more all.1)
    of (Some pte) is (inl none) more all = absurd cc
    of (Some pte) is (inr same) more all = (stand e.at e.pte same, more all)

pub noted_stand : (first : Seen) (entries : ℕ → Option ℕ) (es : List Entry) → EntriesStand first entries → EachEntry (λ e. Stands first e.at 8 e.pte) es → EntriesStand first (with_entries entries es)
noted_stand first entries [] stand each = stand
noted_stand first entries (e ∷ es) stand each = noted_stand first (updated entries e.at (Some e.pte)) es (λ at pte is. of at pte (eqb at e.at) refl is) each.1
  where
    of : (at pte : ℕ) (t : Bool) → t ≡ eqb at e.at → cond t (Some e.pte) (entries at) ≡ Some pte → Stands first at 8 pte
    of at pte true same is =
        let place : at ≡ e.at = eqb-true at e.at (sym same) in
        let value : e.pte ≡ pte = cc in
        subst (λ q. Stands first q 8 pte) (sym place) (subst (Stands first e.at 8) value each.0)
    of at pte false same is = stand at pte is

-- what a settle of a legal event notes, in the hart and in the space
pub settle_stands : (work : Work) (m : Machine) (space : TableSpace) (e : Event) (settle : Settle) → e.asked.settle ≡ Some settle
    → (e.asked.short ≡ None) ⊎ (settle.path ≡ []) → space_legal work space e → AllHave m e.lines → EntriesStand m.seen space.entries
    → EachEntry (λ x. Stands m.seen x.at 8 x.pte) settle.path × EntriesStand m.seen (space_after work space e).entries
settle_stands work m space e settle is short legal all stand = of e.asked.short refl (subst (λ s. SpaceRight work space e.hart e.asked.short s (entry_lines e)) is legal) short
  where
    all_way : AllHave m (settled_lines e.hart space.number (unfixed space (way_settled work space settle))) → EachEntry (λ x. Stands m.seen x.at 8 x.pte) (way_settled work space settle)
    all_way has = entries_stand m space.entries e.hart space.number (way_settled work space settle) stand (way_agrees space (lies_under work space.number _) _ _ 3 _ space.made) has

    of : (s : Option Short) → s ≡ e.asked.short → SpaceRight work space e.hart s (Some settle) (entry_lines e) → (s ≡ None) ⊎ (settle.path ≡ [])
        → EachEntry (λ x. Stands m.seen x.at 8 x.pte) settle.path × EntriesStand m.seen (space_after work space e).entries
    of None at right which =
        let each = all_way (subst (AllHave m) right.2 (entries_told m e all)) in (
          subst (EachEntry (λ x. Stands m.seen x.at 8 x.pte)) (sym right.1) each,
          rw (sym at) (rw is (noted_stand m.seen space.entries (way_settled work space settle) stand each)),
        )
    of (Some x) at right (inl none) = absurd cc
    of (Some x) at right (inr none) = (subst (EachEntry (λ x. Stands m.seen x.at 8 x.pte)) (sym none) tt, rw (sym at) stand)

-- the space behind any legal event
pub space_stands : (work : Work) (m : Machine) (space : TableSpace) (e : Event) → space_legal work space e → AllHave m e.lines → EntriesStand m.seen space.entries
    → EntriesStand m.seen (space_after work space e).entries
space_stands work m space e legal all stand = of e.asked.settle refl e.asked.short refl
  where
    of : (o : Option Settle) → o ≡ e.asked.settle → (s : Option Short) → s ≡ e.asked.short → EntriesStand m.seen (space_after work space e).entries
    of None is s at = rw (sym is) (by (is_short e))
      where
        by : (t : Bool) → EntriesStand m.seen (cond t space space).entries
        by true = stand
        by false = stand
    of (Some settle) is None at = (settle_stands work m space e settle (sym is) (inl (sym at)) legal all stand).1
    of (Some settle) is (Some x) at = rw (sym at) stand
