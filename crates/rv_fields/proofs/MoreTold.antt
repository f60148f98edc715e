-- More told, the same step.
use Rattle.std.proofs.Common.{ℕ, zero, suc, ◌+◌, ◌≡◌, ◌%◌, eqb, not, List, [], ◌∷◌, Option, Some, None, refl, ap, ◌∙◌}
use Rattle.std.specs.Prelude.{◌&&◌}
use Rattle.rv_fields.specs.declared.access.Access.{Access}
use Rattle.rv_fields.specs.declared.access.Access.TheVariants.{Fetch}
use Rattle.rv_fields.specs.declared.access.AccessKind.{AccessKind}
use Rattle.rv_fields.specs.declared.access.AccessKind.TheVariants.{Load, Store, Lr, Sc, Amo}
use Rattle.rv_fields.specs.declared.class.Class.{Class}
use Rattle.rv_fields.specs.declared.class.Class.TheVariants.{Accesses}
use Rattle.rv_fields.specs.Class.{class_of}
use Rattle.rv_fields.specs.Decode.{Decoded}
use Rattle.rv_fields.specs.Effect.{Entry}
use Rattle.rv_fields.specs.Hart.{Hart, Registers, Reserved}
use Rattle.rv_fields.specs.Laws.{Below, Extends, TellsMore, with_registers, from_registers, SameOverMore}
use Rattle.rv_fields.specs.Memory.{Bytes, Seen, told, told_bytes, number_of, in_ram, granule}
use Rattle.rv_fields.specs.Step.{Aim, Outcome, Stepped, Target, retires, raises, access, aim_at, data_walked, fetch_walked, outcome_by, performed, performed_at, loaded, load_reserved, updated_memory, store_if, stepped_by, step, succeeds, right_of, rights_of, trap_taken}
use Rattle.rv_fields.specs.Sv39.{Rights, Translated, Walked, reached, faults, behind_entry, entries_in, entry_at, entry_walked, is_bare, is_canonical, is_formed, is_good_pointer, is_pointer, page_number, pointer_walked, pte_walked, root_of, translate, walk_from}
use Rattle.rv_fields.proofs.Options.{below_same, below_bind, below_map, below_if}
use Rattle.rv_fields.proofs.Course.{Course, unreached, lacks_word, undecoded, executes, course, retraced}

-- ---- numbers in memory

pub bytes_below : (m n : Bytes) → ((a : ℕ) → Below (m a) (n a)) → (at size : ℕ) → Below (told_bytes m at size) (told_bytes n at size)
bytes_below m n more at zero = below_same (Some [])
bytes_below m n more at (suc size) =
    below_bind (m at) (n at) _ _ (more at) (λ b.
    below_bind (told_bytes m (at + 1) size) (told_bytes n (at + 1) size) _ _ (bytes_below m n more (at + 1) size) (λ bs. below_same (Some (b ∷ bs))))

pub told_below : (m n : Bytes) → ((a : ℕ) → Below (m a) (n a)) → (at size : ℕ) → Below (told m at size) (told n at size)
told_below m n more at size =
    below_if (in_ram at size) _ _ _ _ (below_map (λ bs. Some (number_of bs)) _ _ (bytes_below m n more at size)) (below_same (Some None))

-- ---- the walk

module _ (m n : Bytes) (more : (a : ℕ) → Below (m a) (n a)) (access : Access) (rights : Rights) (va : ℕ) where
  pointer_below : (level pte : ℕ) (f g : ℕ → Option Walked) → ((t : ℕ) → Below (f t) (g t))
      → Below (pointer_walked access level pte f) (pointer_walked access level pte g)
  pointer_below level pte f g h = below_if (is_good_pointer pte && not (eqb level 0)) _ _ _ _ (h (page_number pte)) (below_same _)

  pte_below : (level pte : ℕ) (f g : ℕ → Option Walked) → ((t : ℕ) → Below (f t) (g t))
      → Below (pte_walked access rights va level pte f) (pte_walked access rights va level pte g)
  pte_below level pte f g h =
      below_if (is_formed pte) _ _ _ _ (below_if (is_pointer pte) _ _ _ _ (pointer_below level pte f g h) (below_same _)) (below_same _)

  entry_below : (level at : ℕ) (f g : ℕ → Option Walked) → ((t : ℕ) → Below (f t) (g t)) → (pte : Option ℕ)
      → Below (entry_walked access rights va level at f pte) (entry_walked access rights va level at g pte)
  entry_below level at f g h None = below_same _
  entry_below level at f g h (Some pte) = below_map (behind_entry (record { at = at; pte = pte })) _ _ (pte_below level pte f g h)

  walk_below : (level table : ℕ) → Below (walk_from (entries_in m) access rights va level table) (walk_from (entries_in n) access rights va level table)
  walk_below zero table = below_same _
  walk_below (suc level) table =
      below_bind (told m (entry_at va level table) 8) (told n (entry_at va level table) 8) _ _ (told_below m n more (entry_at va level table) 8)
      (entry_below level (entry_at va level table) _ _ (walk_below level))

  pub translate_below : (satp : ℕ) → Below (translate (entries_in m) satp rights access va) (translate (entries_in n) satp rights access va)
  translate_below satp =
      below_if (is_bare rights.mode satp) _ _ _ _ (below_same _)
      (below_if (is_canonical va) _ _ _ _ (walk_below 3 (root_of satp)) (below_same _))

-- ---- the instruction, for a hart with any registers

module _ (part whole : Seen) (more : Extends part whole) (x : Registers) (hart : Hart) where
  succeeds_below : (r : Option Reserved) (aim : Aim) → Below (succeeds part.link hart.number r aim) (succeeds whole.link hart.number r aim)
  succeeds_below None aim = below_same _
  succeeds_below (Some r) aim = below_if (eqb r.pa aim.pa && eqb r.size aim.size) _ _ _ _ (more.link hart.number (granule aim.pa)) (below_same _)

  performed_below : (kind : AccessKind) (aim : Aim) → Below (performed kind part hart aim) (performed kind whole (with_registers x hart) aim)
  performed_below Load aim = below_map (loaded hart aim) _ _ (told_below part.byte whole.byte more.byte aim.pa aim.size)
  performed_below Lr aim = below_map (load_reserved hart aim) _ _ (told_below part.byte whole.byte more.byte aim.pa aim.size)
  performed_below Amo aim = below_map (updated_memory hart aim) _ _ (told_below part.byte whole.byte more.byte aim.pa aim.size)
  performed_below Store aim = below_same _
  performed_below Sc aim = below_map (store_if hart aim) _ _ (succeeds_below hart.reserved aim)

  performed_at_below : (t : Target) (trail : List Entry) (result : Translated)
      → Below (performed_at part hart t trail result) (performed_at whole (with_registers x hart) t trail result)
  performed_at_below t trail (reached pa) = performed_below t.kind (aim_at t pa trail)
  performed_at_below t trail (faults cause) = below_same _

  access_below : (t : Target) → Below (access part hart t) (access whole (with_registers x hart) t)
  access_below t =
      below_if (eqb (t.va % t.size) 0) _ _ _ _
      (below_bind (data_walked part hart (right_of t.kind) t.va) _ _ _
      (translate_below part.byte whole.byte more.byte (right_of t.kind) _ t.va hart.csrs.satp) (λ w. performed_at_below t w.trail w.result))
      (below_same _)

  outcome_below : (class : Class) (d : Decoded) (word rs1 rs2 : ℕ)
      → Below (outcome_by class part hart d word rs1 rs2) (outcome_by class whole (with_registers x hart) d word rs1 rs2)
  outcome_below (Accesses kind size extended) d word rs1 rs2 = access_below _
  outcome_below class d word rs1 rs2 = below_same _

  fetch_below : Below (fetch_walked part hart) (fetch_walked whole (with_registers x hart))
  fetch_below = translate_below part.byte whole.byte more.byte Fetch (rights_of hart hart.mode) hart.pc hart.csrs.satp

-- ---- the step

pub stepped_from : (x : Registers) (hart : Hart) (pa word rd : ℕ) (o : Outcome)
    → stepped_by (with_registers x hart) pa word rd o ≡ from_registers x (stepped_by hart pa word rd o)
unfolding trap_taken
stepped_from x hart pa word rd (retires done) = refl
stepped_from x hart pa word rd (raises cause tval trail) = refl

course_below : (part whole : Seen) → Extends part whole → (x : Registers) (hart : Hart) → TellsMore hart.x x → (s : Stepped)
    → Course part hart s → step whole (with_registers x hart) ≡ Some (from_registers x s)
unfolding trap_taken
course_below part whole more x hart tells s (unreached trail cause fetched) =
    retraced whole (with_registers x hart) _ (unreached trail cause (fetch_below part whole more x hart _ fetched))
course_below part whole more x hart tells s (lacks_word trail pa fetched has) =
    retraced whole (with_registers x hart) _ (lacks_word trail pa (fetch_below part whole more x hart _ fetched)
    (told_below part.byte whole.byte more.byte pa 4 _ has))
course_below part whole more x hart tells s (undecoded trail pa word fetched has is) =
    retraced whole (with_registers x hart) _ (undecoded trail pa word (fetch_below part whole more x hart _ fetched)
    (told_below part.byte whole.byte more.byte pa 4 _ has) is)
course_below part whole more x hart tells s (executes trail pa word d rs1 rs2 o fetched has is first second gives) =
    retraced whole (with_registers x hart) _ (executes trail pa word d rs1 rs2 o (fetch_below part whole more x hart _ fetched)
    (told_below part.byte whole.byte more.byte pa 4 _ has) is (tells _ _ first) (tells _ _ second)
    (outcome_below part whole more x hart (class_of d.ins) d word rs1 rs2 o gives))
    ∙ ap Some (stepped_from x hart pa word d.ops.rd o)

pub more_told : SameOverMore
more_told part whole more x hart tells s e = course_below part whole more x hart tells s (course part hart s e)
