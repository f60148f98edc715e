-- Where all is told there is a step.
use Rattle.std.proofs.Common.{ℕ, zero, suc, ◌+◌, ◌≡◌, ◌%◌, eqb, Bool, true, false, cond, not, List, Option, Some, None, option_map, refl}
use Rattle.std.specs.Prelude.{◌&&◌, IsSome}
use Rattle.rv_fields.specs.declared.access.Access.{Access}
use Rattle.rv_fields.specs.declared.access.Access.TheVariants.{Fetch}
use Rattle.rv_fields.specs.declared.access.AccessKind.{AccessKind}
use Rattle.rv_fields.specs.declared.access.AccessKind.TheVariants.{Load, Store, Lr, Sc, Amo}
use Rattle.rv_fields.specs.declared.class.Class.{Class}
use Rattle.rv_fields.specs.declared.class.Class.TheVariants.{Accesses}
use Rattle.rv_fields.specs.Attempt.{◌>>=◌}
use Rattle.rv_fields.specs.Class.{class_of}
use Rattle.rv_fields.specs.Decode.{Decoded, decoded, rs1_read}
use Rattle.rv_fields.specs.Hart.{Hart, IsComplete, Reserved}
use Rattle.rv_fields.specs.Effect.{Entry}
use Rattle.rv_fields.specs.Laws.{StepsWhereAllTold}
use Rattle.rv_fields.specs.Memory.{Seen, IsWhole, granule, in_ram, told, told_bytes}
use Rattle.rv_fields.specs.Step.{Aim, Target, access, aim_at, data_walked, fetch_walked, outcome, outcome_by, performed, performed_at, right_of, rights_of, step, step_at, step_decoded, step_fetched, succeeds}
use Rattle.rv_fields.specs.Sv39.{Rights, Translated, Walked, reached, faults, entries_in, entry_at, entry_walked, is_bare, is_canonical, is_formed, is_good_pointer, is_pointer, page_number, pointer_walked, pte_walked, root_of, translate, walk_from}

-- ---- steps that all find something

some_bind : {A B : Type 0} (m : Option A) (f : A → Option B) → IsSome m → ((a : A) → IsSome (f a)) → IsSome (m >>= f)
some_bind None f h k = absurd cc
some_bind (Some a) f h k = k a

some_map : {A B : Type 0} (f : A → B) (m : Option A) → IsSome m → IsSome (option_map f m)
some_map f None h = absurd cc
some_map f (Some a) h = refl

some_if : {A : Type 0} (b : Bool) (m n : Option A) → IsSome m → IsSome n → IsSome (cond b m n)
some_if true m n h k = h
some_if false m n h k = k

is_some_from : {A : Type 0} (m : Option A) (a : A) → m ≡ Some a → IsSome m
is_some_from m a e = rw e refl

module _ (seen : Seen) (all : IsWhole seen) where
  bytes_some : (at size : ℕ) → IsSome (told_bytes seen.byte at size)
  bytes_some at zero = refl
  bytes_some at (suc size) =
      let b = all.bytes at in
      some_bind (seen.byte at) _ (is_some_from (seen.byte at) b.0 b.1) (λ b.
      some_bind (told_bytes seen.byte (at + 1) size) _ (bytes_some (at + 1) size) (λ bs. refl))

  told_some : (at size : ℕ) → IsSome (told seen.byte at size)
  told_some at size = some_if (in_ram at size) _ _ (some_map _ (told_bytes seen.byte at size) (bytes_some at size)) refl

  -- ---- the walk

  pointer_some : (access : Access) (level pte : ℕ) (below : ℕ → Option Walked) → ((table : ℕ) → IsSome (below table)) → IsSome (pointer_walked access level pte below)
  pointer_some access level pte below h = some_if (is_good_pointer pte && not (eqb level 0)) _ _ (h (page_number pte)) refl

  pte_some : (access : Access) (rights : Rights) (va level pte : ℕ) (below : ℕ → Option Walked) → ((table : ℕ) → IsSome (below table))
      → IsSome (pte_walked access rights va level pte below)
  pte_some access rights va level pte below h =
      some_if (is_formed pte) _ _ (some_if (is_pointer pte) _ _ (pointer_some access level pte below h) refl) refl

  entry_some : (access : Access) (rights : Rights) (va level at : ℕ) (below : ℕ → Option Walked) → ((table : ℕ) → IsSome (below table)) → (pte : Option ℕ)
      → IsSome (entry_walked access rights va level at below pte)
  entry_some access rights va level at below h None = refl
  entry_some access rights va level at below h (Some pte) = some_map _ _ (pte_some access rights va level pte below h)

  walk_some : (access : Access) (rights : Rights) (va level table : ℕ) → IsSome (walk_from (entries_in seen.byte) access rights va level table)
  walk_some access rights va zero table = refl
  walk_some access rights va (suc level) table =
      some_bind (told seen.byte (entry_at va level table) 8) _ (told_some (entry_at va level table) 8)
      (entry_some access rights va level (entry_at va level table) _ (walk_some access rights va level))

  translate_some : (satp : ℕ) (rights : Rights) (access : Access) (va : ℕ) → IsSome (translate (entries_in seen.byte) satp rights access va)
  translate_some satp rights access va =
      some_if (is_bare rights.mode satp) _ _ refl (some_if (is_canonical va) _ _ (walk_some access rights va 3 (root_of satp)) refl)

  -- ---- the instruction

  succeeds_some : (hart : ℕ) (r : Option Reserved) (aim : Aim) → IsSome (succeeds seen.link hart r aim)
  succeeds_some hart None aim = refl
  succeeds_some hart (Some r) aim =
      let link = all.links hart (granule aim.pa) in
      some_if (eqb r.pa aim.pa && eqb r.size aim.size) _ _ (is_some_from (seen.link hart (granule aim.pa)) link.0 link.1) refl

  performed_some : (kind : AccessKind) (hart : Hart) (aim : Aim) → IsSome (performed kind seen hart aim)
  performed_some Load hart aim = some_map _ _ (told_some aim.pa aim.size)
  performed_some Lr hart aim = some_map _ _ (told_some aim.pa aim.size)
  performed_some Amo hart aim = some_map _ _ (told_some aim.pa aim.size)
  performed_some Store hart aim = refl
  performed_some Sc hart aim = some_map _ _ (succeeds_some hart.number hart.reserved aim)

  performed_at_some : (hart : Hart) (t : Target) (trail : List Entry) (result : Translated) → IsSome (performed_at seen hart t trail result)
  performed_at_some hart t trail (reached pa) = performed_some t.kind hart (aim_at t pa trail)
  performed_at_some hart t trail (faults cause) = refl

  access_some : (hart : Hart) (t : Target) → IsSome (access seen hart t)
  access_some hart t =
      some_if (eqb (t.va % t.size) 0) _ _
      (some_bind (data_walked seen hart (right_of t.kind) t.va) _ (translate_some hart.csrs.satp _ (right_of t.kind) t.va) (λ w. performed_at_some hart t w.trail w.result))
      refl

  outcome_some : (class : Class) (hart : Hart) (d : Decoded) (word rs1 rs2 : ℕ) → IsSome (outcome_by class seen hart d word rs1 rs2)
  outcome_some (Accesses kind size extended) hart d word rs1 rs2 = access_some hart _
  outcome_some class hart d word rs1 rs2 = refl

  -- ---- the step

  decoded_some : (hart : Hart) → IsComplete hart → (pa word : ℕ) (d : Option Decoded) → IsSome (step_decoded seen hart pa word d)
  unfolding step_decoded outcome
  decoded_some hart complete pa word None = refl
  decoded_some hart complete pa word (Some d) =
      let a = complete.told (rs1_read d) in
      let b = complete.told d.ops.rs2 in
      some_bind (hart.x (rs1_read d)) _ (is_some_from _ a.0 a.1) (λ a.
      some_bind (hart.x d.ops.rs2) _ (is_some_from _ b.0 b.1) (λ b.
      some_bind (outcome_by (class_of d.ins) seen hart d word a b) _ (outcome_some (class_of d.ins) hart d word a b) (λ o. refl)))

  fetched_some : (hart : Hart) → IsComplete hart → (pa : ℕ) (word : Option ℕ) → IsSome (step_fetched seen hart pa word)
  fetched_some hart complete pa None = refl
  fetched_some hart complete pa (Some word) = decoded_some hart complete pa word (decoded word)

  at_some : (hart : Hart) → IsComplete hart → (result : Translated) → IsSome (step_at seen hart result)
  at_some hart complete (faults cause) = refl
  at_some hart complete (reached pa) = some_bind (told seen.byte pa 4) _ (told_some pa 4) (fetched_some hart complete pa)

pub all_told : StepsWhereAllTold
unfolding step
all_told seen hart all complete = some_bind (fetch_walked seen hart) _ (translate_some seen all hart.csrs.satp (rights_of hart hart.mode) Fetch hart.pc) (λ w. at_some seen all hart complete w.result)
