-- Translation leaves an address's place in a doubleword, so what is aligned stays so.
use Rattle.std.proofs.Common.{◌≡◌, ℕ, suc, zero, ◌+◌, ◌*◌, ◌%◌, ◌^◌, Bool, true, false, cond, List, [], Option, Some, None, refl, not, ◌&&◌, eqb}
use Rattle.rv_fields.specs.declared.access.Access.{Access}
use Rattle.rv_fields.specs.Memory.{IsSize}
use Rattle.rv_fields.specs.Sv39.{Entries, Rights, Translated, Walked, reached, faults, leaf_translated, pte_walked, pointer_walked, entry_walked, entry_at, walk_from, walk, translate, allows, page_number, is_formed, is_pointer, is_good_pointer, is_bare, is_canonical, root_of, page_fault, access_fault, behind_entry}
use Rattle.rv_fields.proofs.Options.{Always, always_some, always_if, always_map, always_bind}
use Rattle.rv_fields.proofs.Ranges.{in_leaf, aligned_at}

abbrev StaysInPlace : ℕ → Translated → Type 0
StaysInPlace va (reached pa) = pa % 8 ≡ va % 8
StaysInPlace va (faults cause) = Unit {0}

record InPlace (va : ℕ) (w : Walked) : Type 0 where
  result : StaysInPlace va w.result

stays_if : (va : ℕ) (b : Bool) (p q : Translated) → StaysInPlace va p → StaysInPlace va q → StaysInPlace va (cond b p q)
stays_if va true p q h k = h
stays_if va false p q h k = k

module _ (entries : Entries) (access : Access) (rights : Rights) (va : ℕ) where
  fault : (cause : ℕ) → Always (InPlace va) (Some (record { trail = []; result = faults cause }))
  fault cause = always_some (InPlace va) _ (record { result = tt })

  by_pte : (level pte : ℕ) (below : ℕ → Option Walked) → ((t : ℕ) → Always (InPlace va) (below t)) → Always (InPlace va) (pte_walked access rights va level pte below)
  by_pte level pte below h =
      always_if (InPlace va) (is_formed pte) _ _
      (always_if (InPlace va) (is_pointer pte) _ _
      (always_if (InPlace va) (is_good_pointer pte && not (eqb level 0)) _ _ (h (page_number pte)) (fault (page_fault access)))
      (always_some (InPlace va) _ (record {
        result = stays_if va (allows access rights pte && eqb (page_number pte % 2 ^ (9 * level)) 0) (reached (page_number pte * 2 ^ 12 + va % 2 ^ (12 + 9 * level)))
            (faults (page_fault access)) (in_leaf va (page_number pte) level) tt;
      })))
      (fault (page_fault access))

  by_entry : (level at : ℕ) (below : ℕ → Option Walked) → ((t : ℕ) → Always (InPlace va) (below t)) → (pte : Option ℕ)
      → Always (InPlace va) (entry_walked access rights va level at below pte)
  by_entry level at below h None = fault (access_fault access)
  by_entry level at below h (Some pte) =
      always_map (InPlace va) (behind_entry (record { at = at; pte = pte })) (pte_walked access rights va level pte below) (λ w found_it.
      record { result = (by_pte level pte below h w found_it).result })

  by_walk : (level table : ℕ) → Always (InPlace va) (walk_from entries access rights va level table)
  by_walk zero table = fault (page_fault access)
  by_walk (suc level) table =
      always_bind (InPlace va) (entries (entry_at va level table)) _ (λ pte is. by_entry level (entry_at va level table) (walk_from entries access rights va level) (by_walk level) pte)

  by_translation : (satp : ℕ) → Always (InPlace va) (translate entries satp rights access va)
  by_translation satp =
      always_if (InPlace va) (is_bare rights.mode satp) _ _ (always_some (InPlace va) _ (record { result = refl }))
      (always_if (InPlace va) (is_canonical va) _ _ (by_walk 3 (root_of satp)) (fault (page_fault access)))

-- where an aligned address is translated to
pub aligned_there : (entries : Entries) (access : Access) (rights : Rights) (satp va size pa : ℕ) (w : Walked)
    → IsSize size → va % size ≡ 0 → translate entries satp rights access va ≡ Some w → w.result ≡ reached pa → pa % size ≡ 0
aligned_there entries access rights satp va size pa w is aligned walked result =
    aligned_at size va pa is (place w.result (by_translation entries access rights va satp w walked).result result) aligned
  where
    place : (t : Translated) → StaysInPlace va t → t ≡ reached pa → pa % 8 ≡ va % 8
    place (reached p) stays same = let at : p ≡ pa = cc in rw (← at) stays
    place (faults cause) stays same = absurd cc
