-- The entries of a way that were fixed before are as they were.
use Rattle.std.proofs.Common.{◌⊎◌, ℕ, ◌+◌, ◌*◌, ◌/◌, ◌≡◌, Bool, true, false, cond, List, [], ◌∷◌, Option, Some, None, inl, inr, refl}
use Rattle.std.specs.Prelude.{suc, zero, ◌==◌, ◌^◌}
use Rattle.rv_fields.specs.Effect.{Entry}
use Rattle.region_plan.specs.Plan.{page_size}
use Rattle.boot_words.specs.Layout.{pte_of, table_at}
use Rattle.table_space.specs.Tables.{TableSpace, entry_for_page, points_to_table, way, way_at}

abbrev pub EachEntry : (Entry → Type 0) → List Entry → Type 0
EachEntry P [] = Unit {0}
EachEntry P (e ∷ es) = P e × EachEntry P es

abbrev pub Agrees : (ℕ → Option ℕ) → Entry → Type 0
Agrees entries e = (entries e.at ≡ None) ⊎ (entries e.at ≡ Some e.pte)

at_agrees : (space : TableSpace) (lies : Bool) (leaf level made at : ℕ) (below : ℕ → ℕ → List Entry) → ((t n : ℕ) → EachEntry (Agrees space.entries) (below t n)) → (pte : Option ℕ) → space.entries at ≡ pte
    → EachEntry (Agrees space.entries) (way_at space lies leaf level made at below pte)
at_agrees space lies leaf level made at below each (Some pte) e = (inr e, of (points_to_table pte))
  where
    of : (t : Bool) → EachEntry (Agrees space.entries) (cond t (below (pte / 2 ^ 10 * page_size) made) [])
    of true = each _ _
    of false = tt
at_agrees space true leaf level made at below each None e = of (level == 0)
  where
    of : (t : Bool) → EachEntry (Agrees space.entries) (cond t (record { at = at; pte = leaf } ∷ []) (record { at = at; pte = pte_of (table_at space.number made) 1 } ∷ below (table_at space.number made) (made + 1)))
    of true = (inl e, tt)
    of false = (inl e, each _ _)
at_agrees space false leaf level made at below each None e = (inl e, tt)

pub way_agrees : (space : TableSpace) (lies : ℕ → Bool) (leaf page level table made : ℕ) → EachEntry (Agrees space.entries) (way space lies leaf page level table made)
way_agrees space lies leaf page zero table made = tt
way_agrees space lies leaf page (suc level) table made =
    at_agrees space (lies level) leaf level made (entry_for_page table page level) (way space lies leaf page level) (way_agrees space lies leaf page level) _ refl
