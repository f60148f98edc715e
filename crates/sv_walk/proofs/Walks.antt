-- A walk from an entry on.
use Rattle.std.proofs.Common.{ℕ, suc, ◌-◌, ◌<◌, ◌≡◌, List, [], ◌∷◌, ◌++◌, Option, Some, None, option_map, IsSome, true, cond, ap, sym, subst, ◌∙◌, refl, append_assoc, arith}
use Rattle.rv_fields.specs.declared.access.Access.{Access}
use Rattle.rv_fields.specs.Attempt.{◌>>=◌}
use Rattle.rv_fields.specs.Effect.{Entry}
use Rattle.rv_fields.specs.Sv39.{Entries, Rights, Walked, behind_entry, entry_at, entry_walked, faults, is_canonical, page_fault, pte_walked, root_of, walk, walk_from}
use Rattle.sv_walk.proofs.Trails.{entry}
use Rattle.sv_walk.specs.Views.{behind_trail}
use Rattle.sv_walk.specs.Needs.{IfUnknown, Needs}
use Rattle.sv_walk.specs.declared.walked.Walked as told
use Rattle.sv_walk.specs.declared.walked.Walked.TheVariants.{Page, Fault, Unknown}

pub behind_none : (w : Option Walked) → option_map (behind_trail []) w ≡ w
behind_none None = refl
behind_none (Some w) = refl

pub behind_one_more : (before : List Entry) (e : Entry) (w : Option Walked)
    → option_map (behind_trail (before ++ (e ∷ []))) w ≡ option_map (behind_trail before) (option_map (behind_entry e) w)
behind_one_more before e None = refl
behind_one_more before e (Some w) =
    let trails : List Entry → Option Walked = λ es. Some (record { trail = es; result = w.result }) in
    ap trails (append_assoc before (e ∷ []) w.trail)

of_map : (f : Walked → Walked) (o : Option Walked) → IsSome (option_map f o) → IsSome o
of_map f None some = some
of_map f (Some w) some = refl

pub in_unknown : (P Q : ℕ → ℕ → Type 0) (w : told.Walked) → ((at level : ℕ) → P at level → Q at level) → IfUnknown P w → IfUnknown Q w
in_unknown P Q (Page pa trail) more holds = holds
in_unknown P Q (Fault cause trail) more holds = holds
in_unknown P Q (Unknown at level) more holds = more at level holds

-- a walk from the root, before which no entry was read
pub from_root : (entries : Entries) (satp : ℕ) (rights : Rights) (access : Access) (va root : ℕ) (trail : List Entry) (result : Option Walked)
    → true ≡ is_canonical va → root ≡ root_of satp → trail ≡ []
    → result ≡ option_map (behind_trail trail) (walk_from entries access rights va 3 root) → result ≡ walk entries satp rights access va
from_root entries satp rights access va root trail result canonical at_root none is =
    let fault : Option Walked = Some (record { trail = []; result = faults (page_fault access) }) in
    is ∙ ap (λ es. option_map (behind_trail es) (walk_from entries access rights va 3 root)) none
    ∙ behind_none (walk_from entries access rights va 3 root)
    ∙ ap (walk_from entries access rights va 3) at_root
    ∙ ap (λ b. cond b (walk_from entries access rights va 3 (root_of satp)) fault) canonical

-- a walk by an entry that is told
by_entry : (access : Access) (rights : Rights) (va level table : ℕ) (entries : Entries) (pte : ℕ)
    → entries (entry_at va level table) ≡ Some (Some pte)
    → walk_from entries access rights va (suc level) table
    ≡ option_map (behind_entry (entry (entry_at va level table) pte)) (pte_walked access rights va level pte (walk_from entries access rights va level))
by_entry access rights va level table entries pte is =
    ap (λ o. o >>= entry_walked access rights va level (entry_at va level table) (walk_from entries access rights va level)) is

-- The entry at this place, which these entries tell, leads below: to the table of this page number.
pub record Leads (access : Access) (rights : Rights) (va level table : ℕ) (entries : Entries) (pte below : ℕ) : Type 0 where
  pub is_told : entries (entry_at va level table) ≡ Some (Some pte)
  pub has_below : 0 < level
  pub next : (rest : ℕ → Option Walked) → rest below ≡ pte_walked access rights va level pte rest

module _ (access : Access) (rights : Rights) (va level table : ℕ) (entries : Entries) (pte below : ℕ)
    (leads : Leads access rights va level table entries pte below) where
  by_pointer : (more : Entries) → more (entry_at va level table) ≡ Some (Some pte)
      → walk_from more access rights va (suc level) table
      ≡ option_map (behind_entry (entry (entry_at va level table) pte)) (walk_from more access rights va (suc (level - 1)) below)
  by_pointer more is =
      let low : level ≡ suc (level - 1) = omega (arith, leads.has_below) in
      by_entry access rights va level table more pte is
      ∙ ap (option_map (behind_entry (entry (entry_at va level table) pte))) (sym (leads.next (walk_from more access rights va level)))
      ∙ ap (λ levels. option_map (behind_entry (entry (entry_at va level table) pte)) (walk_from more access rights va levels below)) low

  -- the walk goes on from there, with the entry in its trail
  pub walked_below : (before trail : List Entry) (place : ℕ) (result : Option Walked)
      → place ≡ entry_at va level table → trail ≡ before ++ (entry place pte ∷ [])
      → result ≡ option_map (behind_trail trail) (walk_from entries access rights va (suc (level - 1)) below)
      → result ≡ option_map (behind_trail before) (walk_from entries access rights va (suc level) table)
  walked_below before trail place result at_place longer is =
      is ∙ ap (λ es. option_map (behind_trail es) (walk_from entries access rights va (suc (level - 1)) below)) longer
      ∙ ap (λ at. option_map (behind_trail (before ++ (entry at pte ∷ []))) (walk_from entries access rights va (suc (level - 1)) below)) at_place
      ∙ behind_one_more before (entry (entry_at va level table) pte) (walk_from entries access rights va (suc (level - 1)) below)
      ∙ ap (option_map (behind_trail before)) (sym (by_pointer entries leads.is_told))

  -- what it needs from there on, it needs
  pub needs_below : (at low : ℕ)
      → Needs (λ e. walk_from e access rights va (suc (level - 1)) below) entries va at low
      → Needs (λ e. walk_from e access rights va (suc level) table) entries va at low
  needs_below at low needs = record {
    untold = needs.untold;
    has_level = needs.has_level;
    has_place = needs.has_place;
    needed = λ more tells some.
        (let behind : Walked → Walked = behind_entry (entry (entry_at va level table) pte) in
        let by = by_pointer more (tells.same (entry_at va level table) (Some pte) leads.is_told) in
        let some_below : IsSome (option_map behind (walk_from more access rights va (suc (level - 1)) below)) = subst (λ (o : Option Walked). IsSome o) by some in
        needs.needed more tells (of_map behind (walk_from more access rights va (suc (level - 1)) below) some_below));
  }
