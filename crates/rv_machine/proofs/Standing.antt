-- The links that a store leaves.
use Rattle.std.proofs.Common.{◌≡◌, ℕ, Bool, true, false, not, ◌&&◌, ◌||◌, eqb, cond, List, refl, ap, ◌∙◌, eqb-true}
use Rattle.std.specs.List.{filter}
use Rattle.std.proofs.lemmas.Map.Views.{any-filter_same}
use Rattle.rv_machine.specs.declared.links.Link.{Link}
use Rattle.rv_machine.specs.Links.{stands}

-- a link that a store of the hart to the granule leaves
abbrev pub stays : ℕ → ℕ → Link → Bool
stays hart place l = not (eqb l.granule place) || eqb l.hart hart

both : (p q : Bool) → (p && q) ≡ true → (p ≡ true) × (q ≡ true)
both true true e = (refl, refl)
both true false e = absurd cc
both false q e = absurd cc

stays_alike : (hart place h g : ℕ) (l : Link) → (eqb l.granule g && eqb l.hart h) ≡ true → stays hart place l ≡ (not (eqb g place) || eqb h hart)
stays_alike hart place h g l is =
    let parts = both (eqb l.granule g) (eqb l.hart h) is in
    let granule : l.granule ≡ g = eqb-true l.granule g parts.0 in
    let own : l.hart ≡ h = eqb-true l.hart h parts.1 in
    ap (λ n. not (eqb n place) || eqb l.hart hart) granule ∙ ap (λ n. not (eqb g place) || eqb n hart) own

by_cases : (p q s : Bool) → ((not p || q) && s) ≡ cond p (cond q s false) s
by_cases true true s = refl
by_cases true false s = refl
by_cases false q s = refl

pub left_standing : (links : List Link) (hart place h g : ℕ)
    → stands (filter (stays hart place) links) h g ≡ cond (eqb g place) (cond (eqb h hart) (stands links h g) false) (stands links h g)
left_standing links hart place h g =
    any-filter_same (λ (l : Link). eqb l.granule g && eqb l.hart h) (stays hart place) (not (eqb g place) || eqb h hart) (stays_alike hart place h g) links
    ∙ by_cases (eqb g place) (eqb h hart) (stands links h g)
