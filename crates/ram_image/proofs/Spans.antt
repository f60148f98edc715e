-- Spans of addresses: those in RAM, and those that share no address.
use Rattle.std.proofs.Common.{◌≡◌, ℕ, ◌+◌, ◌-◌, ◌<◌, ◌≤◌, true, eqb, leb, ◌⊎◌, inl, inr, IsTrue, arith}
use Rattle.std.proofs.lemmas.Bool.{and_from, and_parts, eqb-true, le-leb, leb-true, or_cases, or_right}
use Rattle.std.proofs.lemmas.Bool.Decides.{nat_tests}
use Rattle.rv_fields.specs.Memory.{in_ram, ram_end, ram_start}
use Rattle.ram_image.specs.Segments.{Span, is_apart, lies_in_ram}

-- ---- in RAM

pub in_ram_parts : (at size : ℕ) → IsTrue (in_ram at size) → (ram_start ≤ at) × (at + size ≤ ram_end)
in_ram_parts at size inside =
    let both = and_parts (leb ram_start at) (leb (at + size) ram_end) inside in
    (leb-true ram_start at both.0, leb-true (at + size) ram_end both.1)

pub span_parts : (s : Span) → lies_in_ram s ≡ true → (s.size ≡ 0) ⊎ ((ram_start ≤ s.at) × (s.at + s.size ≤ ram_end))
span_parts s ram =
    elim (or_cases (eqb s.size 0) (in_ram s.at s.size) ram) [
      | inl e ↦ inl (eqb-true s.size 0 e)
      | inr e ↦ inr (in_ram_parts s.at s.size e)
    ]

pub span_in_ram : (s : Span) → ram_start ≤ s.at → s.at + s.size ≤ ram_end → lies_in_ram s ≡ true
span_in_ram s low high = or_right _ _ (and_from _ _ (le-leb ram_start s.at low) (le-leb (s.at + s.size) ram_end high))

pub size_in_ram : (at size : ℕ) → (size ≡ 0) ⊎ ((ram_start ≤ at) × (at + size ≤ ram_end)) → size ≤ ram_end - ram_start
size_in_ram at size (inl none) = omega arith
size_in_ram at size (inr within) = omega (arith, within)

-- ---- apart

pub apart_none : (s t : Span) → s.size ≡ 0 → is_apart s t ≡ true
apart_none s t none = grind (arith, nat_tests)

pub apart_other_none : (s t : Span) → t.size ≡ 0 → is_apart s t ≡ true
apart_other_none s t none = grind (arith, nat_tests)

pub apart_before : (s t : Span) → s.at + s.size ≤ t.at → is_apart s t ≡ true
apart_before s t before = grind (arith, nat_tests)

pub apart_behind : (s t : Span) → t.at + t.size ≤ s.at → is_apart s t ≡ true
apart_behind s t behind = grind (arith, nat_tests)

pub apart_cases : (s t : Span) → is_apart s t ≡ true → 0 < s.size → 0 < t.size → (s.at + s.size ≤ t.at) ⊎ (t.at + t.size ≤ s.at)
apart_cases s t apart some other = grind (arith, nat_tests)
