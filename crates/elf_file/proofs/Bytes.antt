-- The bytes of placed segments stand in the file where their headers say.
use Rattle.std.proofs.Common.{◌≡◌, ℕ, ◌+◌, ◌-◌, ◌<◌, ◌≤◌, true, false, eqb, List, [], ◌∷◌, ◌++◌, length, get_or, replicate, ◌⊎◌, inl, inr, refl, sym, ap, subst, ◌∙◌, append_assoc, arith}
use Rattle.std.specs.List.{AllByRecursion}
use Rattle.std.proofs.lemmas.Bool.{eqb-true, cases_Bool}
use Rattle.std.proofs.lemmas.List.{length-append, length-replicate, get_or_append_left, get_or-append-add}
use Rattle.ram_image.specs.Segments.{Stretch}
use Rattle.elf_file.specs.Placing.{laid_from}
use Rattle.elf_file.specs.Writing.{PlacedSegment, placed_segment, placed, page_from}

-- the file has the segment's bytes where they are placed
pub record Has (file : List ℕ) (p : PlacedSegment) : Type 0 where
  pub there : (length p.bytes ≡ 0) ⊎ (p.offset + length p.bytes ≤ length file)
  pub bytes : (i : ℕ) → i < length p.bytes → get_or file (p.offset + i) 0 ≡ get_or p.bytes i 0

pub le-page_from : (end : ℕ) → end ≤ page_from end
le-page_from end = omega arith

pub page_from-lt : (end : ℕ) → page_from end < end + 4096
page_from-lt end = omega arith

has_none : (file : List ℕ) (p : PlacedSegment) → length p.bytes ≡ 0 → Has file p
has_none file p none = record { there = inl none; bytes = λ i lt. absurd (omega arith) }

has_some : (front rest : List ℕ) (p : PlacedSegment) → length front ≡ p.offset → Has (front ++ (p.bytes ++ rest)) p
has_some front rest p is = record {
  there = inr (omega (arith, length-append front (p.bytes ++ rest), length-append p.bytes rest));
  bytes = λ i lt.
      ap (λ n. get_or (front ++ (p.bytes ++ rest)) (n + i) 0) (sym is)
      ∙ get_or-append-add front (p.bytes ++ rest) i 0 ∙ get_or_append_left p.bytes rest 0 i lt;
}

pub laid_from-none : (from : ℕ) (p : PlacedSegment) (ps : List PlacedSegment) → eqb (length p.bytes) 0 ≡ true → laid_from from (p ∷ ps) ≡ laid_from from ps
laid_from-none from p ps e = rw e refl

pub laid_from-some : (from : ℕ) (p : PlacedSegment) (ps : List PlacedSegment) → eqb (length p.bytes) 0 ≡ false
    → laid_from from (p ∷ ps) ≡ replicate (p.offset - from) 0 ++ (p.bytes ++ laid_from (p.offset + length p.bytes) ps)
laid_from-some from p ps e = rw e refl

-- a file that begins with front, and goes on with the bytes of the segments
pub has_placed : (ss : List Stretch) (front : List ℕ) (from end : ℕ) (file : List ℕ)
    → length front ≡ from → from ≤ end → file ≡ front ++ laid_from from (placed end ss) → AllByRecursion (Has file) (placed end ss)
has_placed [] front from end file at le is = tt
has_placed (s ∷ ss) front from end file at le is =
    let p : PlacedSegment = placed_segment (page_from end) s in
    let behind : ℕ = p.offset + length p.bytes in
    elim (cases_Bool (eqb (length p.bytes) 0)) [
      | inl e ↦ (
        has_none file p (eqb-true (length p.bytes) 0 e),
        has_placed ss front from behind file at (omega (arith, le-page_from end)) (is ∙ ap (λ (xs : List ℕ). front ++ xs) (laid_from-none from p (placed behind ss) e)),
      )
      | inr e ↦
          let zeros : List ℕ = replicate (p.offset - from) 0 in
          let rest : List ℕ = laid_from behind (placed behind ss) in
          let split : file ≡ (front ++ zeros) ++ (p.bytes ++ rest) =
          is ∙ ap (λ (xs : List ℕ). front ++ xs) (laid_from-some from p (placed behind ss) e) ∙ sym (append_assoc front zeros (p.bytes ++ rest)) in
          let start : length (front ++ zeros) ≡ p.offset = omega (arith, length-append front zeros, length-replicate {A = ℕ} (p.offset - from) 0, le-page_from end) in
          let finish : length ((front ++ zeros) ++ p.bytes) ≡ behind = omega (arith, length-append (front ++ zeros) p.bytes) in (
            subst (λ (xs : List ℕ). Has xs p) (sym split) (has_some (front ++ zeros) rest p start),
            has_placed ss ((front ++ zeros) ++ p.bytes) behind behind file finish (omega arith) (split ∙ sym (append_assoc (front ++ zeros) p.bytes rest)),
          )
    ]
