-- What the loops over the segments append.
use Rattle.std.proofs.Common.{◌≡◌, ℕ, ◌+◌, ◌-◌, ◌*◌, ◌^◌, ◌<◌, ◌≤◌, true, false, eqb, List, [], ◌∷◌, ◌++◌, length, get_or, take, drop, All, replicate, inl, inr, refl, sym, ap, subst, ◌∙◌, append_assoc, arith}
use Rattle.std.specs.List.{flat_map}
use Rattle.std.proofs.lemmas.Bool.{cases_Bool}
use Rattle.std.proofs.lemmas.List.{at_drop_more, length-append, length-replicate, length-take, take-take, take_at}
use Rattle.std.proofs.lemmas.List.Concat.{flat_map-cons}
use Rattle.ram_image.specs.declared.segment.Segment.{Segment}
use Rattle.ram_image.specs.Segments.{stretch_of, stretches}
use Rattle.elf_file.specs.Writing.{PlacedSegment, placed_segment, placed, page_from, trimmed}
use Rattle.elf_file.specs.Placing.{padded_bytes, laid_from, BeginsWith, IsSmall}
use Rattle.elf_file.proofs.Trimming.{length-trimmed}
use Rattle.elf_file.proofs.Bytes.{laid_from-none, laid_from-some, page_from-lt}

-- the first of the segments that are left, and where the others follow
placed_more : (ss : List Segment) (i end : ℕ) (s : Segment) → i < length ss → s ≡ get_or ss i s
    → placed end (stretches (drop i ss)) ≡ placed_segment (page_from end) (stretch_of s) ∷ placed (page_from end + length (trimmed s.bytes.items)) (stretches (drop (i + 1) ss))
placed_more ss i end s lt is =
    at_drop_more (λ xs. placed end (stretches xs)) ss i s lt ∙ ap (λ x. placed end (stretches (x ∷ drop (i + 1) ss))) (sym is)

-- a step of the loop over the segments: the segment is placed behind end, and the file then ends at after
pub record Step (ss : List Segment) (i end : ℕ) (p : PlacedSegment) (after : ℕ) : Type 0 where
  pub below : i < length ss
  pub placed_there : (s : Segment) × (s ≡ get_or ss i s) × (p ≡ placed_segment (page_from end) (stretch_of s))
  pub ends : after ≡ p.offset + length p.bytes

placed_step : (ss : List Segment) (i end : ℕ) (p : PlacedSegment) (after : ℕ) → Step ss i end p after
    → placed end (stretches (drop i ss)) ≡ p ∷ placed after (stretches (drop (i + 1) ss))
placed_step ss i end p after step =
    let s : Segment = step.placed_there.0 in
    let is = step.placed_there.2 in
    placed_more ss i end s step.below step.placed_there.1
    ∙ ap (λ (q : PlacedSegment). q ∷ placed (q.offset + length q.bytes) (stretches (drop (i + 1) ss))) (sym is)
    ∙ ap (λ n. p ∷ placed n (stretches (drop (i + 1) ss))) (sym step.ends)

-- how far the segments' bytes reach
pub end_more : (ss : List Segment) (i end : ℕ) (p : PlacedSegment) (after : ℕ) → Step ss i end p after → All IsSmall ss → end ≤ 2 ^ 29 * (i + 1) → after ≤ 2 ^ 29 * (i + 1 + 1)
end_more ss i end p after step small low =
    let s : Segment = step.placed_there.0 in
    let fits : length s.bytes.items ≤ 2 ^ 28 = subst IsSmall (sym step.placed_there.1) (small i s step.below) in
    let offset : p.offset ≡ page_from end = ap (λ (q : PlacedSegment). q.offset) step.placed_there.2 in
    let bytes : length p.bytes ≡ length (trimmed s.bytes.items) = ap (λ (q : PlacedSegment). length q.bytes) step.placed_there.2 in
    let near : page_from end < end + 4096 = page_from-lt end in
    omega (arith, step.ends, length-trimmed s.bytes.items)

-- one more program header, or whatever else is written of a segment
pub written_more : (f : PlacedSegment → List ℕ) (ss : List Segment) (i end : ℕ) (p : PlacedSegment) (after : ℕ) (old now all : List ℕ) → Step ss i end p after → now ≡ old ++ f p
    → old ++ flat_map f (placed end (stretches (drop i ss))) ≡ all → now ++ flat_map f (placed after (stretches (drop (i + 1) ss))) ≡ all
written_more f ss i end p after old now all step is so_far =
    let rest : List PlacedSegment = placed after (stretches (drop (i + 1) ss)) in
    ap (λ xs. xs ++ flat_map f rest) is ∙ append_assoc old (f p) (flat_map f rest) ∙ ap (λ xs. old ++ xs) (sym (flat_map-cons f p rest))
    ∙ ap (λ ps. old ++ flat_map f ps) (sym (placed_step ss i end p after step)) ∙ so_far

padded_none : (from : ℕ) (p : PlacedSegment) → eqb (length p.bytes) 0 ≡ true → padded_bytes from p ≡ []
padded_none from p e = rw e refl

padded_some : (from : ℕ) (p : PlacedSegment) → eqb (length p.bytes) 0 ≡ false → padded_bytes from p ≡ replicate (p.offset - from) 0 ++ p.bytes
padded_some from p e = rw e refl

length_some : (from : ℕ) (p : PlacedSegment) → from ≤ p.offset → eqb (length p.bytes) 0 ≡ false → from + length (padded_bytes from p) ≡ p.offset + length p.bytes
length_some from p le e =
    omega (arith, ap length (padded_some from p e), length-append (replicate (p.offset - from) 0) p.bytes, length-replicate {A = ℕ} (p.offset - from) 0)

pub length-padded : (from : ℕ) (p : PlacedSegment) → from ≤ p.offset → from + length (padded_bytes from p) ≤ p.offset + length p.bytes
length-padded from p le =
    elim (cases_Bool (eqb (length p.bytes) 0)) [
      | inl e ↦ omega (arith, ap length (padded_none from p e))
      | inr e ↦ omega (arith, length_some from p le e)
    ]

laid_padded : (from : ℕ) (p : PlacedSegment) (ps : List PlacedSegment) → from ≤ p.offset → laid_from from (p ∷ ps) ≡ padded_bytes from p ++ laid_from (from + length (padded_bytes from p)) ps
laid_padded from p ps le =
    elim (cases_Bool (eqb (length p.bytes) 0)) [
      | inl e ↦
          let none : padded_bytes from p ≡ [] = padded_none from p e in
          let same : from ≡ from + length (padded_bytes from p) = omega (arith, ap length none) in
          laid_from-none from p ps e ∙ ap (λ n. laid_from n ps) same ∙ ap (λ xs. xs ++ laid_from (from + length (padded_bytes from p)) ps) (sym none)
      | inr e ↦
          let zeros : List ℕ = replicate (p.offset - from) 0 in
          laid_from-some from p ps e ∙ sym (append_assoc zeros p.bytes (laid_from (p.offset + length p.bytes) ps))
          ∙ ap (λ n. (zeros ++ p.bytes) ++ laid_from n ps) (sym (length_some from p le e))
          ∙ ap (λ xs. xs ++ laid_from (from + length (padded_bytes from p)) ps) (sym (padded_some from p e))
    ]

-- one more segment's bytes, in the file that begins at start
pub laid_more : (ss : List Segment) (i end : ℕ) (p : PlacedSegment) (after start : ℕ) (old now all : List ℕ) → Step ss i end p after
    → start ≤ length old → length old ≤ start + p.offset → now ≡ old ++ padded_bytes (length old - start) p
    → old ++ laid_from (length old - start) (placed end (stretches (drop i ss))) ≡ all
    → now ++ laid_from (length now - start) (placed after (stretches (drop (i + 1) ss))) ≡ all
laid_more ss i end p after start old now all step begun before is so_far =
    let rest : List PlacedSegment = placed after (stretches (drop (i + 1) ss)) in
    let from : ℕ = length old - start in
    let further : length now - start ≡ from + length (padded_bytes from p) = omega (arith, ap length is, length-append old (padded_bytes from p)) in
    ap (λ n. now ++ laid_from n rest) further
    ∙ ap (λ xs. xs ++ laid_from (from + length (padded_bytes from p)) rest) is
    ∙ append_assoc old (padded_bytes from p) (laid_from (from + length (padded_bytes from p)) rest)
    ∙ ap (λ xs. old ++ xs) (sym (laid_padded from p rest (omega arith)))
    ∙ ap (λ ps. old ++ laid_from from ps) (sym (placed_step ss i end p after step)) ∙ so_far

-- ---- what was there stays

begins_longer : (a b : List ℕ) → BeginsWith a b → length a ≤ length b
begins_longer a b begins = omega (arith, ap length begins, length-take (length a) b)

pub begins_further : (a b c : List ℕ) → BeginsWith a b → BeginsWith b c → BeginsWith a c
begins_further a b c first second =
    let le : length a ≤ length b = begins_longer a b first in
    sym (take-take (length a) (length b) c le) ∙ ap (λ xs. take (length a) xs) second ∙ first

pub begins_appended : (old now more : List ℕ) → now ≡ old ++ more → BeginsWith old now
begins_appended old now more is = ap (λ xs. take (length old) xs) is ∙ take_at old more (length old) refl
