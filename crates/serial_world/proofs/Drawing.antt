-- Turns that are drawn.
use Rattle.std.proofs.Common.{ℕ, zero, suc, ◌+◌, ◌%◌, ◌<◌, ◌≤◌, ◌≡◌, ◌≢◌, ◌⊎◌, inl, inr, Bool, true, false, cond, not, List, [], ◌∷◌, ◌++◌, append_assoc, Some, ap, arith, length, refl, subst, sym, ◌∙◌}
use Rattle.std.specs.List.{range_with_len, remove}
use Rattle.std.specs.Prelude.{filter, slice_get}
use Rattle.std.proofs.lemmas.Bool.{cases_eq, not-false, not-true}
use Rattle.std.proofs.lemmas.List.{append-nil}
use Rattle.std.proofs.lemmas.List.Elements.{filter_agree}
use Rattle.choice_tree.specs.Draws.{word_of}
use Rattle.world_face.specs.Events.{Event}
use Rattle.hart_task.specs.Schedule.{FollowsSeed, has_ended, schedule_stream, unfinished}
use Rattle.serial_world.proofs.Turning.{ended_other}

-- ---- what a filter of a range keeps

kept_above : (p : ℕ → Bool) (n b i h : ℕ) → slice_get (filter p (range_with_len b n)) i ≡ Some h → b ≤ h
kept_above p zero b i h at = cc
kept_above p (suc n) b i h at = of (p b) i at (λ j there. kept_above p n (b + 1) j h there)
  where
    of : (t : Bool) (i : ℕ) → slice_get (cond t (b ∷ filter p (range_with_len (b + 1) n)) (filter p (range_with_len (b + 1) n))) i ≡ Some h
        → ((j : ℕ) → slice_get (filter p (range_with_len (b + 1) n)) j ≡ Some h → b + 1 ≤ h) → b ≤ h
    of true zero at rest = let same : b ≡ h = cc in omega (arith, same)
    of true (suc i) at rest = let more = rest i at in omega (arith, more)
    of false i at rest = let more = rest i at in omega (arith, more)

kept_below : (p : ℕ → Bool) (n b i h : ℕ) → slice_get (filter p (range_with_len b n)) i ≡ Some h → h < b + n
kept_below p zero b i h at = cc
kept_below p (suc n) b i h at = of (p b) i at (λ j there. kept_below p n (b + 1) j h there)
  where
    of : (t : Bool) (i : ℕ) → slice_get (cond t (b ∷ filter p (range_with_len (b + 1) n)) (filter p (range_with_len (b + 1) n))) i ≡ Some h
        → ((j : ℕ) → slice_get (filter p (range_with_len (b + 1) n)) j ≡ Some h → h < (b + 1) + n) → h < b + suc n
    of true zero at rest = let same : b ≡ h = cc in omega (arith, same)
    of true (suc i) at rest = let more = rest i at in omega (arith, more)
    of false i at rest = let more = rest i at in omega (arith, more)

kept_passes : (p : ℕ → Bool) (xs : List ℕ) (i h : ℕ) → slice_get (filter p xs) i ≡ Some h → p h ≡ true
kept_passes p [] i h at = cc
kept_passes p (x ∷ xs) i h at = of (p x) refl i at (λ j there. kept_passes p xs j h there)
  where
    of : (t : Bool) → t ≡ p x → (i : ℕ) → slice_get (cond t (x ∷ filter p xs) (filter p xs)) i ≡ Some h → ((j : ℕ) → slice_get (filter p xs) j ≡ Some h → p h ≡ true) → p h ≡ true
    of true is zero at rest = let same : x ≡ h = cc in ap p (sym same) ∙ sym is
    of true is (suc i) at rest = rest i at
    of false is i at rest = rest i at

kept_all : (p : ℕ → Bool) (xs : List ℕ) → ((x : ℕ) → p x ≡ true) → filter p xs ≡ xs
kept_all p [] all = refl
kept_all p (x ∷ xs) all = ap (λ t. cond t (x ∷ filter p xs) (filter p xs)) (all x) ∙ ap (λ l. x ∷ l) (kept_all p xs all)

-- a number that comes below the range makes no difference to it
agree_above : (p q : ℕ → Bool) (h : ℕ) → ((x : ℕ) → x ≢ h → q x ≡ p x) → (n b : ℕ) → h < b → filter p (range_with_len b n) ≡ filter q (range_with_len b n)
agree_above p q h same zero b above = refl
agree_above p q h same (suc n) b above =
    let rest = agree_above p q h same n (b + 1) (omega (arith, above)) in
    let here : p b ≡ q b = sym (same b (λ is. omega (arith, is, above))) in
    ap (λ t. cond t (b ∷ filter p (range_with_len (b + 1) n)) (filter p (range_with_len (b + 1) n))) here ∙ ap (λ l. cond (q b) (b ∷ l) l) rest

-- The number at a place of a filtered range is removed where it alone no longer passes.
removed : (p q : ℕ → Bool) (h : ℕ) → ((x : ℕ) → x ≢ h → q x ≡ p x) → q h ≡ false → (n b i : ℕ) → slice_get (filter p (range_with_len b n)) i ≡ Some h
    → remove (filter p (range_with_len b n)) i ≡ filter q (range_with_len b n)
removed p q h same gone zero b i at = cc
removed p q h same gone (suc n) b i at = of (p b) refl i at (λ j there. removed p q h same gone n (b + 1) j there)
  where
    of : (t : Bool) → t ≡ p b → (i : ℕ) → slice_get (cond t (b ∷ filter p (range_with_len (b + 1) n)) (filter p (range_with_len (b + 1) n))) i ≡ Some h
        → ((j : ℕ) → slice_get (filter p (range_with_len (b + 1) n)) j ≡ Some h → remove (filter p (range_with_len (b + 1) n)) j ≡ filter q (range_with_len (b + 1) n))
        → remove (cond t (b ∷ filter p (range_with_len (b + 1) n)) (filter p (range_with_len (b + 1) n))) i ≡ cond (q b) (b ∷ filter q (range_with_len (b + 1) n)) (filter q (range_with_len (b + 1) n))
    of true is zero at rest =
        let here : b ≡ h = cc in
        let no : q b ≡ false = ap q here ∙ gone in
        agree_above p q h same n (b + 1) (omega (arith, here)) ∙ sym (ap (λ t. cond t (b ∷ filter q (range_with_len (b + 1) n)) (filter q (range_with_len (b + 1) n))) no)
    of true is (suc i) at rest =
        let above = kept_above p n (b + 1) i h at in
        let yes : q b ≡ true = same b (λ here. omega (arith, here, above)) ∙ sym is in
        ap (λ l. b ∷ l) (rest i at) ∙ sym (ap (λ t. cond t (b ∷ filter q (range_with_len (b + 1) n)) (filter q (range_with_len (b + 1) n))) yes)
    of false is i at rest =
        let above = kept_above p n (b + 1) i h at in
        let no : q b ≡ false = same b (λ here. omega (arith, here, above)) ∙ sym is in
        rest i at ∙ sym (ap (λ t. cond t (b ∷ filter q (range_with_len (b + 1) n)) (filter q (range_with_len (b + 1) n))) no)

-- ---- the unfinished harts

pub unfinished_at_first : (harts : ℕ) → unfinished harts [] ≡ range_with_len 0 harts
unfinished_at_first harts = kept_all (λ h. not (has_ended [] h)) (range_with_len 0 harts) (λ h. refl)

pub unfinished_member : (harts : ℕ) (before : List Event) (i h : ℕ) → slice_get (unfinished harts before) i ≡ Some h → h < harts
unfinished_member harts before i h at = let below = kept_below (λ k. not (has_ended before k)) harts 0 i h at in omega (arith, below)

pub unfinished_goes_on : (harts : ℕ) (before : List Event) (i h : ℕ) → slice_get (unfinished harts before) i ≡ Some h → has_ended before h ≡ false
unfinished_goes_on harts before i h at = not-true (has_ended before h) (kept_passes (λ k. not (has_ended before k)) (range_with_len 0 harts) i h at)

-- the hart of the event has ended
pub unfinished_less : (harts : ℕ) (before : List Event) (e : Event) (i h : ℕ) → slice_get (unfinished harts before) i ≡ Some h → e.hart ≡ h → has_ended (before ++ e ∷ []) h ≡ true
    → remove (unfinished harts before) i ≡ unfinished harts (before ++ e ∷ [])
unfinished_less harts before e i h at own ended =
    removed (λ k. not (has_ended before k)) (λ k. not (has_ended (before ++ e ∷ []) k)) h (λ k other. ap not (ended_other before e k (λ same. other (sym same ∙ own)))) (ap not ended) harts 0 i at

-- it goes on
pub unfinished_same : (harts : ℕ) (before : List Event) (e : Event) (h : ℕ) → e.hart ≡ h → has_ended before h ≡ false → has_ended (before ++ e ∷ []) h ≡ false
    → unfinished harts before ≡ unfinished harts (before ++ e ∷ [])
unfinished_same harts before e h own on ended =
    filter_agree (λ k. not (has_ended before k)) (λ k. not (has_ended (before ++ e ∷ []) k)) (λ k. ap not (at k (cases_eq h k))) (range_with_len 0 harts)
  where
    at : (k : ℕ) → (h ≡ k) ⊎ (h ≡ k → ⊥) → has_ended before k ≡ has_ended (before ++ e ∷ []) k
    at k (inl same) = subst (λ n. has_ended before n ≡ has_ended (before ++ e ∷ []) n) same (on ∙ sym ended)
    at k (inr other) = sym (ended_other before e k (λ same. other (sym own ∙ same)))

none_passes : (p : ℕ → Bool) (n b : ℕ) → filter p (range_with_len b n) ≡ [] → (h : ℕ) → b ≤ h → h < b + n → p h ≡ false
none_passes p zero b none h above below = absurd (omega (arith, above, below))
none_passes p (suc n) b none h above below = of (p b) refl none (cases_eq b h) (λ rest other. none_passes p n (b + 1) rest h (omega (arith, above, other)) (omega (arith, below)))
  where
    of : (t : Bool) → t ≡ p b → cond t (b ∷ filter p (range_with_len (b + 1) n)) (filter p (range_with_len (b + 1) n)) ≡ [] → (b ≡ h) ⊎ (b ≡ h → ⊥)
        → (filter p (range_with_len (b + 1) n) ≡ [] → (b ≡ h → ⊥) → p h ≡ false) → p h ≡ false
    of true is none at rest = cc
    of false is none (inl same) rest = ap p (sym same) ∙ sym is
    of false is none (inr other) rest = rest none other

-- where none is left, each has ended
pub none_unfinished : (harts : ℕ) (before : List Event) → unfinished harts before ≡ [] → (h : ℕ) → h < harts → has_ended before h ≡ true
none_unfinished harts before none h member = not-false (has_ended before h) (none_passes (λ k. not (has_ended before k)) harts 0 none h (omega arith) (omega (arith, member)))

-- ---- the turns

pub follows_seed_more : (harts seed : ℕ) (before added : List Event) (e : Event) → FollowsSeed harts seed before added
    → slice_get (unfinished harts (before ++ added)) (word_of seed schedule_stream (length (before ++ added)) % length (unfinished harts (before ++ added))) ≡ Some e.hart
    → FollowsSeed harts seed before (added ++ e ∷ [])
follows_seed_more harts seed before [] e follows next =
    (subst (λ l. slice_get (unfinished harts l) (word_of seed schedule_stream (length l) % length (unfinished harts l)) ≡ Some e.hart) (append-nil before) next, tt)
follows_seed_more harts seed before (x ∷ xs) e follows next = (
  follows.0,
  follows_seed_more harts seed (before ++ x ∷ []) xs e follows.1
      (subst (λ l. slice_get (unfinished harts l) (word_of seed schedule_stream (length l) % length (unfinished harts l)) ≡ Some e.hart) (sym (append_assoc before (x ∷ []) xs)) next),
)
