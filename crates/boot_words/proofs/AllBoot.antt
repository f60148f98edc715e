-- All harts boot, one after another, and then do what is told.
use Rattle.std.proofs.Common.{ℕ, zero, suc, ◌+◌, ◌<◌, ◌≤◌, ◌≡◌, ◌≢◌, Bool, true, false, cond, eqb, eq-eqb, List, [], ◌∷◌, ◌++◌, length, replicate, Some, None, refl, sym, ap, subst, ◌∙◌, arith, inl, inr, append_assoc, append-nil, length-append, ◌-◌}
use Rattle.std.specs.Prelude.{⊤, nat_le, slice_get, take}
use Rattle.std.specs.List.{AllByRecursion}
use Rattle.std.proofs.lemmas.Bool.{ne_eqb}
use Rattle.std.proofs.lemmas.Bool.Decides.{eqb_tells, nat_tests}
use Rattle.rv_fields.specs.Effect.{Effect}
use Rattle.rv_fields.specs.Hart.{Hart}
use Rattle.rv_fields.specs.Memory.{Seen}
use Rattle.rv_fields.specs.Play.{IsReset, Machine, Plays, after_step, most_harts}
use Rattle.boot_words.specs.Boot.{mret, spelled}
use Rattle.boot_words.specs.Booting.{AreLoadable, Executes, HoldsBoot, IsBootedBy, Loads, boot_steps, booting_words}
use Rattle.boot_words.specs.Passing.{BeginsWithBoot, PlaysAsTold, behind_boots, boots_from, effects_by}
use Rattle.boot_words.proofs.Booted.{boots}

-- ---- a hart's run as a play

-- the effects of a hart that executes these words without a trap
abbrev pub AreOf : ℕ → List ℕ → List Effect → Type 0
AreOf h [] [] = ⊤
AreOf h [] (e ∷ effects) = ⊥
AreOf h (word ∷ words) [] = ⊥
AreOf h (word ∷ words) (e ∷ effects) = (e.hart ≡ h) × (e.word ≡ Some word) × (e.trap ≡ None) × AreOf h words effects

record Played (m : Machine) (h : ℕ) (words : List ℕ) (end : Hart) : Type 0 where
  effects : List Effect
  to : Machine
  plays : Plays m (replicate (length words) h) effects to
  are : AreOf h words effects
  seen : to.seen ≡ m.seen
  hart : to.harts h ≡ end
  others : (k : ℕ) → k ≢ h → to.harts k ≡ m.harts k

played : (words : List ℕ) (m : Machine) (h : ℕ) (end : Hart) → Executes m.seen h (m.harts h) words end → Played m h words end
played [] m h end runs = record { effects = []; to = m; plays = refl; are = tt; seen = refl; hart = sym runs; others = λ k apart. refl }
played (word ∷ words) m h end runs =
    let s = runs.0 in
    let next : Machine = after_step m h s in
    let kept : next.seen ≡ m.seen = runs.2.memory in
    let there : next.harts h ≡ s.hart = ap (λ t. cond t s.hart (m.harts h)) (eq-eqb h h refl) in
    let rest = played words next h end (subst (λ hart. Executes next.seen h hart words end) (sym there) (subst (λ seen. Executes seen h s.hart words end) (sym kept) runs.3)) in
    record {
      effects = s.effect ∷ rest.effects;
      to = rest.to;
      plays = (s, runs.1, refl, rest.plays);
      are = (runs.2.hart, runs.2.executes, runs.2.trap, rest.are);
      seen = rest.seen ∙ kept;
      hart = rest.hart;
      others = λ k apart. rest.others k apart ∙ ap (λ t. cond t s.hart (m.harts k)) (ne_eqb k h apart);
    }

plays_on : (order others : List ℕ) (effects more : List Effect) (m middle end : Machine) → Plays m order effects middle → Plays middle others more end
    → Plays m (order ++ others) (effects ++ more) end
plays_on [] others [] more m middle end first second = subst (λ q. Plays q others more end) first second
plays_on [] others (e ∷ effects) more m middle end first second = absurd first
plays_on (h ∷ order) others [] more m middle end first second = absurd first
plays_on (h ∷ order) others (e ∷ effects) more m middle end first second =
    (first.0, first.1, first.2, plays_on order others effects more (after_step m h first.0) middle end first.3 second)

-- ---- the boots of all harts

-- effects of the boots of so many harts from one on, one after another
abbrev AreBoots : ℕ → ℕ → ℕ → List Effect → Type 0
AreBoots harts h zero effects = effects ≡ []
AreBoots harts h (suc count) effects = (first : List Effect) × (rest : List Effect) × (effects ≡ first ++ rest)
    × AreOf h (booting_words harts) first × AreBoots harts (h + 1) count rest

record AllBooted (harts : ℕ) (loads : ℕ → Loads) (m : Machine) (h count : ℕ) : Type 0 where
  effects : List Effect
  to : Machine
  plays : Plays m (boots_from h count) effects to
  are : AreBoots harts h count effects
  seen : to.seen ≡ m.seen
  booted : (k : ℕ) → h ≤ k → k < h + count → IsBootedBy k (loads k) (to.harts k)
  others : (k : ℕ) → k < h → to.harts k ≡ m.harts k

all_booted : (harts : ℕ) (loads : ℕ → Loads) (m : Machine) (h count : ℕ) → harts ≤ most_harts → h + count ≤ harts
    → ((k : ℕ) → k < harts → AreLoadable (loads k)) → ((k : ℕ) → k < harts → HoldsBoot harts k (loads k) m.seen.byte)
    → ((k : ℕ) → h ≤ k → k < harts → IsReset k (m.harts k)) → AllBooted harts loads m h count
all_booted harts loads m h zero few within ok holds resets = record {
  effects = [];
  to = m;
  plays = refl;
  are = refl;
  seen = refl;
  booted = λ k from below. absurd (omega arith);
  others = λ k below. refl;
}
all_booted harts loads m h (suc count) few within ok holds resets =
    let member : h < harts = omega arith in
    let boot = boots harts h (loads h) m.seen (m.harts h) member few (ok h member) (holds h member) (resets h (omega arith) member) in
    let first : Played m h (booting_words harts) boot.0 = played (booting_words harts) m h boot.0 boot.1 in
    let rest = all_booted harts loads first.to (h + 1) count few (omega arith) ok
    (λ k below. subst (λ (seen : Seen). HoldsBoot harts k (loads k) seen.byte) (sym first.seen) (holds k below))
    (λ k from below. subst (IsReset k) (sym (first.others k (let apart : k ≢ h = omega (arith, from) in apart))) (resets k (omega (arith, from)) below)) in
    record {
      effects = first.effects ++ rest.effects;
      to = rest.to;
      plays = plays_on (replicate boot_steps h) (boots_from (h + 1) count) first.effects rest.effects m first.to rest.to first.plays rest.plays;
      are = (first.effects, rest.effects, refl, first.are, rest.are);
      seen = rest.seen ∙ first.seen;
      booted = λ k from below. elim (eqb_tells k h) [
        | inl same ↦ subst (λ q. IsBootedBy q (loads q) (rest.to.harts q)) (sym same.1) (subst (IsBootedBy h (loads h)) (sym (rest.others h (omega arith) ∙ first.hart)) boot.2)
        | inr other ↦ rest.booted k (let apart : k ≢ h = other.1 in omega arith) (omega (arith, below))
      ];
      others = λ k below. rest.others k (omega (arith, below)) ∙ first.others k (let apart : k ≢ h = omega (arith, below) in apart);
    }

-- ---- whose effects they are

by_append : (h : ℕ) (a b : List Effect) → effects_by h (a ++ b) ≡ effects_by h a ++ effects_by h b
by_append h [] b = refl
by_append h (e ∷ a) b = of (eqb e.hart h) (by_append h a b)
  where
    of : (t : Bool) → effects_by h (a ++ b) ≡ effects_by h a ++ effects_by h b
        → cond t (e ∷ effects_by h (a ++ b)) (effects_by h (a ++ b)) ≡ cond t (e ∷ effects_by h a) (effects_by h a) ++ effects_by h b
    of true same = ap (λ es. e ∷ es) same
    of false same = same

-- all of them are the hart's own
by_own : (h : ℕ) (words : List ℕ) (es : List Effect) → AreOf h words es → effects_by h es ≡ es
by_own h [] [] are = refl
by_own h [] (e ∷ es) are = absurd are
by_own h (word ∷ words) [] are = absurd are
by_own h (word ∷ words) (e ∷ es) are =
    ap (λ t. cond t (e ∷ effects_by h es) (effects_by h es)) (eq-eqb e.hart h are.0) ∙ ap (λ q. e ∷ q) (by_own h words es are.3)

-- and no other's
by_other : (h k : ℕ) (words : List ℕ) (es : List Effect) → AreOf h words es → h ≢ k → effects_by k es ≡ []
by_other h k [] [] are apart = refl
by_other h k [] (e ∷ es) are apart = absurd are
by_other h k (word ∷ words) [] are apart = absurd are
by_other h k (word ∷ words) (e ∷ es) are apart =
    ap (λ t. cond t (e ∷ effects_by k es) (effects_by k es)) (ne_eqb e.hart k (let other : e.hart ≢ k = λ same. apart (sym are.0 ∙ same) in other)) ∙ by_other h k words es are.3 apart

length_of : (h : ℕ) (words : List ℕ) (es : List Effect) → AreOf h words es → length es ≡ length words
length_of h [] [] are = refl
length_of h [] (e ∷ es) are = absurd are
length_of h (word ∷ words) [] are = absurd are
length_of h (word ∷ words) (e ∷ es) are = ap suc (length_of h words es are.3)

none_before : (harts h count k : ℕ) (es : List Effect) → AreBoots harts h count es → k < h → effects_by k es ≡ []
none_before harts h zero k es are below = ap (effects_by k) are
none_before harts h (suc count) k es are below =
    ap (effects_by k) are.2 ∙ by_append k are.0 are.1
    ∙ ap (λ q. q ++ effects_by k are.1) (by_other h k (booting_words harts) are.0 are.3 (let apart : h ≢ k = omega (arith, below) in apart))
    ∙ none_before harts (h + 1) count k are.1 are.4 (omega (arith, below))

-- of all boots, one is the hart's
own_boot : (harts h count k : ℕ) (es : List Effect) → AreBoots harts h count es → h ≤ k → k < h + count
    → (first : List Effect) × (effects_by k es ≡ first) × AreOf k (booting_words harts) first
own_boot harts h zero k es are from below = absurd (omega arith)
own_boot harts h (suc count) k es are from below = elim (eqb_tells k h) [
  | inl same ↦
      let mine : AreOf k (booting_words harts) are.0 = subst (λ q. AreOf q (booting_words harts) are.0) (sym same.1) are.3 in (
        are.0,
        ap (effects_by k) are.2 ∙ by_append k are.0 are.1
            ∙ ap (λ q. q ++ effects_by k are.1) (by_own k (booting_words harts) are.0 mine)
            ∙ ap (λ q. are.0 ++ q) (none_before harts (h + 1) count k are.1 are.4 (omega (arith, same.1)))
            ∙ append-nil are.0,
        mine,
      )
  | inr other ↦
      let rest = own_boot harts (h + 1) count k are.1 are.4 (let apart : k ≢ h = other.1 in omega arith) (omega (arith, below)) in (
        rest.0,
        ap (effects_by k) are.2 ∙ by_append k are.0 are.1
            ∙ ap (λ q. q ++ effects_by k are.1) (by_other h k (booting_words harts) are.0 are.3 (let apart : h ≢ k = λ same. other.1 (sym same) in apart))
            ∙ rest.1,
        rest.2,
      )
]

untrapped_of : (h : ℕ) (words : List ℕ) (es more : List Effect) → AreOf h words es → AllByRecursion (λ (e : Effect). e.trap ≡ None) (take (length words) (es ++ more))
untrapped_of h [] [] more are = tt
untrapped_of h [] (e ∷ es) more are = absurd are
untrapped_of h (word ∷ words) [] more are = absurd are
untrapped_of h (word ∷ words) (e ∷ es) more are = (are.2, untrapped_of h words es more are.3)

word_of_place : (h : ℕ) (words : List ℕ) (es more : List Effect) (i word : ℕ) (e : Effect) → AreOf h words es → slice_get words i ≡ Some word
    → slice_get (es ++ more) i ≡ Some e → e.word ≡ Some word
word_of_place h [] [] more i word e are is at = absurd cc
word_of_place h [] (q ∷ es) more i word e are is at = absurd are
word_of_place h (w ∷ words) [] more i word e are is at = absurd are
word_of_place h (w ∷ words) (q ∷ es) more zero word e are is at =
    let same : q ≡ e = cc in
    let spelt : w ≡ word = cc in
    ap (λ (e : Effect). e.word) (sym same) ∙ are.1 ∙ ap Some spelt
word_of_place h (w ∷ words) (q ∷ es) more (suc i) word e are is at = word_of_place h words es more i word e are.3 is at

begins : (harts h : ℕ) (first more : List Effect) → AreOf h (booting_words harts) first → BeginsWithBoot (first ++ more)
begins harts h first more are =
    let long : length first ≡ boot_steps = length_of h (booting_words harts) first are in
    let all : length (first ++ more) ≡ length first + length more = length-append first more in
    record {
      enough = omega (arith, long, all);
      untrapped = untrapped_of h (booting_words harts) first more are;
      returns = λ e at. word_of_place h (booting_words harts) first more (boot_steps - 1) (spelled mret) e are refl at;
    }

-- ---- what is behind the boots

-- the effects of a list, the last first, before others
abbrev turned : List Effect → List Effect → List Effect
turned [] before = before
turned (e ∷ es) before = turned es (e ∷ before)

abbrev made : ℕ → List Effect → ℕ
made h before = length (effects_by h before)

one_more : (h : ℕ) (e : Effect) (before : List Effect) → e.hart ≡ h → made h (e ∷ before) ≡ suc (made h before)
one_more h e before is = ap (λ t. length (cond t (e ∷ effects_by h before) (effects_by h before))) (eq-eqb e.hart h is)

no_more : (h : ℕ) (e : Effect) (before : List Effect) → e.hart ≢ h → made h (e ∷ before) ≡ made h before
no_more h e before apart = ap (λ t. length (cond t (e ∷ effects_by h before) (effects_by h before))) (ne_eqb e.hart h apart)

never_less : (h : ℕ) (e : Effect) (before : List Effect) → made h before ≤ made h (e ∷ before)
never_less h e before = elim (eqb_tells e.hart h) [
  | inl same ↦ omega (arith, one_more h e before same.1)
  | inr other ↦ omega (arith, no_more h e before other.1)
]

-- a boot is passed over, and its hart has made its steps
record PassedOver (h : ℕ) (words : List ℕ) (es before rest : List Effect) : Type 0 where
  same : behind_boots before (es ++ rest) ≡ behind_boots (turned es before) rest
  steps : made h (turned es before) ≡ made h before + length words
  others : (k : ℕ) → h ≢ k → made k (turned es before) ≡ made k before

passed_over : (h : ℕ) (words : List ℕ) (es before rest : List Effect) → AreOf h words es → made h before + length words ≤ boot_steps → PassedOver h words es before rest
passed_over h [] [] before rest are room = record { same = refl; steps = omega arith; others = λ k apart. refl }
passed_over h [] (e ∷ es) before rest are room = absurd are
passed_over h (word ∷ words) [] before rest are room = absurd are
passed_over h (word ∷ words) (e ∷ es) before rest are room =
    let step = one_more h e before are.0 in
    let more = passed_over h words es (e ∷ before) rest are.3 (omega (arith, step, room)) in
    let early : nat_le boot_steps (made h before) ≡ false = grind (arith, nat_tests) in
    record {
      same = ap (λ k. cond (nat_le boot_steps (made k before)) (e ∷ behind_boots (e ∷ before) (es ++ rest)) (behind_boots (e ∷ before) (es ++ rest))) are.0
          ∙ ap (λ t. cond t (e ∷ behind_boots (e ∷ before) (es ++ rest)) (behind_boots (e ∷ before) (es ++ rest))) early
          ∙ more.same;
      steps = more.steps ∙ omega (arith, step);
      others = λ k apart. more.others k apart ∙ no_more k e before (let other : e.hart ≢ k = λ same. apart (sym are.0 ∙ same) in other);
    }

-- so are all boots
record AllPassedOver (h count : ℕ) (es before rest : List Effect) : Type 0 where
  same : behind_boots before (es ++ rest) ≡ behind_boots (turned es before) rest
  steps : (k : ℕ) → h ≤ k → k < h + count → made k (turned es before) ≡ boot_steps
  others : (k : ℕ) → k < h → made k (turned es before) ≡ made k before

turned_append : (a b before : List Effect) → turned (a ++ b) before ≡ turned b (turned a before)
turned_append [] b before = refl
turned_append (e ∷ a) b before = turned_append a b (e ∷ before)

all_passed_over : (harts h count : ℕ) (es before rest : List Effect) → AreBoots harts h count es → ((k : ℕ) → h ≤ k → made k before ≡ 0)
    → AllPassedOver h count es before rest
all_passed_over harts h zero es before rest are none = record {
  same = ap (λ q. behind_boots before (q ++ rest)) are ∙ ap (λ q. behind_boots (turned q before) rest) (sym are);
  steps = λ k from below. absurd (omega arith);
  others = λ k below. ap (λ q. made k (turned q before)) are;
}
all_passed_over harts h (suc count) es before rest are none =
    let first = passed_over h (booting_words harts) are.0 before (are.1 ++ rest) are.3 (let zeros : made h before ≡ 0 = none h (omega arith) in omega (arith, zeros)) in
    let middle = turned are.0 before in
    let more = all_passed_over harts (h + 1) count are.1 middle rest are.4
    (λ k from. first.others k (let apart : h ≢ k = omega (arith, from) in apart) ∙ none k (omega (arith, from))) in
    let last : turned es before ≡ turned are.1 middle = ap (λ q. turned q before) are.2 ∙ turned_append are.0 are.1 before in
    record {
      same = ap (λ q. behind_boots before (q ++ rest)) are.2 ∙ ap (behind_boots before) (append_assoc are.0 are.1 rest) ∙ first.same ∙ more.same
          ∙ ap (λ q. behind_boots q rest) (sym last);
      steps = λ k from below. ap (made k) last ∙ elim (eqb_tells k h) [
        | inl same ↦ ap (λ q. made q (turned are.1 middle)) same.1 ∙ more.others h (omega arith) ∙ first.steps ∙ ap (λ n. n + boot_steps) (none h (omega arith))
        | inr other ↦ more.steps k (let apart : k ≢ h = other.1 in omega arith) (omega (arith, below))
      ];
      others = λ k below. ap (made k) last ∙ more.others k (omega (arith, below)) ∙ first.others k (let apart : h ≢ k = omega (arith, below) in apart);
    }

-- and nothing of what follows
all_kept : (harts : ℕ) (told before : List Effect) → AllByRecursion (λ (e : Effect). e.hart < harts) told → ((k : ℕ) → k < harts → boot_steps ≤ made k before)
    → behind_boots before told ≡ told
all_kept harts [] before members enough = refl
all_kept harts (e ∷ told) before members enough =
    let late : nat_le boot_steps (made e.hart before) ≡ true = grind (arith, nat_tests, enough e.hart members.0) in
    let rest = all_kept harts told (e ∷ before) members.1 (λ k below. omega (arith, enough k below, never_less k e before)) in
    ap (λ t. cond t (e ∷ behind_boots (e ∷ before) told) (behind_boots (e ∷ before) told)) late ∙ ap (λ es. e ∷ es) rest

-- ---- from reset

-- Where what is told is what the harts do behind their boots, it is what a machine does from reset.
pub passes : (harts : ℕ) (loads : ℕ → Loads) (m : Machine) (order : List ℕ) (told : List Effect) → harts ≤ most_harts
    → ((k : ℕ) → k < harts → AreLoadable (loads k)) → ((k : ℕ) → k < harts → HoldsBoot harts k (loads k) m.seen.byte)
    → ((k : ℕ) → k < harts → IsReset k (m.harts k)) → AllByRecursion (λ (e : Effect). e.hart < harts) told
    → ((start : Machine) → start.seen ≡ m.seen → ((k : ℕ) → k < harts → IsBootedBy k (loads k) (start.harts k)) → (end : Machine) × Plays start order told end)
    → PlaysAsTold harts (boots_from 0 harts ++ order) told m
passes harts loads m order told few ok holds resets members does =
    let booted = all_booted harts loads m 0 harts few (omega arith) ok holds (λ k from below. resets k below) in
    let done = does booted.to booted.seen (λ k below. booted.booted k (omega arith) (omega (arith, below))) in
    let over = all_passed_over harts 0 harts booted.effects [] told booted.are (λ k from. refl) in
    record {
      effects = booted.effects ++ told;
      end = done.0;
      plays = plays_on (boots_from 0 harts) order booted.effects told m booted.to done.0 booted.plays done.1;
      boots = λ h below. (
          let own = own_boot harts 0 harts h booted.effects booted.are (omega arith) (omega (arith, below)) in
          subst BeginsWithBoot (sym (by_append h booted.effects told ∙ ap (λ q. q ++ effects_by h told) own.1)) (begins harts h own.0 (effects_by h told) own.2));
      behind = over.same ∙ all_kept harts told (turned booted.effects []) members (λ k below. omega (arith, over.steps k (omega arith) (omega (arith, below))));
    }
