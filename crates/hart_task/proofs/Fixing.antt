-- Registers that a word reads get their values one after another.
use Rattle.std.proofs.Common.{ℕ, ◌+◌, ◌≤◌, ◌≡◌, Bool, true, false, cond, eqb, eqb-true, eq-eqb, List, [], ◌∷◌, ◌++◌, length, Option, Some, None, refl, sym, ap, ◌∙◌, arith, filter}
use Rattle.std.specs.Prelude.{is_none}
use Rattle.std.proofs.lemmas.List.{map-append}
use Rattle.rv_fields.specs.Decode.{Decoded, rs1_read}
use Rattle.rv_fields.specs.Hart.{Registers, updated}
use Rattle.choice_tree.specs.Draws.{Draws, next_word, skipped}
use Rattle.hart_task.specs.Acts.{Fixing, fixing_lines}
use Rattle.hart_task.specs.Stepping.{fixed_in, late_registers}
use Rattle.world_face.specs.declared.event.Event as code
use Rattle.world_face.specs.Views.{HasRoomForLines}
use Rattle.hart_task.specs.Task.{TaskSeen, fixed_task, late_of, late_one}

-- those of the registers that are untouched
abbrev pub late_in : Registers → Draws → List ℕ → List Fixing
late_in x draws rs = late_registers draws (filter (λ r. is_none (x r)) rs)

-- one register, and then another
both_late : (x : Registers) (draws : Draws) (a b : ℕ)
    → late_in x draws (cond (eqb a b) (a ∷ []) (a ∷ b ∷ []))
    ≡ late_in x draws (a ∷ []) ++ late_in (fixed_in x (late_in x draws (a ∷ []))) (skipped draws (length (late_in x draws (a ∷ [])))) (b ∷ [])
both_late x draws a b = of (x a) refl (eqb a b) refl
  where
    -- b behind a's value v
    behind : (v : ℕ) (t : Bool) → t ≡ eqb a b → late_in (updated x a (Some v)) (skipped draws 1) (b ∷ []) ≡ late_registers (skipped draws 1) (cond t [] (cond (is_none (x b)) (b ∷ []) []))
    behind v true e = let same : eqb b a ≡ true = eq-eqb b a (sym (eqb-true a b (sym e))) in rw same refl
    behind v false e = let other : eqb b a ≡ false = differs (eqb b a) refl e in rw other refl
      where
        differs : (u : Bool) → u ≡ eqb b a → false ≡ eqb a b → eqb b a ≡ false
        differs true is e = absurd (let yes : eqb a b ≡ true = eq-eqb a b (sym (eqb-true b a (sym is))) in cc)
        differs false is e = sym is

    zero_more : skipped draws 0 ≡ draws
    zero_more = let n : draws.drawn + 0 ≡ draws.drawn = omega arith in ap (λ k. record draws { drawn = k }) n

    of : (m : Option ℕ) → m ≡ x a → (t : Bool) → t ≡ eqb a b
        → late_registers draws (filter (λ r. is_none (x r)) (cond t (a ∷ []) (a ∷ b ∷ [])))
        ≡ late_in x draws (a ∷ []) ++ late_in (fixed_in x (late_in x draws (a ∷ []))) (skipped draws (length (late_in x draws (a ∷ [])))) (b ∷ [])
    of None at true e = rw (sym at) (ap (λ l. record { register = a; value = next_word draws } ∷ l) (sym (behind (next_word draws) true e)))
    of None at false e = rw (sym at) (ap (λ l. record { register = a; value = next_word draws } ∷ l) (sym (behind (next_word draws) false e)))
    of (Some v) at true e = rw (sym at) (rw zero_more (let same : x b ≡ Some v = ap x (sym (eqb-true a b (sym e))) ∙ sym at in rw same refl))
    of (Some v) at false e = rw (sym at) (rw zero_more refl)

fixed_both : (x : Registers) (fs gs : List Fixing) → fixed_in x (fs ++ gs) ≡ fixed_in (fixed_in x fs) gs
fixed_both x [] gs = refl
fixed_both x (f ∷ fs) gs = fixed_both (updated x f.register (Some f.value)) fs gs

skipped_both : (draws : Draws) (m n : ℕ) → skipped draws (m + n) ≡ skipped (skipped draws m) n
skipped_both draws m n = let sum : draws.drawn + (m + n) ≡ draws.drawn + m + n = omega arith in ap (λ k. record draws { drawn = k }) sum

length_both : (fs gs : List Fixing) → length (fs ++ gs) ≡ length fs + length gs
length_both [] gs = omega arith
length_both (f ∷ fs) gs = let more = length_both fs gs in omega (arith, more)

task_both : (t : TaskSeen) (fs gs : List Fixing) → fixed_task t (fs ++ gs) ≡ fixed_task (fixed_task t fs) gs
task_both t fs gs = λ i. record t {
  hart = record t.hart { x = fixed_both t.hart.x fs gs i };
  draws = (ap (skipped t.draws) (length_both fs gs) ∙ skipped_both t.draws (length fs) (length gs)) i;
  log = record t.log { initial = fixed_both t.log.initial fs gs i; present = fixed_both t.log.present fs gs i };
}

pub late_is : (t : TaskSeen) (d : Decoded) → late_of t (Some d) ≡ late_one t (rs1_read d) ++ late_one (fixed_task t (late_one t (rs1_read d))) d.ops.rs2
late_is t d = both_late t.log.present t.draws (rs1_read d) d.ops.rs2

-- The task, when both of a word's registers were looked at.
pub both_fixed : (t : TaskSeen) (d : Decoded)
    → fixed_task (fixed_task t (late_one t (rs1_read d))) (late_one (fixed_task t (late_one t (rs1_read d))) d.ops.rs2) ≡ fixed_task t (late_of t (Some d))
both_fixed t d = sym (ap (fixed_task t) (late_is t d) ∙ task_both t (late_one t (rs1_read d)) (late_one (fixed_task t (late_one t (rs1_read d))) d.ops.rs2))

-- and the lines that tell of it
pub both_told : (t : TaskSeen) (d : Decoded) (h : ℕ)
    → fixing_lines h (late_one t (rs1_read d)) ++ fixing_lines h (late_one (fixed_task t (late_one t (rs1_read d))) d.ops.rs2) ≡ fixing_lines h (late_of t (Some d))
both_told t d h = sym (ap (fixing_lines h) (late_is t d) ∙ map-append _ (late_one t (rs1_read d)) (late_one (fixed_task t (late_one t (rs1_read d))) d.ops.rs2))

-- nothing is fixed for a word of no row
pub none_fixed : (t : TaskSeen) → fixed_task t [] ≡ t
none_fixed t = let n : t.draws.drawn + 0 ≡ t.draws.drawn = omega arith in λ i. record t { draws = record t.draws { drawn = n i } }

-- What was fixed, register by register, is what the word fixes: the task, and the lines.
pub task_fixed : (t first second : TaskSeen) (a b : ℕ) (d : Decoded) → a ≡ rs1_read d → b ≡ d.ops.rs2 → first ≡ fixed_task t (late_one t a) → second ≡ fixed_task first (late_one first b)
    → second ≡ fixed_task t (late_of t (Some d))
task_fixed t first second a b d is_a is_b once twice =
    twice ∙ ap (λ q. fixed_task q (late_one q b)) once
    ∙ (λ i. fixed_task (fixed_task t (late_one t (is_a i))) (late_one (fixed_task t (late_one t (is_a i))) (is_b i)))
    ∙ both_fixed t d

pub lines_fixed : (t first : TaskSeen) (a b : ℕ) (d : Decoded) → a ≡ rs1_read d → b ≡ d.ops.rs2 → first ≡ fixed_task t (late_one t a)
    → fixing_lines t.hart.number (late_one t a) ++ fixing_lines first.hart.number (late_one first b) ≡ fixing_lines t.hart.number (late_of t (Some d))
lines_fixed t first a b d is_a is_b once =
    ap (λ (q : TaskSeen). fixing_lines t.hart.number (late_one t a) ++ fixing_lines q.hart.number (late_one q b)) once
    ∙ (λ i. fixing_lines t.hart.number (late_one t (is_a i)) ++ fixing_lines t.hart.number (late_one (fixed_task t (late_one t (is_a i))) (is_b i)))
    ∙ both_told t d t.hart.number

-- room for some lines is room for fewer
pub less_room : (event : code.Event) (count fewer : ℕ) → fewer ≤ count → HasRoomForLines count event → HasRoomForLines fewer event
less_room event count fewer less room = omega (arith, less, room)

-- no more than one is fixed
pub few_late : (x : Registers) (draws : Draws) (a : ℕ) → length (late_in x draws (a ∷ [])) ≡ cond (is_none (x a)) 1 0
few_late x draws a = of (is_none (x a))
  where
    of : (t : Bool) → length (late_registers draws (cond t (a ∷ []) [])) ≡ cond t 1 0
    of true = refl
    of false = refl

pub at_most_one : (x : Registers) (draws : Draws) (a : ℕ) → length (late_in x draws (a ∷ [])) ≤ 1
at_most_one x draws a = of (is_none (x a)) (few_late x draws a)
  where
    of : (t : Bool) → length (late_in x draws (a ∷ [])) ≡ cond t 1 0 → length (late_in x draws (a ∷ [])) ≤ 1
    of true e = omega (arith, e)
    of false e = omega (arith, e)
