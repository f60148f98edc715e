-- The lines of an order's text, as the reader sees them.
use Rattle.std.proofs.Common.{◌≡◌, ◌≢◌, ℕ, suc, ◌+◌, ◌-◌, ◌<◌, ◌≤◌, ◌^◌, List, [], ◌∷◌, ◌++◌, length, replicate, Bool, true, false, cond, not, refl, sym, ap, subst, ◌∙◌, arith, inl, inr, Option, Some, None, add-one}
use Rattle.std.specs.Prelude.{All, ◌==◌, nat_lt}
use Rattle.std.specs.List.{flat_map, AllByRecursion}
use Rattle.std.specs.Option.{option_map_or}
use Rattle.std.specs.Fmt.{decimal}
use Rattle.std.specs.Str.Parse.{digits_value}
use Rattle.std.proofs.lemmas.Bool.{ne_eqb, eq-eqb, lt-ltb, le-ltb, cases_eq, not_from_false, false≢true}
use Rattle.std.proofs.lemmas.Fmt.{decimal_is_IsNumeral}
use Rattle.std.proofs.lemmas.List.{length-append, length-replicate}
use Rattle.rv_fields.specs.Play.{most_harts}
use Rattle.trace_text.specs.Text.{Turns, with_turn, turns_of, turns_fields, turns_text}
use Rattle.trace_fields.specs.Text.{joined_by, space_byte}
use Rattle.trace_fields.specs.Numbers.{decimal_below}
use Rattle.trace_text.specs.Forms.{lines_of_text, fault_from, wrong_in, wrong_at_end, first_fault}
use Rattle.trace_fields.specs.Fields.{fields_in, is_another_hart, is_decimal}
use Rattle.trace_text.specs.Orders.{order_form, turns_so_far, steps_of, number_in, most_steps}
use Rattle.trace_fields.proofs.Numerals.{again}
use Rattle.trace_text.proofs.Faults.{step}
use Rattle.trace_fields.proofs.WordBytes.{IsVisible}
use Rattle.trace_fields.proofs.Visible.{decimal_visible}
use Rattle.trace_text.proofs.VisibleLines.{cut_fields, no_newline, cut_line}

pub value_of_decimal : (n : ℕ) → n < 2 ^ 64 → digits_value 10 (decimal n) ≡ n
value_of_decimal n small = (decimal_is_IsNumeral n small).1

pub reads_again : (bound n : ℕ) → n < bound → n < 2 ^ 64 → decimal_below bound (decimal n) ≡ Some n
reads_again bound n below small = again decimal 10 bound n (value_of_decimal n small) below

-- a line of an order without its newline
abbrev pub turns_line : Turns → List ℕ
turns_line t = joined_by space_byte (turns_fields t)

pub record Small (t : Turns) : Type 0 where
  pub hart : t.hart < 2 ^ 64
  pub count : t.count < 2 ^ 64

turns_visible : (t : Turns) → Small t → AllByRecursion IsVisible (turns_fields t)
turns_visible t small = (decimal_visible t.hart small.hart, (decimal_visible t.count small.count, tt))

pub line_of : (t : Turns) (rest : List ℕ) → Small t → lines_of_text (turns_text t ++ rest) ≡ turns_line t ∷ lines_of_text rest
line_of t rest small = cut_line (turns_line t) rest (no_newline (turns_fields t) (turns_visible t small))

pub fields_of_line : (t : Turns) → Small t → fields_in (turns_line t) ≡ decimal t.hart ∷ decimal t.count ∷ []
fields_of_line t small = cut_fields (turns_fields t) (omega arith) (turns_visible t small)

abbrev pub Another : Option ℕ → ℕ → Type 0
Another None hart = Unit {0}
Another (Some before) hart = before ≢ hart

another_passes : (harts : ℕ) (last : Option ℕ) (hart : ℕ) → hart < harts → hart < 2 ^ 64 → Another last hart
    → is_another_hart harts last (decimal hart) ≡ true
another_passes harts None hart below small other =
    ap (λ o. option_map_or (λ h. option_map_or (λ before. not (before == h)) None true) o false) (reads_again harts hart below small)
another_passes harts (Some last) hart below small other =
    ap (λ o. option_map_or (λ h. option_map_or (λ before. not (before == h)) (Some last) true) o false) (reads_again harts hart below small)
    ∙ not_from_false (last == hart) (ne_eqb last hart other)

count_passes : (bound count : ℕ) → 1 ≤ count → count < bound → count < 2 ^ 64 → is_decimal 1 bound (decimal count) ≡ true
count_passes bound count some below small =
    ap (λ o. option_map_or (λ n. not (nat_lt n 1)) o false) (reads_again bound count below small)
    ∙ not_from_false (nat_lt count 1) (le-ltb count 1 some)

both_pass : (a b : Bool) → a ≡ true → b ≡ true → cond {A = Option ℕ} a (cond {A = Option ℕ} b None (Some 2)) (Some 1) ≡ None
both_pass true true first second = refl
both_pass true false first second = absurd (false≢true second)
both_pass false b first second = absurd (false≢true first)

-- The turns of so many harts behind so many steps, the last of them by this hart.
abbrev pub AreTurns : ℕ → Option ℕ → ℕ → List Turns → Type 0
AreTurns harts last steps [] = Unit {0}
AreTurns harts last steps (t ∷ ts) =
    (t.hart < harts) × Another last t.hart × (1 ≤ t.count) × (steps + t.count ≤ most_steps) × AreTurns harts (Some t.hart) (steps + t.count) ts

small_turns : (harts steps : ℕ) (t : Turns) → harts ≤ most_harts → t.hart < harts → steps + t.count ≤ most_steps → Small t
small_turns harts steps t few below fits = record { hart = omega arith; count = omega arith }

pub passes : (harts : ℕ) (last : Option ℕ) (steps : ℕ) (t : Turns) → harts ≤ most_harts → t.hart < harts → Another last t.hart → 1 ≤ t.count
    → steps + t.count ≤ most_steps → wrong_in order_form (turns_so_far harts last steps) (fields_in (turns_line t)) ≡ None
passes harts last steps t few below other some fits =
    let small = small_turns harts steps t few below fits in
    ap (wrong_in order_form (turns_so_far harts last steps)) (fields_of_line t small)
    ∙ both_pass (is_another_hart harts last (decimal t.hart)) (is_decimal 1 (most_steps - steps + 1) (decimal t.count))
    (another_passes harts last t.hart below small.hart other) (count_passes (most_steps - steps + 1) t.count some (omega arith) small.count)

pub no_fault : (harts : ℕ) (last : Option ℕ) (steps line : ℕ) (ts : List Turns) → harts ≤ most_harts → 1 < line → AreTurns harts last steps ts
    → fault_from order_form (turns_so_far harts last steps) line (lines_of_text (flat_map turns_text ts)) ≡ None
no_fault harts last steps line [] few behind are = ap (λ b. cond b None (Some (record { line = line; field = wrong_at_end order_form (turns_so_far harts last steps) (fields_in []) }))) (lt-ltb 1 line behind)
no_fault harts last steps line (t ∷ ts) few behind are =
    let small = small_turns harts steps t few are.0 are.3 in
    let rest = flat_map turns_text ts in
    let fields : fields_in (turns_line t) ≡ decimal t.hart ∷ decimal t.count ∷ [] = fields_of_line t small in
    let hart : number_in (fields_in (turns_line t)) 0 ≡ t.hart = ap (λ (fs : List (List ℕ)). number_in fs 0) fields ∙ value_of_decimal t.hart small.hart in
    let count : number_in (fields_in (turns_line t)) 1 ≡ t.count = ap (λ (fs : List (List ℕ)). number_in fs 1) fields ∙ value_of_decimal t.count small.count in
    let right = passes harts last steps t few are.0 are.1 are.2 are.3 in
    ap (fault_from order_form (turns_so_far harts last steps) line) (line_of t rest small)
    ∙ step order_form (turns_so_far harts last steps) line (turns_line t) rest
    ∙ ap (λ w. first_fault line w (fault_from order_form (turns_so_far harts (Some (number_in (fields_in (turns_line t)) 0)) (steps + number_in (fields_in (turns_line t)) 1)) (line + 1) (lines_of_text rest))) right
    ∙ ap (λ h. fault_from order_form (turns_so_far harts (Some h) (steps + number_in (fields_in (turns_line t)) 1)) (line + 1) (lines_of_text rest)) hart
    ∙ ap (λ n. fault_from order_form (turns_so_far harts (Some t.hart) (steps + n)) (line + 1) (lines_of_text rest)) count
    ∙ no_fault harts (Some t.hart) (steps + t.count) (line + 1) ts few (omega arith) are.4

-- the steps of turns
abbrev pub steps_in : Turns → List ℕ
steps_in t = replicate t.count t.hart

pub told_steps : (harts : ℕ) (last : Option ℕ) (steps : ℕ) (ts : List Turns) → harts ≤ most_harts → AreTurns harts last steps ts
    → flat_map steps_of (lines_of_text (flat_map turns_text ts)) ≡ flat_map steps_in ts
told_steps harts last steps [] few are = refl
told_steps harts last steps (t ∷ ts) few are =
    let small = small_turns harts steps t few are.0 are.3 in
    let rest = flat_map turns_text ts in
    let tail = flat_map steps_of (lines_of_text rest) in
    let fields : fields_in (turns_line t) ≡ decimal t.hart ∷ decimal t.count ∷ [] = fields_of_line t small in
    let hart : number_in (fields_in (turns_line t)) 0 ≡ t.hart = ap (λ (fs : List (List ℕ)). number_in fs 0) fields ∙ value_of_decimal t.hart small.hart in
    let count : number_in (fields_in (turns_line t)) 1 ≡ t.count = ap (λ (fs : List (List ℕ)). number_in fs 1) fields ∙ value_of_decimal t.count small.count in
    ap (λ (ls : List (List ℕ)). flat_map steps_of ls) (line_of t rest small)
    ∙ ap (λ n. replicate n (number_in (fields_in (turns_line t)) 0) ++ tail) count
    ∙ ap (λ h. replicate t.count h ++ tail) hart
    ∙ ap (λ (l : List ℕ). steps_in t ++ l) (told_steps harts (Some t.hart) (steps + t.count) ts few are.4)

one_more : (hart : ℕ) (ts : List Turns) → flat_map steps_in (with_turn hart ts) ≡ hart ∷ flat_map steps_in ts
one_more hart [] = refl
one_more hart (t ∷ ts) = elim (cases_eq t.hart hart) [
  | inl same ↦ rw (eq-eqb t.hart hart same, add-one t.count) (ap (λ h. hart ∷ (replicate t.count h ++ flat_map steps_in ts)) (sym same))
  | inr other ↦ rw (ne_eqb t.hart hart other) refl
]

-- the turns of an order give its steps
pub steps_of_turns : (order : List ℕ) → flat_map steps_in (turns_of order) ≡ order
steps_of_turns [] = refl
steps_of_turns (hart ∷ order) = one_more hart (turns_of order) ∙ ap (λ (l : List ℕ). hart ∷ l) (steps_of_turns order)

-- the first of some turns is of another hart
abbrev pub Begins : Option ℕ → List Turns → Type 0
Begins last [] = Unit {0}
Begins last (t ∷ ts) = Another last t.hart

-- turns of so many harts, neighbours of different ones
abbrev pub AreRuns : ℕ → List Turns → Type 0
AreRuns harts [] = Unit {0}
AreRuns harts (t ∷ ts) = (t.hart < harts) × (1 ≤ t.count) × Begins (Some t.hart) ts × AreRuns harts ts

runs_more : (harts hart : ℕ) (ts : List Turns) → hart < harts → AreRuns harts ts → AreRuns harts (with_turn hart ts)
runs_more harts hart [] below runs = (below, omega arith, tt, tt)
runs_more harts hart (t ∷ ts) below runs = elim (cases_eq t.hart hart) [
  | inl same ↦ rw (eq-eqb t.hart hart same) (below, omega (arith, runs.1), subst (λ h. Begins (Some h) ts) same runs.2, runs.3)
  | inr other ↦ rw (ne_eqb t.hart hart other) (below, omega arith, (λ e. other (sym e)), runs)
]

pub runs_of : (harts : ℕ) (order : List ℕ) → AllByRecursion (λ hart. hart < harts) order → AreRuns harts (turns_of order)
runs_of harts [] named = tt
runs_of harts (hart ∷ order) named = runs_more harts hart (turns_of order) named.0 (runs_of harts order named.1)

steps_more : (t : Turns) (ts : List Turns) → length (flat_map steps_in (t ∷ ts)) ≡ t.count + length (flat_map steps_in ts)
steps_more t ts = length-append (steps_in t) (flat_map steps_in ts) ∙ ap (λ n. n + length (flat_map steps_in ts)) (length-replicate t.count t.hart)

pub turns_from_runs : (harts : ℕ) (last : Option ℕ) (steps : ℕ) (ts : List Turns) → AreRuns harts ts → Begins last ts
    → steps + length (flat_map steps_in ts) ≤ most_steps → AreTurns harts last steps ts
turns_from_runs harts last steps [] runs begins fits = tt
turns_from_runs harts last steps (t ∷ ts) runs begins fits =
    let more = steps_more t ts in
    (runs.0, begins, runs.1, omega (arith, more), turns_from_runs harts (Some t.hart) (steps + t.count) ts runs.3 runs.2 (omega (arith, more)))

pub begins_any : (ts : List Turns) → Begins None ts
begins_any [] = tt
begins_any (t ∷ ts) = tt

all_recursion : (P : ℕ → Type 0) (xs : List ℕ) → All P xs → AllByRecursion P xs
all_recursion P [] all = tt
all_recursion P (x ∷ xs) all = (all 0 0 (omega arith), all_recursion P xs (λ k d within. all (suc k) d (omega arith)))

pub turns_are : (harts : ℕ) (order : List ℕ) → All (λ hart. hart < harts) order → length order ≤ most_steps → AreTurns harts None 0 (turns_of order)
turns_are harts order named short =
    turns_from_runs harts None 0 (turns_of order) (runs_of harts order (all_recursion (λ hart. hart < harts) order named)) (begins_any (turns_of order))
    (omega (arith, ap length (steps_of_turns order)))
