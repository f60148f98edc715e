-- The words of a hart's window are those that its lines tell to have been made.
use Rattle.std.proofs.Common.{ℕ, ◌≡◌, ◌⊎◌, Bool, true, false, cond, eqb, eqb-true, List, [], ◌∷◌, ◌++◌, Option, Some, None, inl, inr, refl, sym, ap, subst, ◌∙◌, arith}
use Rattle.std.specs.Prelude.{is_some}
use Rattle.std.specs.List.{Contains, filter_map}
use Rattle.std.specs.Option.{option_map_or}
use Rattle.std.proofs.lemmas.List.Elements.{Contains-append_cases, Contains-append_left, Contains-append_right, filter_map-append}
use Rattle.rv_fields.specs.Effect.{Effect}
use Rattle.rv_fields.specs.Hart.{Hart, updated}
use Rattle.rv_fields.proofs.Opened.{step_leaves}
use Rattle.rv_fields.proofs.Lists.{in_nothing, in_one}
use Rattle.rv_fields.proofs.Updated.{updated_at}
use Rattle.region_plan.specs.Plan.{Work}
use Rattle.boot_words.specs.Layout.{code_address}
use Rattle.trace_text.specs.Lines.{Line, done, effects_of, ending, fixed, found, given, made, picked, refused, request, settled, touched, weighed}
use Rattle.world_face.specs.Events.{Event}
use Rattle.world_face.specs.Runs.{Runs}
use Rattle.world_face.specs.Told.{Run}
use Rattle.hart_task.specs.Acts.{Act, Came, Fixing, Stepping, act_lines, answers, begins, fixing_lines, gives_up, is_found, is_last, is_made, refuses, step_line, steps}
use Rattle.hart_task.specs.Blocks.{made_by}
use Rattle.hart_task.specs.Heard.{Heard, heard_of}
use Rattle.hart_task.specs.OneRun.{RunsTo, all_lines}
use Rattle.hart_task.specs.State.{HartState, index_of, start}
use Rattle.hart_task.specs.Stepping.{fixed_in, StepTaken, seen_of}
use Rattle.hart_task.specs.Turn.{acted, acts, with_word}
use Rattle.hart_task.proofs.Led.{did}
use Rattle.hart_task.proofs.Lined.{answers_effects, begins_effects, refuses_effects, told_silent, touched_lines}
use Rattle.hart_task.proofs.Made.{Made, Taken, late_for, made_was, number_after, taken}
use Rattle.hart_task.proofs.Viewed.{From, View, same_number, turned_view}

-- the words that lines make
abbrev pub made_of : List Line → List Effect
made_of lines = filter_map made_by lines

-- the word of the effect stands at its place in the window
pub record IsMadeWord (h : ℕ) (words : ℕ → Option ℕ) (e : Effect) : Type 0 where
  pub hart : e.hart ≡ h
  pub index : ℕ
  pub word : ℕ
  pub pa : e.pa ≡ Some (code_address h index)
  pub has : e.word ≡ Some word
  pub stands : words index ≡ Some word

-- one of the effects is of the hart, and tells the word at this place
pub record IsTold (h : ℕ) (effects : List Effect) (index word : ℕ) : Type 0 where
  pub e : Effect
  pub among : Contains effects e
  pub hart : e.hart ≡ h
  pub pa : e.pa ≡ Some (code_address h index)
  pub has : e.word ≡ Some word

-- ---- one event

-- it makes no word, or one where none was
data Makes (h : ℕ) (first last : ℕ → Option ℕ) (told : List Effect) : Type 0 where
  no_word : told ≡ [] → last ≡ first → Makes h first last told
  a_word : (x : Effect) (index word : ℕ) → told ≡ x ∷ [] → x.hart ≡ h → x.pa ≡ Some (code_address h index) → x.word ≡ Some word
      → first index ≡ None → last ≡ updated first index (Some word) → Makes h first last told

-- lines that tell of no step make no word
made_none : (lines : List Line) → effects_of lines ≡ [] → made_of lines ≡ []
made_none [] e = refl
made_none (request hart k kind ∷ ls) e = made_none ls e
made_none (picked hart tree leaf word ∷ ls) e = made_none ls e
made_none (weighed hart tree path weight ∷ ls) e = made_none ls e
made_none (fixed hart register value ∷ ls) e = made_none ls e
made_none (given hart object page frame ∷ ls) e = made_none ls e
made_none (settled hart space entry ∷ ls) e = made_none ls e
made_none (touched hart at bytes ∷ ls) e = made_none ls e
made_none (made x ∷ ls) e = absurd cc
made_none (found x ∷ ls) e = absurd cc
made_none (ending x ∷ ls) e = absurd cc
made_none (done hart k ∷ ls) e = made_none ls e
made_none (refused hart k cause preamble ∷ ls) e = made_none ls e

fixed_made : (h : ℕ) (fs : List Fixing) (lines : List Line) → made_of (fixing_lines h fs ++ lines) ≡ made_of lines
fixed_made h [] lines = refl
fixed_made h (f ∷ fs) lines = fixed_made h fs lines

touched_made : (h : ℕ) (runs : List Run) (lines : List Line) → made_of (touched_lines h runs ++ lines) ≡ made_of lines
touched_made h [] lines = refl
touched_made h (r ∷ runs) lines = touched_made h runs lines

-- what a step's own line makes
abbrev step_made : Came → Effect → List Effect
step_made is_made e = e ∷ []
step_made is_found e = []
step_made is_last e = e ∷ []

lines_made : (work : Work) (h : ℕ) (x : Stepping) → made_of (act_lines work h (steps x)) ≡ step_made x.came x.effect
lines_made work h x = fixed_made h x.registers _ ∙ touched_made h x.bytes _ ∙ of x.came x.ends
  where
    of : (came : Came) (ends : Option ℕ) → made_of (step_line came x.effect ∷ option_map_or (λ (k : ℕ). done h k ∷ []) ends []) ≡ step_made came x.effect
    of is_made None = refl
    of is_made (Some k) = refl
    of is_found None = refl
    of is_found (Some k) = refl
    of is_last None = refl
    of is_last (Some k) = refl

-- what a step makes, and that the hart keeps its number
record StepMakes (came : Came) (s : HartState) (t : StepTaken) : Type 0 where
  makes : Makes s.hart.number s.words t.state.words (step_made came t.effect)
  number : t.state.hart.number ≡ s.hart.number

made_makes : (work : Work) (s : HartState) (heard : Heard) (t : StepTaken) (from : From is_made work s heard t)
    → Makes s.hart.number s.words t.state.words (t.effect ∷ []) × (t.state.hart.number ≡ s.hart.number)
made_makes work s heard t from =
    let m : Made work s from.0 heard from.1 t = made_was work s from.0 heard from.1 t from.2 in
    let s1 : HartState = with_word work s from.0 in
    let hart : Hart = record s1.hart { x = fixed_in s1.hart.x (late_for s1 m.taken.here) } in (
      a_word t.effect (index_of work s) from.0 refl
          (ap (λ (q : StepTaken). q.effect.hart) m.taken.is ∙ (step_leaves (seen_of work s1 heard) hart m.taken.r m.taken.steps).effect_hart)
          m.pa m.word m.free (ap (λ (q : StepTaken). q.state.words) m.taken.is),
      ap (λ (q : StepTaken). q.state.hart.number) m.taken.is ∙ number_after work s1 heard from.1 t m.taken,
    )

step_makes : (came : Came) (work : Work) (s : HartState) (heard : Heard) (t : StepTaken) → From came work s heard t → StepMakes came s t
step_makes is_made work s heard t from = let m = made_makes work s heard t from in record { makes = m.0; number = m.1 }
step_makes is_last work s heard t from = let m = made_makes work s heard t from in record { makes = m.0; number = m.1 }
step_makes is_found work s heard t from =
    let k : Taken work s heard from.0 t = taken work s heard from.0 t from.1 in
    record {
      makes = no_word refl (ap (λ (q : StepTaken). q.state.words) k.is);
      number = ap (λ (q : StepTaken). q.state.hart.number) k.is ∙ number_after work s heard from.0 t k;
    }

act_makes : (work : Work) (s : HartState) (e : Event) (act : Act) (u : HartState) → View work s (heard_of e) act u
    → Makes s.hart.number s.words u.words (made_of (act_lines work s.hart.number act)) × (u.hart.number ≡ s.hart.number)
act_makes work s e (refuses b cause) u view = (no_word (made_none (act_lines work s.hart.number (refuses b cause)) (refuses_effects work s.hart.number b cause)) view.words, ap (λ (q : Hart). q.number) view.hart)
act_makes work s e (answers b fixing) u view =
    (no_word (made_none (act_lines work s.hart.number (answers b fixing)) (answers_effects work s.hart.number b fixing)) view.words, ap (λ (q : Hart). q.number) view.hart ∙ same_number fixing s.hart)
act_makes work s e (begins b fixing told) u view =
    let silent : effects_of told ≡ [] = ap effects_of view.1 ∙ of (is_some b.settle) in
    (no_word (made_none (act_lines work s.hart.number (begins b fixing told)) (begins_effects work s.hart.number b fixing told silent)) view.0.words, ap (λ (q : Hart). q.number) view.0.hart ∙ same_number fixing s.hart)
  where
    of : (t : Bool) → effects_of (cond t (heard_of e).told []) ≡ []
    of true = told_silent e
    of false = refl
act_makes work s e (gives_up k preamble wanted) u view = (no_word refl view.words, ap (λ (q : Hart). q.number) view.hart)
act_makes work s e (steps x) u view =
    let m = step_makes x.came work s (heard_of e) view.0 view.2 in
    let words : u.words ≡ view.0.state.words = ap (λ (q : HartState). q.words) view.7 ∙ view.8.words in
    let told : made_of (act_lines work s.hart.number (steps x)) ≡ step_made x.came view.0.effect = lines_made work s.hart.number x ∙ ap (step_made x.came) view.5 in (
      subst (λ w. Makes s.hart.number s.words w (made_of (act_lines work s.hart.number (steps x)))) (sym words) (subst (Makes s.hart.number s.words view.0.state.words) (sym told) m.makes),
      ap (λ (q : HartState). q.hart.number) view.7 ∙ ap (λ (q : Hart). q.number) view.8.hart ∙ m.number,
    )

event_makes : (work : Work) (s : HartState) (e : Event) → acts work s e → Makes s.hart.number s.words (acted work s e).words (made_of e.lines) × ((acted work s e).hart.number ≡ s.hart.number)
event_makes work s e does =
    let o = did work s e does in
    let m = act_makes work s e o.t.act o.t.state (turned_view work s (heard_of e) o.t o.turns) in (
      subst (λ (q : HartState). Makes s.hart.number s.words q.words (made_of e.lines)) (sym o.state) (subst (λ (q : Event). Makes s.hart.number s.words o.t.state.words (made_of q.lines)) (sym o.event) m.0),
      ap (λ (q : HartState). q.hart.number) o.state ∙ m.1,
    )

-- ---- a run

record Worded (h : ℕ) (first last : ℕ → Option ℕ) (told : List Effect) : Type 0 where
  stay : (i v : ℕ) → first i ≡ Some v → last i ≡ Some v
  each : (e : Effect) → Contains told e → IsMadeWord h last e
  others : (i v : ℕ) → last i ≡ Some v → (first i ≡ Some v) ⊎ IsTold h told i v

told_more : (h : ℕ) (one more : List Effect) (i v : ℕ) → IsTold h more i v → IsTold h (one ++ more) i v
told_more h one more i v t = record { e = t.e; among = Contains-append_right one more t.e t.among; hart = t.hart; pa = t.pa; has = t.has }

worded : (h : ℕ) (first next last : ℕ → Option ℕ) (one more : List Effect) → Makes h first next one → Worded h next last more → Worded h first last (one ++ more)
worded h first next last one more (no_word none same) w =
    subst (λ l. Worded h first last (l ++ more)) (sym none) (subst (λ f. Worded h f last more) same w)
worded h first next last one more (a_word x index word told hart pa has free now) w = record {
  stay = λ i v is. w.stay i v (ap (λ (f : ℕ → Option ℕ). f i) now ∙ kept i v (eqb i index) refl is);
  each = λ e c. elim (Contains-append_cases one more e c) as (λ _. IsMadeWord h last e) [
    | inl in_it ↦ subst (IsMadeWord h last) (in_one x e (subst (λ l. Contains l e) told in_it)) (record { hart = hart; index = index; word = word; pa = pa; has = has; stands = w.stay index word (ap (λ (f : ℕ → Option ℕ). f index) now ∙ updated_at first index (Some word)) })
    | inr behind ↦ w.each e behind
  ];
  others = λ i v is. elim (w.others i v is) as (λ _. (first i ≡ Some v) ⊎ IsTold h (one ++ more) i v) [
    | inl there ↦ before i v (eqb i index) refl (sym (ap (λ (f : ℕ → Option ℕ). f i) now) ∙ there)
    | inr t ↦ inr (told_more h one more i v t)
  ];
}
  where
    kept : (i v : ℕ) (t : Bool) → t ≡ eqb i index → first i ≡ Some v → cond t (Some word) (first i) ≡ Some v
    kept i v true e is = absurd (let no : None ≡ Some v = sym free ∙ ap first (sym (eqb-true i index (sym e))) ∙ is in cc)
    kept i v false e is = is

    before : (i v : ℕ) (t : Bool) → t ≡ eqb i index → cond t (Some word) (first i) ≡ Some v → (first i ≡ Some v) ⊎ IsTold h (one ++ more) i v
    before i v true e is =
        let place : index ≡ i = sym (eqb-true i index (sym e)) in
        inr (record {
          e = x;
          among = Contains-append_left one more x (subst (λ l. Contains l x) (sym told) (0, omega arith, refl));
          hart = hart;
          pa = pa ∙ ap (λ n. Some (code_address h n)) place;
          has = has ∙ is;
        })
    before i v false e is = inl is

words_from : (work : Work) (h : ℕ) (events : List Event) (s end : HartState) → s.hart.number ≡ h → Runs (acts work) (acted work) s events end → Worded h s.words end.words (made_of (all_lines events))
words_from work h [] s end number run = record {
  stay = λ i v is. ap (λ (q : HartState). q.words i) run ∙ is;
  each = λ e c. absurd (in_nothing e c);
  others = λ i v is. inl (sym (ap (λ (q : HartState). q.words i) run) ∙ is);
}
words_from work h (e ∷ es) s end number run =
    let m = event_makes work s e run.0 in
    let makes : Makes h s.words (acted work s e).words (made_of e.lines) = subst (λ n. Makes n s.words (acted work s e).words (made_of e.lines)) number m.0 in
    let rest : Worded h (acted work s e).words end.words (made_of (all_lines es)) = words_from work h es (acted work s e) end (m.1 ∙ number) run.1 in
    subst (Worded h s.words end.words) (sym (filter_map-append made_by e.lines (all_lines es)))
    (worded h s.words (acted work s e).words end.words (made_of e.lines) (made_of (all_lines es)) makes rest)

-- the words of the window are those that the lines make, each at its place, and no others
pub record AreWordsOf (h : ℕ) (lines : List Line) (words : ℕ → Option ℕ) : Type 0 where
  pub each : (e : Effect) → Contains (made_of lines) e → IsMadeWord h words e
  pub others : (index word : ℕ) → words index ≡ Some word → IsTold h (made_of lines) index word

-- The words that a hart's run has made are those that its lines tell, whatever it was asked.
pub words_of_run : (work : Work) (seed h : ℕ) (events : List Event) (end : HartState) → RunsTo work seed h events end → AreWordsOf h (all_lines events) end.words
words_of_run work seed h events end run =
    let w = words_from work h events (start work seed h) end refl run in
    record { each = w.each; others = λ index word is. told_at index word (w.others index word is) }
  where
    told_at : (index word : ℕ) → (None ≡ Some word) ⊎ IsTold h (made_of (all_lines events)) index word → IsTold h (made_of (all_lines events)) index word
    told_at index word (inl none) = absurd cc
    told_at index word (inr t) = t
