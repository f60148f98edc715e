-- What the step of a made word was.
use Rattle.std.proofs.Common.{ℕ, ◌+◌, ◌*◌, ◌≡◌, true, eqb-true, ◌&&◌, List, Option, Some, None, refl, sym, ap, subst, ◌∙◌}
use Rattle.std.specs.Prelude.{is_none}
use Rattle.std.proofs.lemmas.Bool.{and_parts}
use Rattle.std.proofs.lemmas.Option.{cond_some}
use Rattle.rv_fields.specs.Decode.{Decoded, decoded}
use Rattle.rv_fields.specs.Step.{Stepped, step}
use Rattle.rv_fields.proofs.Opened.{step_leaves}
use Rattle.rv_fields.proofs.Options.{found}
use Rattle.region_plan.specs.Plan.{Work, is_it}
use Rattle.boot_words.specs.Layout.{code_start}
use Rattle.world_face.specs.Events.{Wanted}
use Rattle.hart_task.specs.Acts.{Fixing}
use Rattle.hart_task.specs.Heard.{Heard}
use Rattle.hart_task.specs.State.{HartState, index_of}
use Rattle.hart_task.specs.Stepping.{fixed_in, StepTaken, keeps_rules, late_registers, named_by, seen_of, stepped, taken_step, untouched, with_fixed, word_here}
use Rattle.hart_task.specs.Turn.{made_at, made_step, with_word}

-- ---- a step that was taken

-- the registers that a word at pc fixes
abbrev pub late_for : HartState → ℕ → List Fixing
late_for s word = late_registers s.draws (untouched s (named_by (decoded word)))

pub record Taken (work : Work) (s : HartState) (heard : Heard) (wanted : Option Wanted) (t : StepTaken) : Type 0 where
  pub here : ℕ
  pub stands : word_here s (seen_of work s heard) ≡ Some here
  pub r : Stepped
  pub steps : step (seen_of work s heard) (record s.hart { x = fixed_in s.hart.x (late_for s here) }) ≡ Some r
  pub is : t ≡ taken_step (record s { steps = s.steps + 1 }) (seen_of work s heard) heard wanted (decoded here) (late_for s here) r

pub taken : (work : Work) (s : HartState) (heard : Heard) (wanted : Option Wanted) (t : StepTaken) → stepped work s heard wanted ≡ Some t → Taken work s heard wanted t
taken work s heard wanted t e =
    let here = found (word_here s (seen_of work s heard)) _ t e in
    let s1 : HartState = record s { steps = s.steps + 1 } in
    let late : List Fixing = late_for s here.0 in
    let r = found (step (seen_of work s heard) (with_fixed s1 late).hart) _ t here.2 in
    record {
      here = here.0;
      stands = here.1;
      r = r.0;
      steps = r.1;
      is = sym (cond_some (keeps_rules r.0.effect) (taken_step s1 (seen_of work s heard) heard wanted (decoded here.0) late r.0) t r.2).1;
    }

-- ---- of a word that is made

pub record Made (work : Work) (s : HartState) (w : ℕ) (heard : Heard) (wanted : Option Wanted) (t : StepTaken) : Type 0 where
  pub taken : Taken work (with_word work s w) heard wanted t
  pub free : s.words (index_of work s) ≡ None
  pub pa : t.effect.pa ≡ Some (code_start s.hart.number + 4 * index_of work s)
  pub word : t.effect.word ≡ Some w

pub nothing_in : {A : Type 0} (m : Option A) → is_none m ≡ true → m ≡ None
nothing_in None e = refl
nothing_in (Some a) e = absurd cc

pub it_is : (n : ℕ) (m : Option ℕ) → is_it n m ≡ true → m ≡ Some n
it_is n None e = absurd cc
it_is n (Some m) e = ap Some (sym (eqb-true n m e))

pub made_was : (work : Work) (s : HartState) (word : ℕ) (heard : Heard) (wanted : Option Wanted) (t : StepTaken) → made_step work s word heard wanted ≡ Some t → Made work s word heard wanted t
made_was work s word heard wanted t e =
    let x = found (stepped work (with_word work s word) heard wanted) _ t e in
    let tests = cond_some (is_none (s.words (index_of work s)) && made_at work s word x.0.effect) x.0 t x.2 in
    let each = and_parts (is_none (s.words (index_of work s))) (made_at work s word x.0.effect) tests.0 in
    let at = and_parts (is_it (code_start s.hart.number + 4 * index_of work s) x.0.effect.pa) (is_it word x.0.effect.word) each.1 in
    subst (Made work s word heard wanted) tests.1 (record {
      taken = taken work (with_word work s word) heard wanted x.0 x.1;
      free = nothing_in (s.words (index_of work s)) each.0;
      pa = it_is (code_start s.hart.number + 4 * index_of work s) x.0.effect.pa at.0;
      word = it_is word x.0.effect.word at.1;
    })

-- one word has one row
pub same_row : (w word : ℕ) (k d : Decoded) → w ≡ word → decoded w ≡ Some k → decoded word ≡ Some d → k ≡ d
same_row w word k d same is row = let both : Some k ≡ Some d = sym is ∙ ap decoded same ∙ row in cc

pub number_after : (work : Work) (s : HartState) (heard : Heard) (wanted : Option Wanted) (t : StepTaken) (k : Taken work s heard wanted t) → k.r.hart.number ≡ s.hart.number
number_after work s heard wanted t k = (step_leaves (seen_of work s heard) (record s.hart { x = fixed_in s.hart.x (late_for s k.here) }) k.r k.steps).number
