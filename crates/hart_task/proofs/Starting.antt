-- A task before its first event, and behind its last.
use Rattle.std.proofs.Common.{ℕ, ◌+◌, ◌-◌, ◌*◌, ◌<◌, ◌≡◌, Bool, true, false, cond, eqb, eqb-true, List, [], length, replicate, Some, None, refl, sym, ap, subst, ◌∙◌, arith}
use Rattle.std.specs.Prelude.{slice_get, slice_index}
use Rattle.rv_fields.specs.declared.mode.Mode.TheVariants.{M}
use Rattle.rv_fields.specs.CsrFile.{CsrFile}
use Rattle.rv_fields.specs.Hart.{Registers, updated}
use Rattle.rv_fields.specs.Laws.{TellsMore}
use Rattle.choice_tree.specs.Draws.{Draws}
use Rattle.region_plan.specs.Plan.{HartPlan, Work, hart_count, no_hart, plan_of}
use Rattle.region_plan.specs.Rules.{KeepsRules}
use Rattle.region_plan.specs.Request.{Items}
use Rattle.world_face.specs.Events.{Placed}
use Rattle.boot_words.specs.Layout.{code_start, window_by}
use Rattle.boot_words.specs.Startup.{start_csrs, start_mode}
use Rattle.boot_words.proofs.Started.{mode_is}
use Rattle.hart_task.specs.Log.{events_of}
use Rattle.trace_text.specs.Lines.{starting}
use Rattle.hart_task.specs.OneRun.{IsAtEnd, RunsTo, all_lines}
use Rattle.hart_task.specs.State.{start}
use Rattle.hart_task.specs.Task.{IsLogOf, Stands, TaskSeen, phase_seen, state_of}
use Rattle.hart_task.specs.declared.task.Phase.TheVariants as tasks
use Rattle.hart_task.proofs.Begins.{plain_work}
use Rattle.hart_task.proofs.Turns.{few_there, few_words}
use Rattle.hart_task.proofs.Led.{csrs_plain}

-- no part of the start reads the code pages and the template
mode_plain : (pages : ℕ) (items : Items) (h : ℕ) → start_mode (record no_hart { code_pages = pages; template = items }) h ≡ start_mode no_hart h
unfolding start_mode
mode_plain pages items h = refl

zero_held : TellsMore (updated (λ r. None) 0 (Some 0)) (λ r. Some (slice_index (replicate 32 0) r))
zero_held r v e = of (eqb r 0) refl e
  where
    of : (t : Bool) → t ≡ eqb r 0 → cond t (Some 0) None ≡ Some v → Some (slice_index (replicate 32 0) r) ≡ Some v
    of true is e = let at : r ≡ 0 = eqb-true r 0 (sym is) in ap (λ q. Some (slice_index (replicate 32 0) q)) at ∙ e
    of false is e = absurd cc

-- a task whose registers are all 0
abbrev pub new_task : ℕ → ℕ → CsrFile → Draws → Registers → Registers → List Placed → List ℕ → TaskSeen
new_task h pc csrs draws initial present placed ws = record {
  hart = record { number = h; pc = pc; x = λ r. Some (slice_index (replicate 32 0) r); mode = M; csrs = csrs; reserved = None };
  phase = tasks.Between;
  begun = 0;
  draws = draws;
  log = record { events = placed; words = ws; initial = initial; present = present };
}

pub stands_new : (work : Work) (h pc : ℕ) (csrs : CsrFile) (draws : Draws) (initial present : Registers) (placed : List Placed) (ws : List ℕ) → KeepsRules work → h < hart_count work
    → pc ≡ code_start h → csrs ≡ start_csrs no_hart h → draws.stream ≡ 2 * h + 1 → draws.drawn ≡ 0 → initial ≡ (λ r. None) → present ≡ updated (λ r. None) 0 (Some 0) → placed ≡ [] → ws ≡ []
    → Stands work (new_task h pc csrs draws initial present placed ws)
stands_new work h pc csrs draws initial present placed ws keeps member at leaves stream drawn nothing only no_events no_words =
    let plan : plan_of work h ≡ record no_hart { code_pages = (plan_of work h).code_pages; template = (plan_of work h).template } = (plain_work work h keeps member).plan in
    let window : window_by (plan_of work h) h ≡ code_start h = ap (λ (p : HartPlan). window_by p h) plan in
    let file : start_csrs (plan_of work h) h ≡ start_csrs no_hart h = ap (λ (p : HartPlan). start_csrs p h) plan ∙ csrs_plain (plan_of work h).code_pages (plan_of work h).template h in
    let mode : start_mode (plan_of work h) h ≡ M = ap (λ (p : HartPlan). start_mode p h) plan ∙ mode_plain (plan_of work h).code_pages (plan_of work h).template h ∙ mode_is h in
    let t : TaskSeen = new_task h pc csrs draws initial present placed ws in
    record {
      run = subst (λ p. RunsTo work draws.seed h (events_of p) (state_of work t)) (sym no_events) (λ i. record (start work draws.seed h) {
        hart = record { number = h; pc = (at ∙ sym window) i; x = only i; mode = sym mode i; csrs = (leaves ∙ sym file) i; reserved = None };
        draws = record { seed = draws.seed; stream = stream i; drawn = drawn i };
        words = λ k. ap (λ (w : List ℕ). slice_get w k) no_words i;
        steps = none_before i;
      });
      member = member;
      held = subst (λ (g : Registers). TellsMore g (λ r. Some (slice_index (replicate 32 0) r))) (sym only) zero_held;
      fresh = λ r e. ap (λ (f : Registers). f r) nothing;
      initial = λ r. ap (λ (f : Registers). f r) nothing ∙ sym (ap (λ p. starting (all_lines (events_of p)) h r) no_events);
      stream = stream;
      few = omega (arith, drawn);
      events = omega arith;
      phase = tt;
    }
  where
    none_before : length placed - 0 ≡ 0
    none_before = let none = ap length no_events in omega (arith, none)

-- ---- behind the last event

pub log_of : (work : Work) (t : TaskSeen) → KeepsRules work → Stands work t → t.phase ≡ tasks.Finished → IsLogOf work t.draws.seed t.hart.number t.log
log_of work t keeps st is =
    let words = few_words work t keeps st is in
    let few = few_there work t keeps st in
    record {
      run = record { end = state_of work t; run = st.run; finished = subst (λ p. IsAtEnd (phase_seen p)) (sym is) tt };
      words = refl;
      values = st.initial;
      room = omega (arith, words);
      few = few.1;
    }
