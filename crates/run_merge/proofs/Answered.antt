-- The lines of the logs of all harts are justified: whatever else stands in memory and registers, the harts do what they tell.
use Rattle.std.proofs.Common.{ℕ, zero, suc, ◌<◌, ◌≡◌, Bool, true, false, cond, ltb, List, [], ◌∷◌, length, map, get_or, Option, Some, None, refl, sym, ap, ◌∙◌, arith}
use Rattle.std.specs.Prelude.{slice_get, unwrap_or}
use Rattle.std.specs.List.{AllByRecursion, filter_map}
use Rattle.std.proofs.lemmas.Bool.Decides.{nat_tests}
use Rattle.std.proofs.lemmas.Option.{slice_get-get_or}
use Rattle.rv_fields.specs.declared.mode.Mode.TheVariants.{S, M}
use Rattle.rv_fields.specs.Effect.{Effect}
use Rattle.rv_fields.specs.Memory.{Seen}
use Rattle.rv_fields.specs.Play.{Machine}
use Rattle.region_plan.specs.Plan.{HartPlan, Work, hart_count, no_hart}
use Rattle.region_plan.specs.Rules.{IsPlainHart, KeepsRules}
use Rattle.boot_words.specs.Boot.{handler}
use Rattle.trace_text.specs.Lines.{Line, done, ending, fixed, found, given, hart_of, made, picked, refused, request, settled, starting, touched, weighed}
use Rattle.world_face.specs.Events.{Event}
use Rattle.hart_task.specs.Blocks.{made_by}
use Rattle.hart_task.specs.Log.{LogSeen}
use Rattle.hart_task.specs.Logs.{AreLogsOf}
use Rattle.hart_task.specs.OneRun.{all_lines}
use Rattle.hart_task.specs.Stepping.{listed_words}
use Rattle.hart_task.proofs.Owned.{IsOwn}
use Rattle.hart_task.proofs.Standing.{HasFixed, IsPlanned, WordStands}
use Rattle.run_merge.specs.Image.{effect_pa, effect_word}
use Rattle.run_merge.specs.Justified.{Justified, Starts}
use Rattle.run_merge.specs.Run.{log_image}
use Rattle.run_merge.proofs.Law.{HasAll}
use Rattle.run_merge.proofs.LogImages.{images_are}
use Rattle.run_merge.proofs.Merged.{all_own, one_run}
use Rattle.run_merge.proofs.Stood.{WordAt, m_handler_stands, s_handler_stands, words_stand}
use Rattle.run_merge.proofs.Whole.{justified}

-- ---- no hart has a space

none_has : (harts : List HartPlan) (h : ℕ) → AllByRecursion IsPlainHart harts → (get_or harts h no_hart).space ≡ None
none_has [] h plain = refl
none_has (p ∷ ps) zero plain = ap (λ (q : HartPlan). q.space) plain.0.plain
none_has (p ∷ ps) (suc h) plain = none_has ps h plain.1

planned : (work : Work) → KeepsRules work → IsPlanned work
planned work keeps h k is = absurd (let no : None ≡ Some k = sym (none_has work.harts h keeps.harts) ∙ is in cc)

no_spaces : (work : Work) → KeepsRules work → work.spaces ≡ []
no_spaces work keeps = ap (λ (w : Work). w.spaces) keeps.rest

-- ---- what the lines fix

listed : (words : List ℕ) (i word : ℕ) → listed_words words i ≡ Some word → slice_get words i ≡ Some word
listed words i word is = of (ltb i (length words)) refl is
  where
    of : (t : Bool) → t ≡ ltb i (length words) → cond t (Some (get_or words i 0)) None ≡ Some word → slice_get words i ≡ Some word
    of true e is = slice_get-get_or words i 0 (grind (arith, nat_tests)) ∙ is
    of false e is = absurd cc

word_there : (seen : Seen) (pa word : Option ℕ) → WordAt seen.byte (unwrap_or pa 0) (unwrap_or word 0) → WordStands seen pa word
word_there seen None word stands = tt
word_there seen (Some pa) None stands = tt
word_there seen (Some pa) (Some word) stands = stands

all_fixed : (n : ℕ) (first : ℕ → ℕ → Option ℕ) (m : Machine) → ((h r v : ℕ) → h < n → first h r ≡ Some v → (m.harts h).x r ≡ Some v) → (ls : List Line)
    → AllByRecursion (λ (l : Line). (hart_of l < n) × IsOwn (hart_of l) (first (hart_of l)) l) ls
    → AllByRecursion (λ (e : Effect). WordAt m.seen.byte (effect_pa e) (effect_word e)) (filter_map made_by ls)
    → AllByRecursion (HasFixed m) ls
all_fixed n first m registers [] own words = tt
all_fixed n first m registers (request hart k kind ∷ ls) own words = (tt, all_fixed n first m registers ls own.1 words)
all_fixed n first m registers (picked hart tree leaf word ∷ ls) own words = (tt, all_fixed n first m registers ls own.1 words)
all_fixed n first m registers (weighed hart tree path weight ∷ ls) own words = (tt, all_fixed n first m registers ls own.1 words)
all_fixed n first m registers (fixed hart register value ∷ ls) own words = (registers hart register value own.0.0 own.0.1.1, all_fixed n first m registers ls own.1 words)
all_fixed n first m registers (given hart object page frame ∷ ls) own words = absurd own.0.1
all_fixed n first m registers (settled hart space e ∷ ls) own words = absurd own.0.1
all_fixed n first m registers (touched hart at bytes ∷ ls) own words = absurd own.0.1
all_fixed n first m registers (made e ∷ ls) own words = (word_there m.seen e.pa e.word words.0, all_fixed n first m registers ls own.1 words.1)
all_fixed n first m registers (found e ∷ ls) own words = (tt, all_fixed n first m registers ls own.1 words)
all_fixed n first m registers (ending e ∷ ls) own words = (word_there m.seen e.pa e.word words.0, all_fixed n first m registers ls own.1 words.1)
all_fixed n first m registers (done hart k ∷ ls) own words = (tt, all_fixed n first m registers ls own.1 words)
all_fixed n first m registers (refused hart k cause preamble ∷ ls) own words = (tt, all_fixed n first m registers ls own.1 words)

-- A machine that starts so has all that the lines fix.
pub has_all : (work : Work) (seed : ℕ) (logs : List LogSeen) (events : List Event) → KeepsRules work → AreLogsOf work seed logs events
    → (m : Machine) → Starts work (all_lines events) m → HasAll work (all_lines events) m
has_all work seed logs events keeps are m starts = record {
  bytes = starts.whole;
  links = starts.links;
  handlers = (
    λ i word is. m_handler_stands work (all_lines events) m.seen.byte keeps.most starts.memory i word (listed (handler M) i word is),
    λ i word is. s_handler_stands work (all_lines events) m.seen.byte keeps.most starts.memory i word (listed (handler S) i word is),
  );
  tables = λ k small. absurd (let none = ap length (no_spaces work keeps) in omega (arith, small, none));
  fixed = all_fixed (hart_count work) (starting (all_lines events)) m starts.registers (all_lines events) (all_own work seed logs events are)
      (words_stand work (all_lines events) (map log_image logs) m.seen.byte (images_are work seed logs events keeps are) keeps.most starts.memory);
  harts = starts.harts;
}

-- In the order of their places, the harts of every machine that starts so do exactly what the lines tell.
pub justified_run : (work : Work) (seed : ℕ) (logs : List LogSeen) (events : List Event) → KeepsRules work → AreLogsOf work seed logs events → Justified work (all_lines events)
justified_run work seed logs events keeps are m starts =
    justified work [] seed events (planned work keeps) (one_run work seed logs events are []) m (has_all work seed logs events keeps are m starts)
