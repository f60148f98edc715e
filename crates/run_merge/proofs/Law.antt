-- What a machine has to have for the harts to do in it what the lines tell.
use Rattle.std.specs.List.{AllByRecursion}
use Rattle.std.proofs.Common.{ℕ, ◌<◌, ◌≡◌, Bool, true, false, cond, eqb, eqb-true, List, Option, Some, None, length, refl, sym, ap, ◌∙◌}
use Rattle.std.specs.Option.{option_or}
use Rattle.rv_fields.specs.Hart.{Hart, Registers, updated}
use Rattle.rv_fields.specs.Laws.{opened}
use Rattle.rv_fields.specs.Memory.{Seen}
use Rattle.rv_fields.specs.Play.{Machine}
use Rattle.region_plan.specs.Plan.{Work, hart_count, plan_of}
use Rattle.boot_words.specs.Startup.{IsStart}
use Rattle.table_space.specs.Tables.{opening_space}
use Rattle.trace_text.specs.Lines.{Line}
use Rattle.hart_task.specs.State.{entries_at_first, start}
use Rattle.hart_task.proofs.Going.{Over, laid}
use Rattle.hart_task.proofs.Held.{EntriesStand}
use Rattle.hart_task.proofs.Standing.{HandlersStand, HasFixed, IsPlanned}

-- Its memory is whole, and no link stands. The handlers, the tables before the run and all that the lines fix are there, and its
-- harts stand at their start.
pub record HasAll (work : Work) (lines : List Line) (m : Machine) : Type 0 where
  pub bytes : (a : ℕ) → (b : ℕ) × (m.seen.byte a ≡ Some b) × (b < 256)
  pub links : (h g : ℕ) → m.seen.link h g ≡ Some false
  pub handlers : HandlersStand m.seen
  pub tables : (k : ℕ) → k < length work.spaces → EntriesStand m.seen (opening_space work k).entries
  pub fixed : AllByRecursion (HasFixed m) lines
  pub harts : (h : ℕ) → h < hart_count work → IsStart work h (m.harts h)

-- ---- a hart at its start is beside its log

laid_start : (x : Registers) → x 0 ≡ Some 0 → (r : ℕ) → x r ≡ laid (updated (λ r. None) 0 (Some 0)) x r
laid_start x zero_is r = of (eqb r 0) refl
  where
    of : (t : Bool) → t ≡ eqb r 0 → x r ≡ option_or (cond t (Some 0) None) (x r)
    of true e = ap x (eqb-true r 0 (sym e)) ∙ zero_is
    of false e = refl

-- it is the log's hart, but for anything in mcause and mtval, and with all its registers told
pub started : (work : Work) (seed h : ℕ) (hart : Hart) → IsStart work h hart
    → hart ≡ opened (laid (start work seed h).hart.x hart.x) hart.csrs.mcause hart.csrs.mtval (start work seed h).hart
started work seed h hart is = λ i. record {
  number = is.number i;
  pc = is.pc i;
  x = λ r. laid_start hart.x is.zero r i;
  mode = is.mode i;
  csrs = is.csrs i;
  reserved = is.reserved i;
}

pub over_start : (work : Work) (seed h : ℕ) (hart : Hart) (first : Seen) → IsPlanned work
    → ((k : ℕ) → k < length work.spaces → EntriesStand first (opening_space work k).entries) → IsStart work h hart → Over hart first (start work seed h) hart
over_start work seed h hart first planned tables is = record {
  c = hart.csrs.mcause;
  t = hart.csrs.mtval;
  is = started work seed h hart is;
  words = λ i word none. absurd cc;
  entries = of (plan_of work h).space refl;
}
  where
    of : (o : Option ℕ) → o ≡ (plan_of work h).space → EntriesStand first (entries_at_first work o)
    of None is = λ at pte none. absurd cc
    of (Some k) is = tables k (planned h k (sym is))
