-- The state of a hart as its log tells it.
use Rattle.std.specs.Prelude.{List, None, Option, Some, option_map, ℕ, ◌+◌, ◌-◌, ◌*◌, ◌/◌}
use Rattle.boot_words.specs.Startup.{start_csrs, start_mode}
use Rattle.boot_words.specs.Layout.{window_at}
use Rattle.choice_tree.specs.Draws.{Draws}
use Rattle.region_plan.specs.Plan.{Work, plan_of}
use Rattle.region_plan.specs.Request.{Demand, Plain}
use Rattle.region_plan.specs.Script.{ScriptItem, script_of}
use Rattle.rv_fields.specs.Hart.{Hart, updated}
use Rattle.rv_fields.specs.declared.row_table.Ins.{Ins}
use Rattle.rv_fields.specs.declared.row_table.Ops.{Ops}
use Rattle.table_space.specs.Tables.{opening_space}

-- a wanted load that is made when its place is known: its operands but for the offset, and the page's virtual address
pub record WantedLoad : Type 0 where
  pub ins : Ins
  pub ops : Ops
  pub page : ℕ
  pub value : ℕ
  -- the words made before it
  pub preamble : ℕ

-- a loop whose body begins when its counter is loaded
pub record LoopAhead : Type 0 where
  pub counter : ℕ
  pub body : List Plain

-- what comes when a request's words are made
pub data Sequel : Type 0 where
  -- the request is done, or its handler comes first; its last step is as the demand says, or anything where there is none
  is_done : Option Demand → Sequel
  -- one word more: the load at the place where it finds the wanted value
  wants : WantedLoad → Sequel
  -- the body's first request
  enters : LoopAhead → Sequel
  -- the loop is done, or turns
  turns : Sequel

-- a request of this number that has begun: the words that it makes yet, and what comes then
pub record Making : Type 0 where
  pub k : ℕ
  pub words : List ℕ
  pub sequel : Sequel

-- how far the hart steps words that it finds: out of the handler, or through a loop's later turns up to an address
pub data Until : Type 0 where
  handled : Until
  reaches : ℕ → Until

pub data Phase : Type 0 where
  -- the next request begins, or the ending step is made
  between : Phase
  -- a request makes its words
  making : Making → Phase
  -- the hart steps words that it finds; the request of this number is done when it comes out
  finding : ℕ → Until → Phase
  at_end : Phase

-- the page table entries before the run that a hart of the space knows
abbrev pub entries_at_first : Work → Option ℕ → ℕ → Option ℕ
entries_at_first work None = λ at. None
entries_at_first work (Some space) = (opening_space work space).entries

-- a loop in its first turn: its number, its counter, the index of its body's first word, and the requests of the body that are left
pub record Loop : Type 0 where
  pub k : ℕ
  pub counter : ℕ
  pub start : ℕ
  pub body : List Plain

pub record HartState : Type 0 where
  -- the hart by the step's definition: of its registers the untouched ones have no value
  pub hart : Hart
  -- the stream from which it draws its picks, and the one from which it draws all else
  pub picks : Draws
  pub draws : Draws
  -- the word made at each index of its window; jumps leave gaps
  pub words : ℕ → Option ℕ
  -- the page table entries that it knows by their addresses: those before the run, and those of the ways that it settled
  pub entries : ℕ → Option ℕ
  -- what is left of its template
  pub left : List ScriptItem
  -- how many requests have begun, and how many steps were taken
  pub count : ℕ
  pub steps : ℕ
  pub loop : Option Loop
  pub phase : Phase

-- before any event: no register has a value but x0
abbrev pub start : Work → ℕ → ℕ → HartState
start work seed h = record {
  hart = record {
    number = h;
    pc = window_at work h;
    x = updated (λ r. None) 0 (Some 0);
    mode = start_mode (plan_of work h) h;
    csrs = start_csrs (plan_of work h) h;
    reserved = None;
  };
  picks = record { seed = seed; stream = 2 * h; drawn = 0 };
  draws = record { seed = seed; stream = 2 * h + 1; drawn = 0 };
  words = λ index. None;
  entries = entries_at_first work (plan_of work h).space;
  left = script_of (plan_of work h).template;
  count = 0;
  steps = 0;
  loop = None;
  phase = between;
}

-- the index in the window of the word at pc, where the hart is in its code
abbrev pub index_of : Work → HartState → ℕ
index_of work s = (s.hart.pc - window_at work s.hart.number) / 4

-- the counter of the loop in which the next request stands
abbrev pub counter_of : HartState → Option ℕ
counter_of s = option_map (λ (l : Loop). l.counter) s.loop
