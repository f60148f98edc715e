-- What a reader wants to know of a hart's lines: each request has one block, in the template's order. It is done, and then the
-- block meets it, or it is refused, and then the cause holds.
use Rattle.std.specs.Prelude.{ℕ, ◌≡◌, ◌+◌, ◌<◌, false, List, [], ◌∷◌, ◌++◌, ◌*◌, length, map, Option, Some, None}
use Rattle.std.specs.List.{AllByRecursion, filter_map, range_with_len}
use Rattle.rv_fields.specs.declared.row_table.Ins.{Ins}
use Rattle.rv_fields.specs.declared.trap.Trap.{Trap}
use Rattle.rv_fields.specs.Attempt.{◌>>=◌}
use Rattle.rv_fields.specs.Decode.{Decoded, decoded}
use Rattle.rv_fields.specs.Effect.{Effect}
use Rattle.operand_solver.specs.Operands.{Serves}
use Rattle.region_plan.specs.Pinned.{csr_pins}
use Rattle.region_plan.specs.Plan.{Work}
use Rattle.region_plan.specs.Request.{InsChoice, Pins, Plain, Request, a_csr, a_jump, a_loop, a_mem, a_pick, a_plain, a_set, a_sys, a_value, an_ins, by_tree, named_ins}
use Rattle.region_plan.specs.Script.{ScriptItem, cost}
use Rattle.trace_fields.specs.declared.request.Cause.{Cause}
use Rattle.trace_fields.specs.declared.request.Cause.TheVariants.{EmptyChoice, BudgetSpent, NoRegister, NoAddress, NoTarget, WindowFull, NoFreePage, NoPlace}
use Rattle.trace_text.specs.Lines.{Line, request, picked, weighed, fixed, given, settled, touched, made, found, ending, done, refused, effects_of}
use Rattle.boot_words.specs.Layout.{m_handler_at, window_words}
use Rattle.hart_task.specs.Acts.{request_kind}
use Rattle.hart_task.specs.Asking.{asked_word, is_served}
use Rattle.hart_task.specs.Beginning.{sys_word}
use Rattle.hart_task.specs.Turn.{end_word}

-- ---- done

-- one step of the instruction that is named, with operands that serve, without a trap, and none that is found
pub record IsStepOf (ins : Ins) (pins : Pins) (own others : List Effect) : Type 0 where
  pub effect : Effect
  pub alone : own ≡ effect ∷ []
  pub no_trap : effect.trap ≡ None
  pub no_handler : others ≡ []
  pub d : Decoded
  pub word : (effect.word >>= decoded) ≡ Some d
  pub ins_is : d.ins ≡ ins
  pub serves : Serves ins pins None d.ops

abbrev pub MeetsIns : InsChoice → Pins → List Effect → List Effect → Type 0
MeetsIns (named_ins ins) pins own others = IsStepOf ins pins own others
MeetsIns (by_tree tree) pins own others = ⊥

-- the addresses of the handler's words
abbrev pub handler_addresses : List ℕ
handler_addresses = map (λ i. m_handler_at + 4 * i) (range_with_len 0 6)

-- Behind a trap the steps that are found are those of the handler, and there are none but behind one.
abbrev pub AreHandled : Option Trap → List Effect → Type 0
AreHandled None others = others ≡ []
AreHandled (Some trap) others = map (λ (e : Effect). e.pc) others ≡ handler_addresses

-- one step of the word, and its handler's where it takes a trap
pub record IsStepOfWord (word : ℕ) (own others : List Effect) : Type 0 where
  pub effect : Effect
  pub alone : own ≡ effect ∷ []
  pub word_is : effect.word ≡ Some word
  pub handled : AreHandled effect.trap others

-- The steps of a block, those of its own words and those that are found, are what its request asks for. No job asks for the
-- others yet.
abbrev pub MeetsPlain : Plain → List Effect → List Effect → Type 0
MeetsPlain (an_ins ins pins) own others = MeetsIns ins pins own others
MeetsPlain (a_mem r) own others = ⊥
MeetsPlain (a_jump r) own others = ⊥
MeetsPlain (a_csr csr ins pins) own others = IsStepOf ins (csr_pins csr pins) own others
MeetsPlain (a_sys sys) own others = IsStepOfWord (sys_word sys) own others
MeetsPlain (a_value value pins) own others = ⊥

abbrev pub Meets : Request → List Effect → List Effect → Type 0
Meets (a_plain p) own others = MeetsPlain p own others
Meets (a_loop times counter body) own others = ⊥
Meets (a_set tree path weight) own others = ⊥
Meets (a_pick tree) own others = ⊥

-- ---- refused

-- the words that lines make
abbrev pub made_by : Line → Option Effect
made_by (request hart k kind) = None
made_by (picked hart tree leaf word) = None
made_by (weighed hart tree path weight) = None
made_by (fixed hart register value) = None
made_by (given hart object page frame) = None
made_by (settled hart space entry) = None
made_by (touched hart at bytes) = None
made_by (made e) = Some e
made_by (found e) = None
made_by (ending e) = Some e
made_by (done hart k) = None
made_by (refused hart k cause preamble) = None

-- the words that they find
abbrev pub found_by : Line → Option Effect
found_by (request hart k kind) = None
found_by (picked hart tree leaf word) = None
found_by (weighed hart tree path weight) = None
found_by (fixed hart register value) = None
found_by (given hart object page frame) = None
found_by (settled hart space entry) = None
found_by (touched hart at bytes) = None
found_by (made e) = None
found_by (found e) = Some e
found_by (ending e) = None
found_by (done hart k) = None
found_by (refused hart k cause preamble) = None

-- Behind these lines of its hart a request has the cause: the hart has no budget for its cost and the ending step, no choice of
-- registers serves its operands, or its window has no room for its word and the ending one. No request that a job can ask for has
-- another cause yet.
abbrev pub HasCause : Work → ℕ → List Line → Request → Cause → Type 0
HasCause work h before r EmptyChoice = ⊥
HasCause work h before r BudgetSpent = work.budget < length (effects_of before) + cost r + 1
HasCause work h before r NoRegister = is_served (asked_word r) ≡ false
HasCause work h before r NoAddress = ⊥
HasCause work h before r NoTarget = ⊥
HasCause work h before r WindowFull = window_words work h < length (filter_map made_by before) + 2
HasCause work h before r NoFreePage = ⊥
HasCause work h before r NoPlace = ⊥

-- ---- blocks

-- a line within a block tells neither that a request begins nor that one ends
abbrev pub IsInner : Line → Type 0
IsInner (request hart k kind) = ⊥
IsInner (picked hart tree leaf word) = Unit {0}
IsInner (weighed hart tree path weight) = Unit {0}
IsInner (fixed hart register value) = Unit {0}
IsInner (given hart object page frame) = Unit {0}
IsInner (settled hart space entry) = Unit {0}
IsInner (touched hart at bytes) = Unit {0}
IsInner (made e) = Unit {0}
IsInner (found e) = Unit {0}
IsInner (ending e) = ⊥
IsInner (done hart k) = ⊥
IsInner (refused hart k cause preamble) = ⊥

-- how a block of the request of number k ends
pub data Ended (work : Work) (h k : ℕ) (r : Request) (before inner : List Line) (last : Line) : Type 0 where
  is_met : last ≡ done h k → Meets r (filter_map made_by inner) (filter_map found_by inner) → Ended work h k r before inner last
  is_refused : (cause : Cause) (preamble : ℕ) → last ≡ refused h k cause preamble → HasCause work h before r cause → Ended work h k r before inner last

pub record IsBlock (work : Work) (h k : ℕ) (r : Request) (before block : List Line) : Type 0 where
  pub inner : List Line
  pub last : Line
  pub are_inner : AllByRecursion IsInner inner
  pub lines : block ≡ request h k (request_kind r) ∷ inner ++ last ∷ []
  pub ended : Ended work h k r before inner last

-- A hart's lines from its request of number k on, behind those before: a block for each request that is left, and then the ending
-- step, which reads no register.
abbrev pub AreBlocks : Work → ℕ → ℕ → List ScriptItem → List Line → List Line → Type 0
AreBlocks work h k [] before lines = (e : Effect) × (e.word ≡ Some end_word) × (lines ≡ ending e ∷ [])
AreBlocks work h k (item ∷ items) before lines = (block rest : List Line) × IsBlock work h k item.request before block
    × (lines ≡ block ++ rest) × AreBlocks work h (k + 1) items (before ++ block) rest
