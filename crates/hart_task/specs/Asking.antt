-- What a request asks for: its word, and what the step of that has to be.
use Rattle.std.specs.Prelude.{Bool, ℕ, ◌≡◌, None, Option, Some, true}
use Rattle.rv_fields.specs.declared.row_table.Ins.{Ins}
use Rattle.rv_fields.specs.declared.row_table.Ops.{Ops}
use Rattle.rv_fields.specs.RowTable.{form_of}
use Rattle.rv_encode.specs.Fitting.{misfit}
use Rattle.rv_encode.specs.Packing.{word_by}
use Rattle.choice_tree.specs.Draws.{Draws}
use Rattle.operand_solver.specs.Operands.{Serves, operands_drawn, registers_of, serve}
use Rattle.region_plan.specs.declared.request.Item as item
use Rattle.region_plan.specs.declared.request.Item.TheVariants.{One}
use Rattle.region_plan.specs.Pinned.{csr_pins}
use Rattle.region_plan.specs.Request.{Demand, InsChoice, Pins, Plain, Quiet, Request, a_csr, a_jump, a_loop, a_mem, a_pick, a_plain, a_set, a_sys, a_value, an_ins, by_tree, named_ins, no_arms}
use Rattle.region_plan.specs.Script.{ScriptItem}
use Rattle.region_plan.specs.Views.{request_seen}
use Rattle.hart_task.specs.Beginning.{sys_word}

-- a word that is asked for: an instruction's, some of whose operands are given, or a word by itself
pub data AskedWord : Type 0 where
  of_ins : Ins → Pins → AskedWord
  itself : ℕ → AskedWord

abbrev pub ins_asked : InsChoice → Pins → AskedWord
ins_asked (named_ins ins) pins = of_ins ins pins
ins_asked (by_tree tree) pins = itself 0

abbrev pub plain_asked : Plain → AskedWord
plain_asked (an_ins ins pins) = ins_asked ins pins
plain_asked (a_mem r) = itself 0
plain_asked (a_jump r) = itself 0
plain_asked (a_csr csr ins pins) = of_ins ins (csr_pins csr pins)
plain_asked (a_sys sys) = itself (sys_word sys)
plain_asked (a_value value pins) = itself 0

-- what the request asks for; no job asks for the others yet
abbrev pub asked_word : Request → AskedWord
asked_word (a_plain p) = plain_asked p
asked_word (a_loop times counter body) = itself 0
asked_word (a_set tree path weight) = itself 0
asked_word (a_pick tree) = itself 0

abbrev pub plain_demand : Plain → Option Demand
plain_demand (an_ins ins pins) = Some Quiet
plain_demand (a_mem r) = None
plain_demand (a_jump r) = None
plain_demand (a_csr csr ins pins) = None
plain_demand (a_sys sys) = None
plain_demand (a_value value pins) = None

-- What its step has to be: of one on a CSR, or of a word of its own, nothing is asked.
abbrev pub demand_asked : Request → Option Demand
demand_asked (a_plain p) = plain_demand p
demand_asked (a_loop times counter body) = None
demand_asked (a_set tree path weight) = None
demand_asked (a_pick tree) = None

-- some choice of registers serves the operands
abbrev pub is_served : AskedWord → Bool
is_served (of_ins ins pins) = serve (registers_of ins pins None)
is_served (itself word) = true

-- a word, and the stream behind the words that chose its operands
pub record Worded : Type 0 where
  pub word : ℕ
  pub left : Draws

-- the word that the next words of the stream make of it
abbrev pub worded : AskedWord → Draws → Worded
worded (of_ins ins pins) draws =
    let d = operands_drawn ins pins None draws in record { word = word_by ins d.ops; left = d.left }
worded (itself word) draws = record { word = word; left = draws }

-- It is the instruction's, with operands that it can hold and that serve.
pub record IsWordOfIns (ins : Ins) (pins : Pins) (word : ℕ) : Type 0 where
  pub ops : Ops
  pub word_is : word ≡ word_by ins ops
  pub fits : misfit (form_of ins) ops ≡ None
  pub serves : Serves ins pins None ops

abbrev pub IsWordFor : AskedWord → ℕ → Type 0
IsWordFor (of_ins ins pins) word = IsWordOfIns ins pins word
IsWordFor (itself it) word = word ≡ it

-- what an item of a template is in its script
abbrev pub item_seen : item.Item → ScriptItem
item_seen (One r) = record { request = request_seen r; arms = no_arms }
