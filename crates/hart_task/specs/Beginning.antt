-- How a request begins: what it is refused for, and else what its next drawn words make of it.
use Rattle.rv_encode.specs.Packing.{word_by}
use Rattle.std.specs.Option.{option_map_or}
use Rattle.std.specs.Prelude.{Bool, List, None, Option, Some, false, find, is_none, is_some, length, nat_lt, not, option_and_then, option_map, pos, true, unwrap_or, ℕ, ◌+◌, ◌-◌, ◌==◌, ◌&&◌, ◌||◌, ◌∷◌, ◌++◌, [], if◌then◌else◌}
use Rattle.boot_words.specs.Layout.{window_at, window_words}
use Rattle.choice_tree.specs.Draws.{Draws}
use Rattle.hart_task.specs.Acts.{Fixing}
use Rattle.hart_task.specs.Heard.{Heard}
use Rattle.hart_task.specs.State.{HartState, Sequel, counter_of, enters, index_of, is_done, turns, wants}
use Rattle.operand_solver.specs.Operands.{Operand, allowed, behind_operand, operand, operands_drawn, registers_of, serve, value_of_operand}
use Rattle.place_solver.specs.Placing.{PlacedAccess, candidates, count, placed_access, serves_mem}
use Rattle.place_solver.specs.Targets.{Targeted, has_no_target, jump_registers, jump_words, targeted}
use Rattle.region_plan.specs.Plan.{Region, Work, object_page, page_of, region_at, regions_of}
use Rattle.region_plan.specs.Request.{Demand, InsChoice, JumpRequest, MemRequest, Misaligned, PageFault, Pins, Plain, Quiet, Request, SysWord, a_csr, a_jump, a_loop, a_mem, a_pick, a_plain, a_set, a_sys, a_value, an_ins, by_tree, named_ins, sys_ebreak, sys_ecall, sys_mret, sys_sfence, sys_sret, sys_zero}
use Rattle.region_plan.specs.Script.{cost, loop_words}
use Rattle.rv_encode.specs.Li.{li}
use Rattle.rv_fields.specs.Csr.{csr_number}
use Rattle.rv_fields.specs.RowTable.{ins_called, value_of}
use Rattle.rv_fields.specs.Sv39.{is_canonical}
use Rattle.rv_fields.specs.declared.row_table.Ins.{Ins}
use Rattle.rv_fields.specs.declared.row_table.Ins.TheVariants.{Addi, Ebreak, Ecall, Mret, SfenceVma, Sret}
use Rattle.trace_fields.specs.declared.request.Cause.{Cause}
use Rattle.rv_fields.specs.Name.{Name}
use Rattle.trace_fields.specs.declared.request.Cause.TheVariants.{BudgetSpent, EmptyChoice, NoAddress, NoFreePage, NoPlace, NoRegister, NoTarget, WindowFull}
use Rattle.world_face.specs.Events.{Settle}

-- ---- the instruction

-- the tree from which a request's instruction, or its arm, is picked
abbrev pub choice_tree_of : InsChoice → Option ℕ
choice_tree_of (named_ins ins) = None
choice_tree_of (by_tree tree) = Some tree

abbrev pub plain_tree : Plain → Option ℕ
plain_tree (an_ins ins pins) = choice_tree_of ins
plain_tree (a_mem r) = choice_tree_of r.ins
plain_tree (a_jump r) = choice_tree_of r.ins
plain_tree (a_csr csr ins pins) = None
plain_tree (a_sys sys) = None
plain_tree (a_value value pins) = None

abbrev pub tree_of : Request → Option ℕ
tree_of (a_plain p) = plain_tree p
tree_of (a_loop times counter body) = None
tree_of (a_set tree path weight) = None
tree_of (a_pick tree) = Some tree

-- the instruction that is named, or that the leaf names: each leaf of such a tree names one
abbrev pub ins_by : InsChoice → Option Name → Ins
ins_by (named_ins ins) leaf = ins
ins_by (by_tree tree) leaf = unwrap_or (option_and_then ins_called leaf) Addi

-- ---- what a request draws

-- A request when its words are drawn: the register that it fixes, the words that it makes and what comes then, the address for
-- which it settles a page, and the stream behind its words.
pub record Prepared : Type 0 where
  pub fixes : Option Fixing
  pub words : List ℕ
  pub sequel : Sequel
  pub settles : Option ℕ
  pub left : Draws

abbrev pub makes : List ℕ → Option Demand → Draws → Prepared
makes words demand left = record { fixes = None; words = words; sequel = is_done demand; settles = None; left = left }

abbrev pub value_operand : Pins → Option ℕ → Operand
value_operand pins counter = operand (allowed pins counter 1) pins.rd

abbrev pub sys_word : SysWord → ℕ
sys_word sys_ecall = value_of Ecall
sys_word sys_ebreak = value_of Ebreak
sys_word sys_zero = 0
sys_word sys_mret = value_of Mret
sys_word sys_sret = value_of Sret
sys_word sys_sfence = value_of SfenceVma

-- outside of loops an untouched register is fixed to the value
abbrev pub value_prepared : HartState → ℕ → ℕ → Draws → Prepared
value_prepared s value register left =
    if is_none s.loop && is_none (s.hart.x register)
    then record (makes [] None left) { fixes = Some (record { register = register; value = value }) }
    else makes (li register value) (Some Quiet) left

abbrev pub jump_prepared : JumpRequest → Ins → Targeted → Prepared
jump_prepared r ins t =
    makes ((if nat_lt 1 (jump_words ins) then li t.ops.rs1 t.base_value else []) ++ word_by ins t.ops ∷ []) (Some r.demand) t.left

abbrev pub preamble_of : PlacedAccess → List ℕ
preamble_of p = if p.preamble then li p.ops.rs1 p.base_value else []

-- a misaligned address is never translated, and neither is one whose high bits aren't copies of bit 38
abbrev pub is_settling : Demand → ℕ → Bool
is_settling Quiet address = is_canonical address
is_settling PageFault address = is_canonical address
is_settling Misaligned address = false

abbrev pub mem_prepared : MemRequest → Ins → PlacedAccess → Prepared
mem_prepared r ins p = record {
  fixes = if p.fixes then Some (record { register = p.ops.rs1; value = p.base_value }) else None;
  words = preamble_of p ++ (if is_some r.want then [] else word_by ins p.ops ∷ []);
  sequel = option_map_or (λ (value : ℕ). wants (record { ins = ins; ops = p.ops; page = p.address; value = value; preamble = length (preamble_of p) })) r.want (is_done (Some r.demand));
  settles = if is_settling r.demand p.address then Some p.address else None;
  left = p.left;
}

abbrev pub plain_prepared : Work → HartState → Plain → Option Name → Prepared
plain_prepared work s (an_ins ins pins) leaf =
    let d = operands_drawn (ins_by ins leaf) pins (counter_of s) s.draws in
    makes (word_by (ins_by ins leaf) d.ops ∷ []) (Some Quiet) d.left
plain_prepared work s (a_mem r) leaf =
    mem_prepared r (ins_by r.ins leaf) (placed_access work s.hart.number (ins_by r.ins leaf) r (counter_of s) s.hart.x s.draws)
plain_prepared work s (a_jump r) leaf =
    jump_prepared r (ins_by r.ins leaf) (targeted (ins_by r.ins leaf) r (counter_of s) (window_at work s.hart.number) (index_of work s) (window_words work s.hart.number) s.draws)
plain_prepared work s (a_csr csr ins pins) leaf =
    let d = operands_drawn ins (record pins { imm = Some (pos (csr_number csr)) }) (counter_of s) s.draws in
    makes (word_by ins d.ops ∷ []) None d.left
plain_prepared work s (a_sys sys) leaf = makes (sys_word sys ∷ []) None s.draws
plain_prepared work s (a_value value pins) leaf =
    value_prepared s value (value_of_operand s.draws (value_operand pins (counter_of s))) (behind_operand s.draws (value_operand pins (counter_of s)))

abbrev pub prepared : Work → HartState → Request → Option Name → Prepared
prepared work s (a_plain p) leaf = plain_prepared work s p leaf
prepared work s (a_loop times counter body) leaf =
    record (makes (li counter times) None s.draws) { sequel = enters (record { counter = counter; body = body }) }
prepared work s (a_set tree path weight) leaf = makes [] None s.draws
prepared work s (a_pick tree) leaf = makes [] None s.draws

-- ---- causes

-- the hart has no budget for its cost and the ending step; a loop has paid for its body
abbrev pub is_spent : Work → HartState → Request → Bool
is_spent work s r = is_none s.loop && nat_lt work.budget (s.steps + cost r + 1)

abbrev pub lacks_register : HartState → Plain → Option Name → Bool
lacks_register s (an_ins ins pins) leaf = not (serve (registers_of (ins_by ins leaf) pins (counter_of s)))
lacks_register s (a_mem r) leaf = not (serves_mem (ins_by r.ins leaf) r (counter_of s))
lacks_register s (a_jump r) leaf = not (serve (jump_registers (ins_by r.ins leaf) r.pins (counter_of s)))
lacks_register s (a_csr csr ins pins) leaf = not (serve (registers_of ins pins (counter_of s)))
lacks_register s (a_sys sys) leaf = false
lacks_register s (a_value value pins) leaf = not (serve (value_operand pins (counter_of s) ∷ []))

abbrev pub lacks_address : Work → HartState → Plain → Option Name → Bool
lacks_address work s (an_ins ins pins) leaf = false
lacks_address work s (a_mem r) leaf = count (candidates work s.hart.number (ins_by r.ins leaf) r) == 0
lacks_address work s (a_jump r) leaf = false
lacks_address work s (a_csr csr ins pins) leaf = false
lacks_address work s (a_sys sys) leaf = false
lacks_address work s (a_value value pins) leaf = false

abbrev pub lacks_target : Work → HartState → Plain → Option Name → Bool
lacks_target work s (an_ins ins pins) leaf = false
lacks_target work s (a_mem r) leaf = false
lacks_target work s (a_jump r) leaf = has_no_target (ins_by r.ins leaf) r (index_of work s) (window_words work s.hart.number)
lacks_target work s (a_csr csr ins pins) leaf = false
lacks_target work s (a_sys sys) leaf = false
lacks_target work s (a_value value pins) leaf = false

-- the causes that a plain request alone can have
abbrev pub if_plain : (Plain → Bool) → Request → Bool
if_plain holds (a_plain p) = holds p
if_plain holds (a_loop times counter body) = false
if_plain holds (a_set tree path weight) = false
if_plain holds (a_pick tree) = false

abbrev pub more_words : Sequel → ℕ
more_words (is_done demand) = 0
more_words (wants w) = 1
more_words (enters l) = loop_words l.body
more_words turns = 0

-- How many words of the window a request needs, when its words are drawn: those that it makes, and what comes then.
abbrev pub words_needed : Prepared → ℕ
words_needed p = length p.words + more_words p.sequel

-- The window's last word is left for the end. A loop has left room for its body.
abbrev pub is_full : Work → HartState → ℕ → Bool
is_full work s words = is_none s.loop && nat_lt (window_words work s.hart.number - 1) (index_of work s + words)

-- The causes for which a request is refused as it begins, in their order. The later two come when its words are drawn.
abbrev pub causes : List Cause
causes = EmptyChoice ∷ BudgetSpent ∷ NoRegister ∷ NoAddress ∷ NoTarget ∷ WindowFull ∷ NoFreePage ∷ []

abbrev pub is_late : Cause → Bool
is_late EmptyChoice = false
is_late BudgetSpent = false
is_late NoRegister = false
is_late NoAddress = false
is_late NoTarget = false
is_late WindowFull = true
is_late NoFreePage = true
is_late NoPlace = true

-- Where the request is prepared so, and its parts answer so, the cause holds. Want of a place shows only when the load is made.
abbrev pub holds_cause : Work → HartState → Heard → Request → Prepared → Cause → Bool
holds_cause work s heard r p EmptyChoice = is_some (tree_of r) && is_none heard.leaf
holds_cause work s heard r p BudgetSpent = is_spent work s r
holds_cause work s heard r p NoRegister = if_plain (λ p. lacks_register s p heard.leaf) r
holds_cause work s heard r p NoAddress = if_plain (λ p. lacks_address work s p heard.leaf) r
holds_cause work s heard r p NoTarget = if_plain (λ p. lacks_target work s p heard.leaf) r
holds_cause work s heard r p WindowFull = is_full work s (words_needed p)
holds_cause work s heard r p NoFreePage = is_some p.settles && is_some heard.short
holds_cause work s heard r p NoPlace = false

abbrev pub cause_of : Work → HartState → Heard → Request → Prepared → Option Cause
cause_of work s heard r p = find (holds_cause work s heard r p) causes

-- ---- the page that is settled

abbrev pub settle_for : Heard → ℕ → Option Region → Settle
settle_for heard page region = record {
  vpage = page;
  object = option_map (object_page page) region;
  frame = if is_some heard.short || is_none region then None else option_map_or (λ (t : Settle). t.frame) heard.settle None;
  path = if is_some heard.short then [] else option_map_or (λ (t : Settle). t.path) heard.settle [];
}

-- What is asked for an address. The frame, of a page that a region shows, and the way are told by the parts; there is neither
-- where they lack something.
abbrev pub settle_of : Work → HartState → Heard → ℕ → Settle
settle_of work s heard address = settle_for heard (page_of address) (region_at (regions_of work s.hart.number) (page_of address))

-- a request that is refused before doesn't ask
abbrev pub asks : Option Cause → Bool
asks None = true
asks (Some EmptyChoice) = false
asks (Some BudgetSpent) = false
asks (Some NoRegister) = false
asks (Some NoAddress) = false
asks (Some NoTarget) = false
asks (Some WindowFull) = false
asks (Some NoFreePage) = true
asks (Some NoPlace) = false
