-- How a request begins, its word drawn or refused, and what is known of that word.
use Rattle.std.proofs.Common.{ℕ, zero, suc, ◌+◌, ◌-◌, ◌^◌, ◌<◌, ◌≤◌, ◌≡◌, ℤ, pos, negsuc, Bool, true, false, not, cond, eqb, eq-eqb, ltb, ◌&&◌, ◌||◌, ◌==◌, get_or, List, [], ◌∷◌, length, filter, Option, Some, None, refl, sym, ap, subst, ◌∙◌, arith, lit<}
use Rattle.std.specs.Prelude.{is_none, option_map, unwrap_or}
use Rattle.operand_solver.specs.Operands.{Serves, allowed, if_has, may_be, operand, operands_drawn, registers_of, serve}
use Rattle.region_plan.specs.Registers.{is_among}
use Rattle.region_plan.specs.Pinned.{csr_pins, fits_word, gives_x0, is_by_register, is_fence_set, is_scratch, may_change, may_name, pinned_ops, suit_as, suit_csr}
use Rattle.trace_text.specs.Lines.{refused, request as begins_line}
use Rattle.hart_task.specs.Acts.{Act, Begun, begins, event_of, refuses, request_kind}
use Rattle.hart_task.specs.Asking.{AskedWord, IsWordFor, asked_word, demand_asked, is_served, itself, of_ins, worded}
use Rattle.hart_task.specs.Beginning.{Prepared, cause_of, holds_cause, makes, prepared, sys_word}
use Rattle.hart_task.specs.Blocks.{Meets, AreHandled, IsStepOf}
use Rattle.hart_task.specs.State.{HartState, Loop, Phase, between, counter_of, index_of, is_done, making}
use Rattle.hart_task.specs.Task.{begun_lines, task_event}
use Rattle.hart_task.specs.Turn.{Next, begin_prepared, begin_turn, meets, next_of, next_turn, turned, turned_in}
use Rattle.trace_fields.specs.declared.request.Cause.{Cause}
use Rattle.trace_fields.specs.declared.request.Cause.TheVariants.{NoRegister}
use Rattle.operand_solver.proofs.Drawn.{drawn_fits, drawn_on, drawn_serves, registers_by_form}
use Rattle.std.specs.List.{AllByRecursion}
use Rattle.std.proofs.lemmas.Bool.{and_parts, eqb-true, ltb-true}
use Rattle.std.proofs.lemmas.Bool.Decides.{nat_tests}
use Rattle.rv_fields.specs.declared.class.Class.{Class}
use Rattle.rv_fields.specs.declared.class.Class.TheVariants.{Computes, ChangesCsr, Fences}
use Rattle.rv_fields.specs.declared.class.CsrChange.{CsrChange}
use Rattle.rv_fields.specs.declared.class.CsrChange.TheVariants.{Swap, Set, Clear}
use Rattle.rv_fields.specs.declared.csr.Csr.{Csr}
use Rattle.rv_fields.specs.declared.csr.Csr.TheVariants.{Sscratch, Mscratch, Mcause, Mtval}
use Rattle.rv_fields.specs.declared.mode.Mode.TheVariants.{M}
use Rattle.rv_fields.specs.declared.row_table.Form.{Form}
use Rattle.rv_fields.specs.declared.row_table.Form.TheVariants.{I, C}
use Rattle.rv_fields.specs.declared.row_table.Ins.{Ins}
use Rattle.rv_fields.specs.declared.row_table.Ins.TheVariants.{Fence, Ecall, Ebreak, Mret, Sret, SfenceVma}
use Rattle.rv_fields.specs.declared.row_table.Ops.{Ops}
use Rattle.rv_fields.specs.Class.{access_in, class_of}
use Rattle.rv_fields.specs.Csr.{csr_number}
use Rattle.rv_fields.specs.CsrFile.{CsrFile, may_write, written}
use Rattle.rv_fields.specs.Decode.{Decoded, decoded, has_rs1, ins_at}
use Rattle.rv_fields.specs.Attempt.{◌>>=◌}
use Rattle.rv_fields.specs.Effect.{Effect}
use Rattle.rv_fields.specs.Hart.{Hart}
use Rattle.rv_fields.specs.Laws.{is_open, is_open_found, names_open}
use Rattle.rv_fields.specs.RowTable.{form_of, value_of}
use Rattle.rv_fields.specs.Step.{writes}
use Rattle.rv_fields.specs.Name.{Name}
use Rattle.rv_encode.specs.Packing.{word_by}
use Rattle.rv_encode.specs.Fitting.{misfit}
use Rattle.rv_encode.proofs.Encoded.{all_fit, encoded_decodes}
use Rattle.rv_encode.proofs.Packing.{packed_lt}
use Rattle.rv_fields.proofs.OneRow.{value_masked}
use Rattle.choice_tree.specs.Draws.{Draws}
use Rattle.region_plan.specs.Plan.{HartPlan, Work, hart_count, is_it, no_hart, plan_of}
use Rattle.region_plan.specs.Request.{Pins, Quiet, Request, a_csr, a_jump, a_loop, a_mem, a_pick, a_plain, a_set, a_sys, a_value, an_ins, by_tree, named_ins, SysWord, sys_ebreak, sys_ecall, sys_mret, sys_sfence, sys_sret, sys_zero}
use Rattle.region_plan.specs.Rules.{IsMakeable, IsMakeableRequest, IsPlainHart, KeepsRules, IsMakeableSys}
use Rattle.region_plan.specs.Script.{ScriptItem}
use Rattle.boot_words.specs.Layout.{code_start, window_at, window_by, window_words}
use Rattle.boot_words.proofs.Running.{named}
use Rattle.hart_task.specs.Heard.{Heard}
use Rattle.hart_task.proofs.Bare.{GoesOn, KeepsWay, bare_step, changes_on, computes_on, fences_on, Proceeds, bare_quiet, calls_trapped, goes_on, breaks_trapped, translation_fenced, unknown_trapped}
use Rattle.hart_task.proofs.Makes.{IsQuietWord}

-- ---- the requests that can be made

-- a fence
pub record FenceParts (pins : Pins) : Type 0 where
  pub rd_is : unwrap_or pins.rd 0 ≡ 0
  pub rs1_is : unwrap_or pins.rs1 0 ≡ 0
  pub rs2_is : pins.rs2 ≡ None
  pub set : is_fence_set pins.imm ≡ true

-- one on a CSR
pub record CsrParts (csr : Csr) (ins : Ins) (pins : Pins) : Type 0 where
  pub named : may_name csr ≡ true
  pub change : CsrChange
  pub row : class_of ins ≡ ChangesCsr change
  pub may : may_change (ChangesCsr change) csr pins ≡ true
  pub form : form_of ins ≡ C
  pub fits : misfit (form_of ins) (pinned_ops (csr_pins csr pins)) ≡ None

-- an instruction, or a word by itself
pub data IsKnown : Request → Type 0 where
  is_known_ins : (ins : Ins) (pins : Pins) → class_of ins ≡ Computes → misfit (form_of ins) (pinned_ops pins) ≡ None → IsKnown (a_plain (an_ins (named_ins ins) pins))
  is_known_fence : (pins : Pins) → FenceParts pins → IsKnown (a_plain (an_ins (named_ins Fence) pins))
  is_known_csr : (csr : Csr) (ins : Ins) (pins : Pins) → CsrParts csr ins pins → IsKnown (a_plain (a_csr csr ins pins))
  is_known_sys : (sys : SysWord) → IsMakeableSys sys → IsKnown (a_plain (a_sys sys))

without : {A : Type 0} (m : Option A) → is_none m ≡ true → m ≡ None
without None e = refl
without (Some a) e = absurd cc

fence_alone : (ins : Ins) → class_of ins ≡ Fences → Fence ≡ ins
fence_alone Fence e = refl
fence_alone _ e = absurd cc

form_alone : (form : Form) → is_by_register form ≡ true → form ≡ C
form_alone C e = refl
form_alone _ e = absurd cc

-- by the class of the instruction
known_ins : (c : Class) (ins : Ins) (pins : Pins) → c ≡ class_of ins → suit_as c ins pins ≡ true → IsKnown (a_plain (an_ins (named_ins ins) pins))
known_ins Computes ins pins is whole = is_known_ins ins pins (sym is) (without _ (and_parts _ _ whole).1)
known_ins Fences ins pins is whole =
    let operands = and_parts _ _ whole in
    let registers = and_parts _ _ operands.0 in
    let leading = and_parts _ _ registers.0 in
    subst (λ i. IsKnown (a_plain (an_ins (named_ins i) pins))) (fence_alone ins (sym is))
    (is_known_fence pins (record { rd_is = eqb-true _ _ leading.0; rs1_is = eqb-true _ _ leading.1; rs2_is = without _ registers.1; set = operands.1 }))
known_ins _ ins pins is whole = absurd cc

known_change : (c : Class) (csr : Csr) (ins : Ins) (pins : Pins) → c ≡ class_of ins → may_name csr ≡ true → may_change c csr pins ≡ true → form_of ins ≡ C
    → misfit (form_of ins) (pinned_ops (csr_pins csr pins)) ≡ None → CsrParts csr ins pins
known_change (ChangesCsr change) csr ins pins is named may form fits = record { named = named; change = change; row = sym is; may = may; form = form; fits = fits }
known_change _ csr ins pins is named may form fits = absurd cc

known_csr : (csr : Csr) (ins : Ins) (pins : Pins) → suit_csr csr ins pins ≡ true → CsrParts csr ins pins
known_csr csr ins pins whole =
    let all = and_parts _ _ whole in
    let given = and_parts _ _ all.0 in
    let by_register = and_parts _ _ given.0 in
    let may = and_parts _ _ by_register.0 in
    known_change (class_of ins) csr ins pins refl may.0 may.1 (form_alone (form_of ins) by_register.1) (without _ all.1)

pub known : (r : Request) → IsMakeableRequest r → IsKnown r
known (a_plain (an_ins (named_ins ins) pins)) m = known_ins (class_of ins) ins pins refl m.whole
known (a_plain (an_ins (by_tree tree) pins)) m = absurd m
known (a_plain (a_mem r)) m = absurd m
known (a_plain (a_jump r)) m = absurd m
known (a_plain (a_csr csr ins pins)) m = is_known_csr csr ins pins (known_csr csr ins pins m.whole)
known (a_plain (a_sys sys)) m = is_known_sys sys m
known (a_plain (a_value value pins)) m = absurd m
known (a_loop times counter body) m = absurd m
known (a_set tree path weight) m = absurd m
known (a_pick tree) m = absurd m

-- ---- the word that is drawn

-- what is given fits the instruction's word
abbrev pub AskedFits : AskedWord → Type 0
AskedFits (of_ins ins pins) = fits_word ins (pinned_ops pins) ≡ true
AskedFits (itself word) = Unit {0}

tells_none : {A : Type 0} (m : Option A) → m ≡ None → is_none m ≡ true
tells_none m e = ap is_none e

fence_set_fits : (imm : Option ℤ) → is_fence_set imm ≡ true → misfit I (record { rd = 0; rs1 = 0; rs2 = 0; imm = unwrap_or imm (pos 0); aqrl = 0 }) ≡ None
fence_set_fits None set = refl
fence_set_fits (Some (pos n)) set =
    let small : n < 256 = ltb-true n 256 set in
    let test : ltb n 2048 ≡ true = grind (arith, nat_tests) in
    rw test refl
fence_set_fits (Some (negsuc n)) set = absurd cc

fence_fits : (pins : Pins) → FenceParts pins → misfit I (pinned_ops pins) ≡ None
fence_fits pins whole =
    (λ i. misfit I (record { rd = whole.rd_is i; rs1 = whole.rs1_is i; rs2 = unwrap_or (whole.rs2_is i) 0; imm = unwrap_or pins.imm (pos 0); aqrl = 0 })) ∙ fence_set_fits pins.imm whole.set

known_fits : (r : Request) → IsKnown r → AskedFits (asked_word r)
known_fits r (is_known_ins ins pins computes fits) = tells_none _ fits
known_fits r (is_known_fence pins whole) = tells_none _ (fence_fits pins whole)
known_fits r (is_known_csr csr ins pins whole) = tells_none _ whole.fits
known_fits r (is_known_sys sys may) = tt

pub fits : (r : Request) → IsMakeableRequest r → AskedFits (asked_word r)
fits r makeable = known_fits r (known r makeable)

-- where a choice of registers serves, it is one for the request
pub word_drawn : (a : AskedWord) (draws : Draws) → AskedFits a → is_served a ≡ true → IsWordFor a (worded a draws).word
word_drawn (of_ins ins pins) draws fits served = record {
  ops = (operands_drawn ins pins None draws).ops;
  word_is = refl;
  fits = drawn_fits ins pins None draws fits served;
  serves = drawn_serves ins pins None draws served;
}
word_drawn (itself word) draws fits served = refl

-- no more than four words are drawn for it
pub worded_on : (a : AskedWord) (draws : Draws) → (worded a draws).left ≡ record draws { drawn = (worded a draws).left.drawn }
worded_on (of_ins ins pins) draws = (drawn_on ins pins None draws).0
worded_on (itself word) draws = refl

pub few_worded : (a : AskedWord) (draws : Draws) → (worded a draws).left.drawn ≤ draws.drawn + 4
few_worded (of_ins ins pins) draws = (drawn_on ins pins None draws).1
few_worded (itself word) draws = omega arith

-- ---- what is prepared

no_counter : (s : HartState) → s.loop ≡ None → counter_of s ≡ None
no_counter s is = ap (option_map (λ (l : Loop). l.counter)) is

-- the request makes the one word, behind those that chose its operands
prepared_is : (r : Request) → IsKnown r → (work : Work) (s : HartState) (leaf : Option Name) → s.loop ≡ None
    → prepared work s r leaf ≡ makes ((worded (asked_word r) s.draws).word ∷ []) (demand_asked r) (worded (asked_word r) s.draws).left
prepared_is r (is_known_ins ins pins computes fits) work s leaf is =
    ap (λ c. makes (word_by ins (operands_drawn ins pins c s.draws).ops ∷ []) (Some Quiet) (operands_drawn ins pins c s.draws).left) (no_counter s is)
prepared_is r (is_known_fence pins whole) work s leaf is =
    ap (λ c. makes (word_by Fence (operands_drawn Fence pins c s.draws).ops ∷ []) (Some Quiet) (operands_drawn Fence pins c s.draws).left) (no_counter s is)
prepared_is r (is_known_csr csr ins pins whole) work s leaf is =
    ap (λ c. makes (word_by ins (operands_drawn ins (csr_pins csr pins) c s.draws).ops ∷ []) None (operands_drawn ins (csr_pins csr pins) c s.draws).left) (no_counter s is)
prepared_is r (is_known_sys sys may) work s leaf is = refl

no_fence_change : (c : Class) (change : CsrChange) → c ≡ ChangesCsr change → c ≡ Fences → ⊥
no_fence_change (ChangesCsr other) change is fences = absurd cc
no_fence_change _ change is fences = absurd cc

-- the number of the CSR is no register
csr_registers : (csr : Csr) (ins : Ins) (pins : Pins) (counter : Option ℕ) → CsrParts csr ins pins → registers_of ins pins counter ≡ registers_of ins (csr_pins csr pins) counter
csr_registers csr ins pins counter whole =
    let other = no_fence_change (class_of ins) whole.change whole.row in registers_by_form ins pins counter other ∙ sym (registers_by_form ins (csr_pins csr pins) counter other)

-- ---- the cause

-- what is known of the hart's plan and of the job
pub record IsPlainWork (work : Work) (h : ℕ) : Type 0 where
  pub plan : plan_of work h ≡ record no_hart { code_pages = (plan_of work h).code_pages; template = (plan_of work h).template }
  pub some_pages : 1 ≤ (plan_of work h).code_pages
  pub budget : work.budget ≡ 16384

plain_at : (harts : List HartPlan) (h : ℕ) → AllByRecursion IsPlainHart harts → h < length harts → IsPlainHart (get_or harts h no_hart)
plain_at [] h each small = absurd (omega (arith, small))
plain_at (hart ∷ harts) zero each small = each.0
plain_at (hart ∷ harts) (suc h) each small = plain_at harts h each.1 (omega (arith, small))

pub plain_hart : (work : Work) (h : ℕ) → KeepsRules work → h < hart_count work → IsPlainHart (plan_of work h)
plain_hart work h keeps small = plain_at work.harts h keeps.harts small

pub plain_work : (work : Work) (h : ℕ) → KeepsRules work → h < hart_count work → IsPlainWork work h
plain_work work h keeps small =
    let hart = plain_hart work h keeps small in
    record { plan = hart.plain; some_pages = hart.some_pages; budget = ap (λ (w : Work). w.budget) keeps.rest }

pub window_is : (work : Work) (h : ℕ) → IsPlainWork work h → window_at work h ≡ code_start h
window_is work h plain = ap (λ (p : HartPlan). window_by p h) plain.plan

pub has_first_page : (work : Work) (h : ℕ) → IsPlainWork work h → 1024 ≤ window_words work h
has_first_page work h plain = let some = plain.some_pages in omega (arith, some)

pub no_space : (work : Work) (h : ℕ) → IsPlainWork work h → (plan_of work h).space ≡ None
no_space work h plain = ap (λ (p : HartPlan). p.space) plain.plan

lacks_is : (r : Request) → IsKnown r → (work : Work) (s : HartState) (heard : Heard) (p : Prepared) → s.loop ≡ None → holds_cause work s heard r p NoRegister ≡ not (is_served (asked_word r))
lacks_is r (is_known_ins ins pins computes fits) work s heard p is = ap (λ c. not (serve (registers_of ins pins c))) (no_counter s is)
lacks_is r (is_known_fence pins whole) work s heard p is = refl
lacks_is r (is_known_csr csr ins pins whole) work s heard p is =
    ap (λ c. not (serve (registers_of ins pins c))) (no_counter s is) ∙ ap (λ os. not (serve os)) (csr_registers csr ins pins None whole)
lacks_is r (is_known_sys sys may) work s heard p is = refl

not_and : (b c : Bool) → c ≡ false → (b && c) ≡ false
not_and true c is = is
not_and false c is = refl

-- no cause but that no choice of registers serves
abbrev cause_by : Bool → Option Cause
cause_by true = None
cause_by false = Some NoRegister

found_cause : (served : Bool) → cond (not served) (Some NoRegister) None ≡ cause_by served
found_cause true = refl
found_cause false = refl

-- what the hart does as the request begins, and its phase behind it
abbrev begun_of : ℕ → Request → Begun
begun_of k r = record { k = k; request = r; pick = None; settle = None; short = None }

abbrev act_by : Bool → ℕ → Request → Act
act_by true k r = begins (begun_of k r) None []
act_by false k r = refuses (begun_of k r) NoRegister

abbrev pub begun_act : ℕ → Request → Act
begun_act k r = act_by (is_served (asked_word r)) k r

abbrev pub making_word : ℕ → Request → ℕ → Phase
making_word k r word = making (record { k = k; words = word ∷ []; sequel = is_done (demand_asked r) })

abbrev phase_by : Bool → ℕ → Request → ℕ → Phase
phase_by true k r word = making_word k r word
phase_by false k r word = between

abbrev draws_by : Bool → Draws → Draws → Draws
draws_by true left draws = left
draws_by false left draws = draws

abbrev pub state_by : Bool → HartState → Request → List ScriptItem → HartState
state_by served s r rest = record s {
  draws = draws_by served (worded (asked_word r) s.draws).left s.draws;
  left = rest;
  count = s.count + 1;
  phase = phase_by served s.count r (worded (asked_word r) s.draws).word;
}

-- the state when the item has begun
abbrev pub begun_state : HartState → ScriptItem → List ScriptItem → HartState
begun_state s item rest = state_by (is_served (asked_word item.request)) s item.request rest

module _ (work : Work) (s : HartState) (heard : Heard) (plain : IsPlainWork work s.hart.number) (few : s.steps ≤ 7000) (early : index_of work s ≤ 999) (no_loop : s.loop ≡ None) where
  spent_not : (n : ℕ) → n ≤ 15 → (is_none s.loop && ltb work.budget (s.steps + n + 1)) ≡ false
  spent_not n small =
      let budget : work.budget ≡ 16384 = plain.budget in
      not_and (is_none s.loop) _ (grind (arith, nat_tests))

  full_not : (is_none s.loop && ltb (window_words work s.hart.number - 1) (index_of work s + 1)) ≡ false
  full_not =
      let words : 1024 ≤ window_words work s.hart.number = has_first_page work s.hart.number plain in
      not_and (is_none s.loop) _ (grind (arith, nat_tests))

  cause_is : (r : Request) → IsKnown r → (word : ℕ) (draws : Draws) → cause_of work s heard r (makes (word ∷ []) (demand_asked r) draws) ≡ cause_by (is_served (asked_word r))
  cause_is r k word draws = of r k (lacks_is r k work s heard (makes (word ∷ []) (demand_asked r) draws) no_loop)
    where
      of : (r : Request) → IsKnown r → holds_cause work s heard r (makes (word ∷ []) (demand_asked r) draws) NoRegister ≡ not (is_served (asked_word r))
          → cause_of work s heard r (makes (word ∷ []) (demand_asked r) draws) ≡ cause_by (is_served (asked_word r))
      of r (is_known_ins ins pins computes fits) lacks = rw (spent_not 15 (omega arith), lacks, full_not) (found_cause (serve (registers_of ins pins None)))
      of r (is_known_fence pins whole) lacks = rw (spent_not 15 (omega arith), full_not) refl
      of r (is_known_csr csr ins pins whole) lacks = rw (spent_not 15 (omega arith), lacks, full_not) (found_cause (serve (registers_of ins (csr_pins csr pins) None)))
      of r (is_known_sys sys may) lacks = rw (spent_not 15 (omega arith), full_not) refl

  -- the entry begins, or is refused
  begun_by : (served : Bool) (item : ScriptItem) (rest : List ScriptItem) → IsKnown item.request
      → begin_prepared work s heard (record { entry = item; state = record s { left = rest; count = s.count + 1 } })
      (makes ((worded (asked_word item.request) s.draws).word ∷ []) (demand_asked item.request) (worded (asked_word item.request) s.draws).left) (cause_by served)
      ≡ record { act = act_by served s.count item.request; state = state_by served s item.request rest }
  begun_by served item rest k = of served item.request k
    where
      of : (served : Bool) (r : Request) → IsKnown r
          → begin_prepared work s heard (record { entry = record { request = r; arms = item.arms }; state = record s { left = rest; count = s.count + 1 } })
          (makes ((worded (asked_word r) s.draws).word ∷ []) (demand_asked r) (worded (asked_word r) s.draws).left) (cause_by served)
          ≡ record { act = act_by served s.count r; state = state_by served s r rest }
      of true r (is_known_ins ins pins computes fits) = rw (no_space work s.hart.number plain) refl
      of true r (is_known_fence pins whole) = rw (no_space work s.hart.number plain) refl
      of true r (is_known_csr csr ins pins whole) = rw (no_space work s.hart.number plain) refl
      of true r (is_known_sys sys may) = rw (no_space work s.hart.number plain) refl
      of false r (is_known_ins ins pins computes fits) = rw no_loop refl
      of false r (is_known_fence pins whole) = rw no_loop refl
      of false r (is_known_csr csr ins pins whole) = rw no_loop refl
      of false r (is_known_sys sys may) = rw no_loop refl

  begin_turn_is : (item : ScriptItem) (rest : List ScriptItem) → IsKnown item.request
      → begin_turn work s heard (record { entry = item; state = record s { left = rest; count = s.count + 1 } }) ≡ record { act = begun_act s.count item.request; state = begun_state s item rest }
  begin_turn_is item rest k =
      let n : Next = record { entry = item; state = record s { left = rest; count = s.count + 1 } } in
      let word : ℕ = (worded (asked_word item.request) s.draws).word in
      let left : Draws = (worded (asked_word item.request) s.draws).left in
      ap (λ p. begin_prepared work s heard n p (cause_of work s heard item.request p)) (prepared_is item.request k work s heard.leaf no_loop)
      ∙ ap (begin_prepared work s heard n (makes (word ∷ []) (demand_asked item.request) left)) (cause_is item.request k word left)
      ∙ begun_by (is_served (asked_word item.request)) item rest k

-- Between two requests the next one of the script begins, whatever its parts answer.
pub begins_is : (work : Work) (s : HartState) (heard : Heard) (item : ScriptItem) (rest : List ScriptItem) → KeepsRules work → s.hart.number < hart_count work
    → s.phase ≡ between → s.loop ≡ None → s.left ≡ item ∷ rest → IsMakeable item → s.steps ≤ 7000 → index_of work s ≤ 999
    → turned work s heard ≡ Some (record { act = begun_act s.count item.request; state = begun_state s item rest })
begins_is work s heard item rest keeps member at_phase no_loop left makeable few early =
    ap (turned_in work s heard) at_phase
    ∙ ap (λ l. next_turn work s heard (next_of s l s.left)) no_loop
    ∙ ap (λ left. next_turn work s heard (next_of s None left)) left
    ∙ ap Some (begin_turn_is work s heard (plain_work work s.hart.number keeps member) few early no_loop item rest (known item.request makeable.0))

-- its event, which asks nothing of any part
pub begun_event : (work : Work) (h k : ℕ) (r : Request) → IsMakeableRequest r → task_event h (begun_lines h k r) ≡ event_of work h (begun_act k r)
begun_event work h k r makeable = of r (known r makeable) (is_served (asked_word r))
  where
    of : (r : Request) → IsKnown r → (served : Bool)
        → task_event h (cond served (begins_line h k (request_kind r) ∷ []) (begins_line h k (request_kind r) ∷ refused h k NoRegister 0 ∷ [])) ≡ event_of work h (act_by served k r)
    of r (is_known_ins ins pins computes fits) true = refl
    of r (is_known_ins ins pins computes fits) false = refl
    of r (is_known_fence pins whole) true = refl
    of r (is_known_fence pins whole) false = refl
    of r (is_known_csr csr ins pins whole) true = refl
    of r (is_known_csr csr ins pins whole) false = refl
    of r (is_known_sys sys may) true = refl
    of r (is_known_sys sys may) false = refl

-- ---- the word

-- What is known of a word for a request, by its row: how its step goes, that this is what the request demands, and that it meets
-- the request with what its handler does behind it.
pub record IsAskedBy (r : Request) (word : ℕ) (m : Option Decoded) : Type 0 where
  pub quiet : IsQuietWord word m
  pub proceeds : (hart : Hart) (a b : ℕ) → hart.mode ≡ M → Proceeds hart word (bare_step hart word m a b)
  pub demands : (hart : Hart) (a b : ℕ) → hart.mode ≡ M → meets (demand_asked r) (bare_step hart word m a b).effect.trap ≡ true
  pub met : (hart : Hart) (a b : ℕ) (others : List Effect) → hart.mode ≡ M → AreHandled (bare_step hart word m a b).effect.trap others
      → Meets r ((bare_step hart word m a b).effect ∷ []) others

abbrev pub IsAsked : Request → ℕ → Type 0
IsAsked r word = IsAskedBy r word (decoded word)

-- the step of a word tells the word
has_word : (hart : Hart) (word : ℕ) (m : Option Decoded) (a b : ℕ) → IsQuietWord word m → (bare_step hart word m a b).effect.word ≡ Some word
has_word hart word m a b quiet = ap (λ (e : Effect). e.word) (bare_quiet hart word m a b quiet.bare)

-- one of an instruction that goes on, with operands that serve
goes_asked : (r : Request) (ins : Ins) (pins : Pins) (d : Decoded) (word : ℕ) → IsQuietWord word (Some d) → d.ins ≡ ins → Serves ins pins None d.ops → meets (demand_asked r) None ≡ true
    → ((own others : List Effect) → IsStepOf ins pins own others → Meets r own others)
    → ((hart : Hart) (a b : ℕ) → hart.mode ≡ M → GoesOn hart (bare_step hart word (Some d) a b)) → IsAskedBy r word (Some d)
goes_asked r ins pins d word quiet ins_is serves demands is_met on = record {
  quiet = quiet;
  proceeds = λ hart a b is_m. goes_on (on hart a b is_m);
  demands = λ hart a b is_m. ap (meets (demand_asked r)) (on hart a b is_m).trap ∙ demands;
  met = λ hart a b others is_m handled. is_met _ others (record {
    effect = (bare_step hart word (Some d) a b).effect;
    alone = refl;
    no_trap = (on hart a b is_m).trap;
    no_handler = subst (λ trap. AreHandled trap others) (on hart a b is_m).trap handled;
    d = d;
    word = ap (λ m. m >>= decoded) (has_word hart word (Some d) a b quiet) ∙ quiet.row;
    ins_is = ins_is;
    serves = serves;
  });
}

-- the word of operands that fit
fit_small : (ins : Ins) (ops : Ops) → misfit (form_of ins) ops ≡ None → word_by ins ops < 2 ^ 32
fit_small ins ops fits = packed_lt (form_of ins) (value_of ins) ops (value_masked ins) (all_fit (form_of ins) ops fits)

asked_ins : (ins : Ins) (pins : Pins) (ops : Ops) → class_of ins ≡ Computes → misfit (form_of ins) ops ≡ None → Serves ins pins None ops
    → IsAskedBy (a_plain (an_ins (named_ins ins) pins)) (word_by ins ops) (Some (record { ins = ins; ops = ops }))
asked_ins ins pins ops computes fits serves = goes_asked _ ins pins d (word_by ins ops)
    (record {
      small = fit_small ins ops fits;
      row = encoded_decodes ins ops fits;
      bare = ap access_in computes;
      closed = ap (λ c. names_open c d) computes;
    })
    refl serves refl (λ own others met. met) (λ hart a b is_m. computes_on hart (word_by ins ops) d a b computes)
  where
    d : Decoded
    d = record { ins = ins; ops = ops }

asked_fence : (pins : Pins) (ops : Ops) → misfit (form_of Fence) ops ≡ None → Serves Fence pins None ops
    → IsAskedBy (a_plain (an_ins (named_ins Fence) pins)) (word_by Fence ops) (Some (record { ins = Fence; ops = ops }))
asked_fence pins ops fits serves = goes_asked _ Fence pins d (word_by Fence ops)
    (record { small = fit_small Fence ops fits; row = encoded_decodes Fence ops fits; bare = refl; closed = refl })
    refl serves refl (λ own others met. met) (λ hart a b is_m. fences_on hart (word_by Fence ops) d a b refl)
  where
    d : Decoded
    d = record { ins = Fence; ops = ops }

closed_named : (csr : Csr) → may_name csr ≡ true → is_open csr ≡ false
closed_named Mcause may = absurd cc
closed_named Mtval may = absurd cc
closed_named _ may = refl

scratch_open : (file : CsrFile) (csr : Csr) → is_scratch csr ≡ true → may_write file csr M ≡ true
scratch_open file Sscratch is = refl
scratch_open file Mscratch is = refl
scratch_open file _ is = absurd cc

first_of : (s z : Bool) → (s || z) ≡ true → not z ≡ true → s ≡ true
first_of true z e apart = refl
first_of false true e apart = absurd cc
first_of false false e apart = absurd cc

scratch_keeps : (file : CsrFile) (csr : Csr) (value : ℕ) → is_scratch csr ≡ true → KeepsWay file (written file csr value)
unfolding written
scratch_keeps file Sscratch value is = (refl, refl)
scratch_keeps file Mscratch value is = (refl, refl)
scratch_keeps file _ value is = absurd cc

-- what is left of numbers by a test passes it
among_kept : (f : ℕ → Bool) (xs : List ℕ) (r : ℕ) → is_among (filter f xs) r ≡ true → f r ≡ true
among_kept f [] r e = absurd cc
among_kept f (x ∷ xs) r e = of (f x) refl e (among_kept f xs r)
  where
    same : (t : Bool) → t ≡ (x == r) → f x ≡ true → (t || is_among (filter f xs) r) ≡ true → (is_among (filter f xs) r ≡ true → f r ≡ true) → f r ≡ true
    same true at there e more = let is : x ≡ r = eqb-true x r (sym at) in ap f (sym is) ∙ there
    same false at there e more = more e

    of : (t : Bool) → t ≡ f x → is_among (cond t (x ∷ filter f xs) (filter f xs)) r ≡ true → (is_among (filter f xs) r ≡ true → f r ≡ true) → f r ≡ true
    of true is e more = same (x == r) refl (sym is) e more
    of false is e more = more e

only_x0 : (r : ℕ) → is_among (0 ∷ []) r ≡ true → r ≡ 0
only_x0 r e = of (0 == r) refl e
  where
    of : (t : Bool) → t ≡ (0 == r) → (t || false) ≡ true → r ≡ 0
    of true is e = sym (eqb-true 0 r (sym is))
    of false is e = absurd cc

-- rs1 that is sure to be x0
zero_where : (has zero_rs1 : Bool) (set : List ℕ) (pin : Option ℕ) (r : ℕ) → (zero_rs1 || is_it 0 pin) ≡ true → is_among (if_has (has && not zero_rs1) (operand set pin)).members r ≡ true → r ≡ 0
zero_where true true set pin r sure among = only_x0 r among
zero_where true false set None r sure among = absurd cc
zero_where true false set (Some p) r sure among =
    let here : 0 ≡ p = eqb-true 0 p sure in
    let at : r ≡ p = eqb-true r p (among_kept (λ q. q == p) set r among) in omega (arith, here, at)
zero_where false zero_rs1 set pin r sure among = only_x0 r among

reads_x0 : (csr : Csr) (ins : Ins) (pins : Pins) (ops : Ops) → CsrParts csr ins pins → Serves ins (csr_pins csr pins) None ops → gives_x0 pins ≡ true → ops.rs1 ≡ 0
reads_x0 csr ins pins ops whole serves sure =
    zero_where (has_rs1 (form_of ins)) pins.zero_rs1 (allowed (csr_pins csr pins) None 0) pins.rs1 ops.rs1 sure
    (ap (λ os. may_be os 1 ops.rs1) (sym (registers_by_form ins (csr_pins csr pins) None (no_fence_change (class_of ins) whole.change whole.row))) ∙ serves.rs1)

only_scratch : (s z : Bool) (rs1 : ℕ) → (s || z) ≡ true → (z ≡ true → rs1 ≡ 0) → not (eqb rs1 0) ≡ true → s ≡ true
only_scratch true z rs1 e sure does = refl
only_scratch false true rs1 e sure does = absurd (let none : eqb rs1 0 ≡ true = eq-eqb rs1 0 (sure refl) in let no = ap not none in cc)
only_scratch false false rs1 e sure does = absurd cc

-- what is written is a scratch register
writes_scratch : (change : CsrChange) (csr : Csr) (pins : Pins) (ops : Ops) → may_change (ChangesCsr change) csr pins ≡ true → (gives_x0 pins ≡ true → ops.rs1 ≡ 0) → writes change ops ≡ true → is_scratch csr ≡ true
writes_scratch Swap csr pins ops may sure does = may
writes_scratch Set csr pins ops may sure does = only_scratch (is_scratch csr) (gives_x0 pins) ops.rs1 may sure does
writes_scratch Clear csr pins ops may sure does = only_scratch (is_scratch csr) (gives_x0 pins) ops.rs1 may sure does

-- the number of the CSR stands in the immediate's place
asked_csr_at : (csr : Csr) (ins : Ins) (pins : Pins) (ops : Ops) → CsrParts csr ins pins → misfit (form_of ins) ops ≡ None → Serves ins (csr_pins csr pins) None ops → ops ≡ record ops { imm = pos (csr_number csr) }
    → IsAskedBy (a_plain (a_csr csr ins pins)) (word_by ins ops) (Some (record { ins = ins; ops = ops }))
asked_csr_at csr ins pins ops whole fits serves numbered = subst (λ o. IsAskedBy (a_plain (a_csr csr ins pins)) (word_by ins o) (Some (record { ins = ins; ops = o }))) (sym numbered)
    (goes_asked _ ins (csr_pins csr pins) d (word_by ins all)
    (record {
      small = fit_small ins all fit;
      row = encoded_decodes ins all fit;
      bare = ap access_in whole.row;
      closed = ap (λ c. names_open c d) whole.row ∙ ap is_open_found (named csr) ∙ closed_named csr whole.named;
    })
    refl (subst (Serves ins (csr_pins csr pins) None) numbered serves) refl (λ own others met. met)
    (λ hart a b is_m. changes_on hart (word_by ins all) d a b whole.change csr is_m whole.row (named csr)
    (λ does. scratch_open hart.csrs csr (scratch does))
    (λ does value. scratch_keeps hart.csrs csr value (scratch does))))
  where
    all : Ops
    all = record ops { imm = pos (csr_number csr) }

    d : Decoded
    d = record { ins = ins; ops = all }

    fit : misfit (form_of ins) all ≡ None
    fit = ap (misfit (form_of ins)) (sym numbered) ∙ fits

    scratch : writes whole.change all ≡ true → is_scratch csr ≡ true
    scratch does = writes_scratch whole.change csr pins all whole.may (reads_x0 csr ins pins ops whole serves) does

-- ---- words of their own

-- an instruction without operands
abbrev bare_ins : Ins → Decoded
bare_ins ins = record { ins = ins; ops = record { rd = 0; rs1 = 0; rs2 = 0; imm = pos 0; aqrl = 0 } }

abbrev sys_ins : SysWord → Option Decoded
sys_ins sys_ecall = Some (bare_ins Ecall)
sys_ins sys_ebreak = Some (bare_ins Ebreak)
sys_ins sys_zero = None
sys_ins sys_mret = Some (bare_ins Mret)
sys_ins sys_sret = Some (bare_ins Sret)
sys_ins sys_sfence = Some (bare_ins SfenceVma)

sys_quiet : (sys : SysWord) → IsQuietWord (sys_word sys) (sys_ins sys)
unfolding ins_at
sys_quiet sys_ecall = record { small = lit< tt; row = refl; bare = refl; closed = refl }
sys_quiet sys_ebreak = record { small = lit< tt; row = refl; bare = refl; closed = refl }
sys_quiet sys_zero = record { small = lit< tt; row = refl; bare = tt; closed = refl }
sys_quiet sys_mret = record { small = lit< tt; row = refl; bare = refl; closed = refl }
sys_quiet sys_sret = record { small = lit< tt; row = refl; bare = refl; closed = refl }
sys_quiet sys_sfence = record { small = lit< tt; row = refl; bare = refl; closed = refl }

sys_proceeds : (sys : SysWord) (hart : Hart) (a b : ℕ) → IsMakeableSys sys → hart.mode ≡ M → Proceeds hart (sys_word sys) (bare_step hart (sys_word sys) (sys_ins sys) a b)
sys_proceeds sys_ecall hart a b may is_m = calls_trapped hart (sys_word sys_ecall) (bare_ins Ecall) a b refl
sys_proceeds sys_ebreak hart a b may is_m = breaks_trapped hart (sys_word sys_ebreak) (bare_ins Ebreak) a b refl
sys_proceeds sys_zero hart a b may is_m = unknown_trapped hart 0 a b
sys_proceeds sys_mret hart a b may is_m = absurd may
sys_proceeds sys_sret hart a b may is_m = absurd may
sys_proceeds sys_sfence hart a b may is_m = goes_on (translation_fenced hart (sys_word sys_sfence) (bare_ins SfenceVma) a b is_m refl)

asked_sys : (sys : SysWord) → IsMakeableSys sys → IsAskedBy (a_plain (a_sys sys)) (sys_word sys) (sys_ins sys)
asked_sys sys may = record {
  quiet = sys_quiet sys;
  proceeds = λ hart a b is_m. sys_proceeds sys hart a b may is_m;
  demands = λ hart a b is_m. refl;
  met = λ hart a b others is_m handled. record {
    effect = (bare_step hart (sys_word sys) (sys_ins sys) a b).effect;
    alone = refl;
    word_is = has_word hart (sys_word sys) (sys_ins sys) a b (sys_quiet sys);
    handled = handled;
  };
}

-- ---- all requests

asked_by : (r : Request) (word given : ℕ) (m : Option Decoded) → word ≡ given → IsAskedBy r given m → IsAsked r word
asked_by r word given m is q = subst (IsAsked r) (sym is) (subst (IsAskedBy r given) (sym q.quiet.row) q)

asked_known : (r : Request) (word : ℕ) → IsKnown r → IsWordFor (asked_word r) word → IsAsked r word
asked_known r word (is_known_ins ins pins computes fits) w = asked_by r word _ _ w.word_is (asked_ins ins pins w.ops computes w.fits w.serves)
asked_known r word (is_known_fence pins whole) w = asked_by r word _ _ w.word_is (asked_fence pins w.ops w.fits w.serves)
asked_known r word (is_known_csr csr ins pins whole) w =
    asked_by r word _ _ w.word_is (asked_csr_at csr ins pins w.ops whole w.fits w.serves (λ i. record w.ops { imm = w.serves.imm i }))
asked_known r word (is_known_sys sys may) w = asked_by r word _ _ w (asked_sys sys may)

pub asked : (r : Request) (word : ℕ) → IsMakeableRequest r → IsWordFor (asked_word r) word → IsAsked r word
asked r word makeable w = asked_known r word (known r makeable) w
