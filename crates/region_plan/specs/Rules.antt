-- The rules that a job keeps, by which its run is sure to answer it.
use Rattle.std.specs.Prelude.{ℕ, ◌≡◌, ◌≤◌, length}
use Rattle.std.specs.List.{AllByRecursion}
use Rattle.rv_fields.specs.Play.{most_harts}
use Rattle.region_plan.specs.Pinned.{Suit, SuitCsr}
use Rattle.region_plan.specs.Plan.{HartPlan, Work, hart_count, no_hart}
use Rattle.region_plan.specs.Request.{InsChoice, Pins, Plain, Request, SysWord, a_csr, a_jump, a_loop, a_mem, a_pick, a_plain, a_set, a_sys, a_value, an_ins, by_tree, named_ins, no_arms, sys_ebreak, sys_ecall, sys_mret, sys_sfence, sys_sret, sys_zero}
use Rattle.region_plan.specs.Script.{ScriptItem, script_of}
use Rattle.region_plan.specs.Views.{work_with}

-- An instruction that can be made: it is named, and has the operands that are given.
abbrev pub IsMakeableIns : InsChoice → Pins → Type 0
IsMakeableIns (named_ins ins) pins = Suit ins pins
IsMakeableIns (by_tree tree) pins = ⊥

-- A word that a hart in mode M may be asked for: it returns from no trap.
abbrev pub IsMakeableSys : SysWord → Type 0
IsMakeableSys sys_ecall = Unit {0}
IsMakeableSys sys_ebreak = Unit {0}
IsMakeableSys sys_zero = Unit {0}
IsMakeableSys sys_mret = ⊥
IsMakeableSys sys_sret = ⊥
IsMakeableSys sys_sfence = Unit {0}

abbrev pub IsMakeablePlain : Plain → Type 0
IsMakeablePlain (an_ins ins pins) = IsMakeableIns ins pins
IsMakeablePlain (a_mem r) = ⊥
IsMakeablePlain (a_jump r) = ⊥
IsMakeablePlain (a_csr csr ins pins) = SuitCsr csr ins pins
IsMakeablePlain (a_sys sys) = IsMakeableSys sys
IsMakeablePlain (a_value value pins) = ⊥

abbrev pub IsMakeableRequest : Request → Type 0
IsMakeableRequest (a_plain p) = IsMakeablePlain p
IsMakeableRequest (a_loop times counter body) = ⊥
IsMakeableRequest (a_set tree path weight) = ⊥
IsMakeableRequest (a_pick tree) = ⊥

abbrev pub IsMakeable : ScriptItem → Type 0
IsMakeable item = IsMakeableRequest item.request × (item.arms ≡ no_arms)

-- the most requests that a template has
abbrev pub most_requests : ℕ
most_requests = 1000

-- the most pages of code that a hart has
abbrev pub most_code_pages : ℕ
most_code_pages = 256

-- A hart in mode M with some pages of code, whose template has room in the first of them, and whose requests can be made.
pub record IsPlainHart (hart : HartPlan) : Type 0 where
  pub plain : hart ≡ record no_hart { code_pages = hart.code_pages; template = hart.template }
  pub some_pages : 1 ≤ hart.code_pages
  pub most_pages : hart.code_pages ≤ most_code_pages
  pub room : length (script_of hart.template) ≤ most_requests
  pub requests : AllByRecursion IsMakeable (script_of hart.template)

pub record KeepsRules (work : Work) : Type 0 where
  pub some : 1 ≤ hart_count work
  pub most : hart_count work ≤ most_harts
  pub harts : AllByRecursion IsPlainHart work.harts
  pub rest : work ≡ work_with work.harts
