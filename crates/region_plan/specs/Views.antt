-- The jobs that the types of this crate hold.
use Rattle.std.specs.Prelude.{ℕ, ◌≡◌, ◌<◌, List, [], ◌∷◌, get_or, length, map}
use Rattle.rv_fields.specs.declared.mode.Mode.TheVariants.{M}
use Rattle.region_plan.specs.declared.job.Job.{Job}
use Rattle.region_plan.specs.declared.plan.HartPlan as code
use Rattle.region_plan.specs.declared.request.InsChoice as choice
use Rattle.region_plan.specs.declared.request.InsChoice.TheVariants.{Named}
use Rattle.region_plan.specs.declared.request.Item as item
use Rattle.region_plan.specs.declared.request.Item.TheVariants.{One}
use Rattle.region_plan.specs.declared.request.Pins as pinned
use Rattle.region_plan.specs.declared.request.Request as asked
use Rattle.region_plan.specs.declared.request.Request.TheVariants.{Ins, Csr, Sys}
use Rattle.region_plan.specs.declared.request.Sys as word
use Rattle.region_plan.specs.declared.request.Sys.TheVariants.{Ecall, Ebreak, Zero, Sfence}
use Rattle.region_plan.specs.Plan.{HartPlan, Work, hart_count, no_hart, plan_of}
use Rattle.region_plan.specs.Registers.{registers_in}
use Rattle.region_plan.specs.Request.{InsChoice, Items, Pins, Request, SysWord, a_csr, a_plain, a_sys, an_ins, named_ins, no_items, one, sys_ebreak, sys_ecall, sys_sfence, sys_zero}

abbrev pub choice_seen : choice.InsChoice → InsChoice
choice_seen (Named ins) = named_ins ins

abbrev pub pins_seen : pinned.Pins → Pins
pins_seen p = record { rd = p.rd; rs1 = p.rs1; rs2 = p.rs2; imm = p.imm; aqrl = 0; avoid = registers_in p.avoid.has; zero_rs1 = p.zero_rs1 }

abbrev pub sys_seen : word.Sys → SysWord
sys_seen Ecall = sys_ecall
sys_seen Ebreak = sys_ebreak
sys_seen Zero = sys_zero
sys_seen Sfence = sys_sfence

abbrev pub request_seen : asked.Request → Request
request_seen (Ins ins pins) = a_plain (an_ins (choice_seen ins) (pins_seen pins))
request_seen (Csr csr ins pins) = a_plain (a_csr csr ins (pins_seen pins))
request_seen (Sys sys) = a_plain (a_sys (sys_seen sys))

abbrev pub items_seen : List item.Item → Items
items_seen [] = no_items
items_seen (One request ∷ items) = one (request_seen request) (items_seen items)

-- a hart with its template
abbrev pub planned_hart : code.HartPlan → Items → HartPlan
planned_hart hart template = record no_hart { mode = hart.mode; code_pages = hart.code_pages; template = template }

-- harts with their templates, one for each
abbrev pub harts_seen : List code.HartPlan → List Items → List HartPlan
harts_seen [] templates = []
harts_seen (hart ∷ harts) [] = []
harts_seen (hart ∷ harts) (template ∷ templates) = planned_hart hart template ∷ harts_seen harts templates

-- a hart of a plan, without its template; beyond the plan it is one of mode M
abbrev pub plan_at : List code.HartPlan → ℕ → HartPlan
plan_at harts h = planned_hart (get_or harts h (record { mode = M; code_pages = no_hart.code_pages })) no_items

-- The plan has as many harts as the work, and says of each what the work says, but for its template.
pub record IsPlannedBy (harts : List code.HartPlan) (work : Work) : Type 0 where
  pub count : hart_count work ≡ length harts
  pub same : (h : ℕ) → h < length harts → plan_of work h ≡ record (plan_at harts h) { template = (plan_of work h).template }

-- the work of harts that a job leaves all else open: its greatest budget and number of frames, and neither spaces nor trees
abbrev pub work_with : List HartPlan → Work
work_with harts = record { budget = 16384; frames = 4096; objects = []; spaces = []; harts = harts; trees = [] }

abbrev pub work_of : Job → Work
work_of job = work_with (harts_seen job.plan.harts.items (map (λ t. items_seen t.items) job.templates.items))
