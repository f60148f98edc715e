-- The works of one plan: their harts boot alike, since only their templates are left open.
use Rattle.std.proofs.Common.{ℕ, ◌<◌, ◌≡◌, List, length, replicate, ap}
use Rattle.std.proofs.lemmas.List.{length-replicate}
use Rattle.region_plan.specs.declared.plan.HartPlan as code
use Rattle.region_plan.specs.Plan.{HartPlan, Work, plan_of}
use Rattle.region_plan.specs.Request.{no_items}
use Rattle.region_plan.specs.Views.{IsPlannedBy, harts_seen, plan_at, work_with}
use Rattle.region_plan.proofs.Harts.{planned}
use Rattle.boot_words.specs.Boot.{boot_csrs}

-- the values that a hart's boot writes to the CSRs
pub planned_csrs : (harts : List code.HartPlan) (work : Work) → IsPlannedBy harts work → (h : ℕ) → h < length harts
    → boot_csrs (plan_of work h) h ≡ boot_csrs (plan_at harts h) h
planned_csrs harts work by h member = ap (λ (q : HartPlan). boot_csrs q h) (by.same h member)

-- a work whose harts have nothing to do
abbrev pub idle_work : List code.HartPlan → Work
idle_work harts = work_with (harts_seen harts (replicate (length harts) no_items))

pub idle_planned : (harts : List code.HartPlan) → IsPlannedBy harts (idle_work harts)
idle_planned harts = planned harts (replicate (length harts) no_items) (length-replicate (length harts) no_items)
