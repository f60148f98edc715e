-- A job that is accepted keeps the rules.
use Rattle.std.proofs.Common.{suc, codes, ◌≡◌, ◌≤◌, Bool, false, List, [], ◌∷◌, length, Option, Some, None, Result, Ok, Err, refl, ap, subst, sym, arith}
use Rattle.std.specs.Prelude.{IfOk}
use Rattle.std.specs.List.{AllByRecursion}
use Rattle.std.proofs.lemmas.Bool.{and_parts, leb-true}
use Rattle.std.proofs.lemmas.Option.{cond_some, same_Some}
use Rattle.serde_json.specs.Data.{Data, Members, Items as Values, no_items as no_values, item}
use Rattle.serde_json.specs.Events.{items_len}
use Rattle.serde_json.specs.Find.{as_array, as_object, get_member}
use Rattle.rv_fields.specs.Csr.{csr_called}
use Rattle.rv_fields.specs.Play.{most_harts}
use Rattle.rv_fields.specs.RowTable.{ins_called}
use Rattle.rv_fields.proofs.Options.{found}
use Rattle.region_plan.specs.declared.job.Job.{Job}
use Rattle.region_plan.specs.Plan.{HartPlan, Work}
use Rattle.region_plan.specs.Request.{Items, Pins, Request, no_items, one}
use Rattle.region_plan.specs.declared.request.Sys.{Sys}
use Rattle.region_plan.specs.declared.request.Sys.TheVariants.{Ecall, Ebreak, Zero, Sfence}
use Rattle.region_plan.specs.Rules.{IsMakeable, IsMakeableRequest, IsMakeableSys, IsPlainHart, KeepsRules, most_requests}
use Rattle.region_plan.specs.Script.{script_of}
use Rattle.region_plan.specs.Views.{sys_seen, work_of, work_with}
use Rattle.json_keys.specs.declared.input.InputFault.{InputFault}
use Rattle.json_keys.specs.Input.{ReadsAs}
use Rattle.json_keys.specs.Json.{integer, object_of, natural_at, text_at}
use Rattle.job_read.specs.Accepted.{avoided_at, csr_request, given_by, ins_request, pins_of, register, request_by, request_of, sys_called, sys_request, way_called, items_of, hart_plan, template_at, accepted_hart, harts_of, harts_at, job_of}

-- the operands that are read ask for no order
pins_bare : (zero_rs1 : Bool) (members : Members) (pins : Pins) → pins_of zero_rs1 members ≡ Some pins → pins.aqrl ≡ 0
pins_bare zero_rs1 members pins e =
    let rd = found (given_by register (get_member (codes "rd") members)) _ pins e in
    let rs1 = found (given_by register (get_member (codes "rs1") members)) _ pins rd.2 in
    let rs2 = found (given_by register (get_member (codes "rs2") members)) _ pins rs1.2 in
    let imm = found (given_by integer (get_member (codes "imm") members)) _ pins rs2.2 in
    let avoid = found (avoided_at members) _ pins imm.2 in
    let is_pins : record { rd = rd.0; rs1 = rs1.0; rs2 = rs2.0; imm = imm.0; aqrl = 0; avoid = avoid.0; zero_rs1 = zero_rs1 } ≡ pins = same_Some _ _ avoid.2 in
    ap (λ (p : Pins). p.aqrl) (sym is_pins)

-- a request that is accepted can be made
ins_makeable : (members : Members) (request : Request) → ins_request members ≡ Some request → IsMakeableRequest request
ins_makeable members request e =
    let name = found (text_at (codes "ins") members) _ request e in
    let ins = found (ins_called name.0) _ request name.2 in
    let pins = found (pins_of false members) _ request ins.2 in
    let passed = cond_some _ _ request pins.2 in
    subst IsMakeableRequest passed.1 (record { whole = (and_parts _ _ passed.0).1; no_order = pins_bare false members pins.0 pins.1 })

csr_makeable : (members : Members) (request : Request) → csr_request members ≡ Some request → IsMakeableRequest request
csr_makeable members request e =
    let name = found (text_at (codes "csr") members) _ request e in
    let csr = found (csr_called name.0) _ request name.2 in
    let op = found (text_at (codes "op") members) _ request csr.2 in
    let way = found (way_called op.0) _ request op.2 in
    let pins = found (pins_of way.0.zero_rs1 members) _ request way.2 in
    let passed = cond_some _ _ request pins.2 in
    subst IsMakeableRequest passed.1 (record { whole = (and_parts _ _ passed.0).1; no_order = pins_bare way.0.zero_rs1 members pins.0 pins.1 })

-- a template may ask for each word that has a name
sys_may : (sys : Sys) → IsMakeableSys (sys_seen sys)
sys_may Ecall = tt
sys_may Ebreak = tt
sys_may Zero = tt
sys_may Sfence = tt

sys_makeable : (members : Members) (request : Request) → sys_request members ≡ Some request → IsMakeableRequest request
sys_makeable members request e =
    let name = found (text_at (codes "sys") members) _ request e in
    let sys = found (sys_called name.0) _ request name.2 in
    let avoid = found (avoided_at members) _ request sys.2 in
    let passed = cond_some _ _ request avoid.2 in
    subst IsMakeableRequest passed.1 (sys_may sys.0)

makeable_by : (ins csr : Option Data) (members : Members) (request : Request) → request_by ins csr members ≡ Some request → IsMakeableRequest request
makeable_by (Some ins) csr members request e = ins_makeable members request e
makeable_by None (Some csr) members request e = csr_makeable members request e
makeable_by None None members request e = sys_makeable members request e

request_makeable : (value : Data) (request : Request) → request_of value ≡ Some request → IsMakeableRequest request
request_makeable value request e =
    let members = found (as_object value) _ request e in
    makeable_by (get_member (codes "ins") members.0) (get_member (codes "csr") members.0) members.0 request members.2

-- accepted items can be made, and are as many as their values
items_makeable : (values : Values) (items : Items) → items_of values ≡ Some items
    → AllByRecursion IsMakeable (script_of items) × (length (script_of items) ≡ items_len values)
items_makeable no_values items e =
    let none : no_items ≡ items = same_Some _ _ e in
    rw (← none) (tt, refl)
items_makeable (item value values) items e =
    let first = found (request_of value) _ items e in
    let others = found (items_of values) _ items first.2 in
    let all : one first.0 others.0 ≡ items = same_Some _ _ others.2 in
    let rest = items_makeable values others.0 others.1 in
    rw (← all) (((request_makeable value first.0 first.1, refl), rest.0), ap suc rest.1)

-- an accepted template has no more items than a page of code has room for
template_has_room : (members : Members) (values : Values) → template_at members ≡ Some values → items_len values ≤ most_requests
template_has_room members values e =
    let template = found (get_member (codes "template") members) _ values e in
    let listed = found (as_array template.0) _ values template.2 in
    let passed = cond_some _ _ values listed.2 in
    rw (← passed.1) (leb-true _ _ passed.0)

-- without its template, an accepted hart is a plain one
plan_plain : (members : Members) (plan : HartPlan) → hart_plan members ≡ Some plan → IsPlainHart plan
plan_plain members plan e =
    let room : 0 ≤ most_requests = omega arith in
    let mode = found (text_at (codes "mode") members) _ plan e in
    let code_pages = found (natural_at (codes "code_pages") members) _ plan mode.2 in
    let passed = cond_some _ _ plan code_pages.2 in
    let most = and_parts _ _ passed.0 in
    subst IsPlainHart passed.1 (record {
      plain = refl;
      some_pages = leb-true _ _ (and_parts _ _ most.0).1;
      most_pages = leb-true _ _ most.1;
      room = room;
      requests = tt;
    })

-- an accepted hart is a plain one
hart_plain : (value : Data) (hart : HartPlan) → accepted_hart value ≡ Some hart → IsPlainHart hart
hart_plain value hart e =
    let members = found (object_of 3 value) _ hart e in
    let plan = found (hart_plan members.0) _ hart members.2 in
    let values = found (template_at members.0) _ hart plan.2 in
    let items = found (items_of values.0) _ hart values.2 in
    let bare = plan_plain members.0 plan.0 plan.1 in
    let made = items_makeable values.0 items.0 items.1 in
    let room = template_has_room members.0 values.0 values.1 in
    let is_hart : record plan.0 { template = items.0 } ≡ hart = same_Some _ _ items.2 in
    subst IsPlainHart is_hart (record {
      plain = ap (λ (p : HartPlan). record p { template = items.0 }) bare.plain;
      some_pages = bare.some_pages;
      most_pages = bare.most_pages;
      room = omega (arith, made.1, room);
      requests = made.0;
    })

-- accepted harts are plain ones, and as many as their values
harts_plain : (values : Values) (harts : List HartPlan) → harts_of values ≡ Some harts
    → AllByRecursion IsPlainHart harts × (length harts ≡ items_len values)
harts_plain no_values harts e =
    let none : [] ≡ harts = same_Some _ _ e in
    rw (← none) (tt, refl)
harts_plain (item value values) harts e =
    let first = found (accepted_hart value) _ harts e in
    let others = found (harts_of values) _ harts first.2 in
    let all : first.0 ∷ others.0 ≡ harts = same_Some _ _ others.2 in
    let rest = harts_plain values others.0 others.1 in
    rw (← all) ((hart_plain value first.0 first.1, rest.0), ap suc rest.1)

-- an accepted job has 1 to 16 harts
harts_in_range : (value : Data) (values : Values) → harts_at value ≡ Some values → (1 ≤ items_len values) × (items_len values ≤ most_harts)
harts_in_range value values e =
    let members = found (object_of 2 value) _ values e in
    let version = found (natural_at (codes "version") members.0) _ values members.2 in
    let harts = found (get_member (codes "harts") members.0) _ values version.2 in
    let listed = found (as_array harts.0) _ values harts.2 in
    let passed = cond_some _ _ values listed.2 in
    let most = and_parts _ _ passed.0 in
    rw (← passed.1) (leb-true _ _ (and_parts _ _ most.0).1, leb-true _ _ most.1)

-- the job of an accepted value keeps the rules
job_keeps_rules : (value : Data) (work : Work) → job_of value ≡ Some work → KeepsRules work
job_keeps_rules value work e =
    let values = found (harts_at value) _ work e in
    let harts = found (harts_of values.0) _ work values.2 in
    let plain = harts_plain values.0 harts.0 harts.1 in
    let range = harts_in_range value values.0 values.1 in
    let is_work : work_with harts.0 ≡ work = same_Some _ _ harts.2 in
    subst KeepsRules is_work (record {
      some = omega (arith, plain.1, range.0);
      most = omega (arith, plain.1, range.1);
      harts = plain.0;
      rest = refl;
    })

-- what is read of an accepted value keeps the rules
pub reads_rules : (value : Data) (result : Result Job InputFault) → ReadsAs work_of result (job_of value) → IfOk result (λ job. KeepsRules (work_of job))
reads_rules value (Ok job) spelled = job_keeps_rules value (work_of job) spelled
reads_rules value (Err fault) spelled = tt
