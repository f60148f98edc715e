-- The jobs that are accepted, as the JSON values that they are.
use Rattle.std.specs.Prelude.{ℕ, ◌+◌, Bool, true, false, List, [], ◌∷◌, codes, nat_lt, nat_le, ◌==◌, ◌&&◌, Option, Some, None, is_some, option_map, if◌then◌else◌}
use Rattle.std.specs.Str.{bytes_eq}
use Rattle.serde_json.specs.Data.{Data, Members, Items as Values, no_items as no_values, item}
use Rattle.serde_json.specs.Events.{items_len, members_len}
use Rattle.serde_json.specs.Find.{as_array, as_object, get_member}
use Rattle.rv_fields.specs.declared.csr.Csr.{Csr}
use Rattle.rv_fields.specs.declared.row_table.Ins.{Ins}
use Rattle.rv_fields.specs.declared.row_table.Ins.TheVariants.{Csrrs}
use Rattle.rv_fields.specs.Attempt.{◌>>=◌}
use Rattle.rv_fields.specs.Csr.{csr_called}
use Rattle.rv_fields.specs.Play.{most_harts}
use Rattle.rv_fields.specs.RowTable.{ins_called}
use Rattle.region_plan.specs.Pinned.{suit, suit_csr}
use Rattle.region_plan.specs.Plan.{HartPlan, Work, no_hart}
use Rattle.region_plan.specs.declared.request.Sys.{Sys}
use Rattle.region_plan.specs.declared.request.Sys.TheVariants.{Ecall, Ebreak, Zero, Sfence}
use Rattle.region_plan.specs.Request.{Items, Pins, Request, a_csr, a_plain, a_sys, an_ins, named_ins, no_items, one}
use Rattle.region_plan.specs.Registers.{rising}
use Rattle.region_plan.specs.Rules.{most_code_pages, most_requests}
use Rattle.region_plan.specs.Views.{sys_seen, work_with}
use Rattle.job_read.specs.declared.requests.CsrWay.{CsrWay}
use Rattle.json_keys.specs.Json.{document, integer, natural, natural_at, object_of, text_at}

-- a register: a number below 32
abbrev pub register : Data → Option ℕ
register value = do
  number ← natural value
  if nat_lt number 32 then Some number else None

-- an operand that an item may give, as it is read
abbrev pub given_by : {A : Type 0} → (Data → Option A) → Option Data → Option (Option A)
given_by read None = Some None
given_by read (Some value) = do
  operand ← read value
  Some (Some operand)

-- ---- registers to avoid

-- the registers that are listed
abbrev pub numbers_of : Values → Option (List ℕ)
numbers_of no_values = Some []
numbers_of (item value values) = do
  number ← register value
  numbers ← numbers_of values
  Some (number ∷ numbers)

abbrev pub registers_of : Values → Option (List ℕ)
registers_of values = do
  numbers ← numbers_of values
  Some (rising numbers)

-- those that no operand of an item may be: none where it lists none
abbrev pub avoided_by : Option Data → Option (List ℕ)
avoided_by None = Some []
avoided_by (Some value) = do
  values ← as_array value
  registers_of values

abbrev pub avoided_at : Members → Option (List ℕ)
avoided_at members = avoided_by (get_member (codes "avoid") members)

-- ---- operands

-- the operands of an item, each at its key; whether rs1 is the fixed 0 of a read is handed in
abbrev pub pins_of : Bool → Members → Option Pins
pins_of zero_rs1 members = do
  rd ← given_by register (get_member (codes "rd") members)
  rs1 ← given_by register (get_member (codes "rs1") members)
  rs2 ← given_by register (get_member (codes "rs2") members)
  imm ← given_by integer (get_member (codes "imm") members)
  avoid ← avoided_at members
  Some (record { rd = rd; rs1 = rs1; rs2 = rs2; imm = imm; aqrl = 0; avoid = avoid; zero_rs1 = zero_rs1 })

abbrev pub one_if_there : List ℕ → Members → ℕ
one_if_there key members = if is_some (get_member key members) then 1 else 0

-- how many keys of an item give these
abbrev pub key_count : Members → ℕ
key_count members = one_if_there (codes "rd") members + one_if_there (codes "rs1") members + one_if_there (codes "rs2") members
    + one_if_there (codes "imm") members + one_if_there (codes "avoid") members

-- ---- instructions

-- the request of an item that has no other keys, where its operands suit the instruction
abbrev pub ins_request_for : Ins → Pins → Bool → Option Request
ins_request_for ins pins alone = if alone && suit ins pins then Some (a_plain (an_ins (named_ins ins) pins)) else None

-- {"ins":NAME, ..}
abbrev pub ins_request : Members → Option Request
ins_request members = do
  name ← text_at (codes "ins") members
  ins ← ins_called name
  pins ← pins_of false members
  ins_request_for ins pins (members_len members == 1 + key_count members)

-- ---- instructions on CSRs

-- what is done with a CSR: a read sets no bits
abbrev pub way_called : List ℕ → Option CsrWay
way_called name =
    if bytes_eq name (codes "read") then Some (record { ins = Csrrs; zero_rs1 = true })
    else option_map (λ ins. record { ins = ins; zero_rs1 = false }) (ins_called name)

-- the request of an item that has no other keys, where its operands suit the instruction
abbrev pub csr_request_for : Csr → Ins → Pins → Bool → Option Request
csr_request_for csr ins pins alone = if alone && suit_csr csr ins pins then Some (a_plain (a_csr csr ins pins)) else None

-- {"csr":NAME,"op":OP, ..}
abbrev pub csr_request : Members → Option Request
csr_request members = do
  name ← text_at (codes "csr") members
  csr ← csr_called name
  op ← text_at (codes "op") members
  way ← way_called op
  pins ← pins_of way.zero_rs1 members
  csr_request_for csr way.ins pins (members_len members == 2 + key_count members)

-- ---- words of their own

-- the word that is called so
abbrev pub sys_called : List ℕ → Option Sys
sys_called name =
    if bytes_eq name (codes "ecall") then Some Ecall
    else (if bytes_eq name (codes "ebreak") then Some Ebreak
    else (if bytes_eq name (codes "zero") then Some Zero
    else (if bytes_eq name (codes "sfence") then Some Sfence else None)))

-- {"sys":NAME}, and what it avoids, which its word has no register for
abbrev pub sys_request : Members → Option Request
sys_request members = do
  name ← text_at (codes "sys") members
  sys ← sys_called name
  avoid ← avoided_at members
  if members_len members == 1 + one_if_there (codes "avoid") members then Some (a_plain (a_sys (sys_seen sys))) else None

-- ---- items

-- by the keys that lead items, the first that it has
abbrev pub request_by : Option Data → Option Data → Members → Option Request
request_by (Some ins) csr members = ins_request members
request_by None (Some csr) members = csr_request members
request_by None None members = sys_request members

abbrev pub request_of : Data → Option Request
request_of value = do
  members ← as_object value
  request_by (get_member (codes "ins") members) (get_member (codes "csr") members) members

-- the items of a template: each is a request
abbrev pub items_of : Values → Option Items
items_of no_values = Some no_items
items_of (item value values) = do
  request ← request_of value
  items ← items_of values
  Some (one request items)

-- what a hart is but for its template: in mode M, with 1 to 256 pages of code
abbrev pub hart_plan : Members → Option HartPlan
hart_plan members = do
  mode ← text_at (codes "mode") members
  code_pages ← natural_at (codes "code_pages") members
  if bytes_eq mode (codes "M") && nat_le 1 code_pages && nat_le code_pages most_code_pages
      then Some (record no_hart { code_pages = code_pages })
      else None

-- its template, with no more items than a template may have
abbrev pub template_at : Members → Option Values
template_at members = do
  template ← get_member (codes "template") members
  values ← as_array template
  if nat_le (items_len values) most_requests then Some values else None

-- the hart {"mode":"M","code_pages":PAGES,"template":[..]}
abbrev pub accepted_hart : Data → Option HartPlan
accepted_hart value = do
  members ← object_of 3 value
  plan ← hart_plan members
  values ← template_at members
  items ← items_of values
  Some (record plan { template = items })

-- each is a hart
abbrev pub harts_of : Values → Option (List HartPlan)
harts_of no_values = Some []
harts_of (item value values) = do
  hart ← accepted_hart value
  harts ← harts_of values
  Some (hart ∷ harts)

-- the harts of {"version":1,"harts":[..]}, at least one
abbrev pub harts_at : Data → Option Values
harts_at value = do
  members ← object_of 2 value
  version ← natural_at (codes "version") members
  harts ← get_member (codes "harts") members
  values ← as_array harts
  if (version == 1) && nat_le 1 (items_len values) && nat_le (items_len values) most_harts
      then Some values
      else None

-- the job of these harts
abbrev pub job_of : Data → Option Work
job_of value = do
  values ← harts_at value
  harts ← harts_of values
  Some (work_with harts)

-- the job that a file spells
abbrev pub job_in : List ℕ → Option Work
job_in bytes = do
  value ← document bytes
  job_of value
