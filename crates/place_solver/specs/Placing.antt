-- Where a memory request may go, and by which base: its candidates, the direct bases, and what the next words of the
-- hart's stream make of them.
use Rattle.rv_fields.specs.declared.access.Access.TheVariants as accesses
use Rattle.std.specs.Option.{option_map_or}
use Rattle.std.specs.List.{list_any, range_with_len}
use Rattle.std.specs.Prelude.{Bool, List, None, Option, Some, false, filter, get_or, is_none, is_some, length, map, not, pos, true, unwrap_or, ℕ, ℤ, ◌+◌, ◌*◌, ◌/◌, ◌%◌, ◌==◌, ◌&&◌, ◌||◌, ◌∷◌, ◌+ℤ◌, ◌-ℤ◌, [], if◌then◌else◌}
use Rattle.rv_fields.specs.declared.row_table.Form.TheVariants.{I, S}
use Rattle.choice_tree.specs.Draws.{Draws, next_word, skipped}
use Rattle.operand_solver.specs.Operands.{Operand, allowed, behind_operand, if_has, offset_by, operand, value_of_operand}
use Rattle.region_plan.specs.Plan.{Work, may_access, page_of, page_size, page_start, pages_in, regions_of, is_it}
use Rattle.region_plan.specs.Registers.{is_among}
use Rattle.region_plan.specs.Request.{Demand, MemRequest, Misaligned, PageFault, Quiet, Window, in_pages, in_region, one_address}
use Rattle.rv_fields.specs.Decode.{has_rd, has_rs2}
use Rattle.rv_fields.specs.declared.access.Access.{Access}
use Rattle.rv_fields.specs.Immediate.{wrapped}
use Rattle.rv_fields.specs.RowTable.{form_of}
use Rattle.rv_fields.specs.Class.{kind_of, width_of}
use Rattle.rv_fields.specs.Step.{right_of}
use Rattle.rv_fields.specs.declared.row_table.Form.{Form}
use Rattle.rv_fields.specs.declared.row_table.Ins.{Ins}
use Rattle.rv_fields.specs.declared.row_table.Ops.{Ops}

-- ---- candidates

-- Addresses: each of the places within each of the pages, both in rising order.
pub record Candidates : Type 0 where
  pub pages : List ℕ
  pub places : List ℕ

abbrev pub count : Candidates → ℕ
count c = length c.pages * length c.places

-- the one of this number in rising order
abbrev pub nth : Candidates → ℕ → ℕ
nth c k = page_start (get_or c.pages (k / length c.places) 0) + get_or c.places (k % length c.places) 0

abbrev pub is_candidate : Candidates → ℕ → Bool
is_candidate c address = is_among c.pages (page_of address) && is_among c.places (address % page_size)

-- a demand for no trap or a page fault asks for an aligned address, one for a misaligned address for another
abbrev pub suits : Demand → ℕ → ℕ → Bool
suits Quiet size place = place % size == 0
suits PageFault size place = place % size == 0
suits Misaligned size place = not (place % size == 0)

-- and for a page that is open to the hart, or one that isn't
abbrev pub suits_page : Demand → Bool → Bool
suits_page Quiet opens = opens
suits_page PageFault opens = not opens
suits_page Misaligned opens = true

-- the places of a window within its pages
abbrev pub places_in : Window → List ℕ
places_in (in_region region page) = range_with_len 0 page_size
places_in (in_pages at count) = range_with_len 0 page_size
places_in (one_address address) = address % page_size ∷ []

-- it needs the right to store
abbrev pub is_write : Access → Bool
is_write accesses.Fetch = false
is_write accesses.Load = false
is_write accesses.Store = true

abbrev pub is_store : Ins → Bool
is_store ins = option_map_or (λ kind. is_write (right_of kind)) (kind_of ins) false

abbrev pub candidates : Work → ℕ → Ins → MemRequest → Candidates
candidates work h ins r = record {
  pages = filter (λ page. suits_page r.demand (may_access work h (is_store ins) page)) (pages_in (regions_of work h) r.window);
  places = filter (suits r.demand (width_of ins)) (places_in r.window);
}

-- the page of a wanted load
abbrev pub wanted_page : Work → ℕ → MemRequest → ℕ
wanted_page work h r = get_or (pages_in (regions_of work h) r.window) 0 0

abbrev pub has_offset : Form → Bool
has_offset I = true
has_offset S = true
has_offset form = false

abbrev pub offsets_by : Bool → Option ℤ → List ℤ
offsets_by true (Some pin) = pin ∷ []
offsets_by true None = map (λ n. pos n -ℤ pos 2048) (range_with_len 0 4096)
offsets_by false pin = pos 0 ∷ []

-- ---- bases

-- the offsets that the form and the pins allow, rising
abbrev pub offsets : Ins → Option ℤ → List ℤ
offsets ins pin = offsets_by (has_offset (form_of ins)) pin

-- those by which a value reaches a candidate
abbrev pub in_reach : Candidates → List ℤ → ℕ → List ℤ
in_reach c offsets value = filter (λ offset. is_candidate c (wrapped (pos value +ℤ offset))) offsets

-- the base of a wanted load stands in the middle of its page
abbrev pub middle : ℕ → ℕ
middle page = page_start page + 2048

-- With the value that it has, or none, a base is direct: it needs no words before it.
abbrev pub is_direct : Work → ℕ → Ins → MemRequest → Option ℕ → Bool
is_direct work h ins r None = true
is_direct work h ins r (Some value) =
    if is_some r.want then value == middle (wanted_page work h r)
    else not (length (in_reach (candidates work h ins r) (offsets ins r.pins.imm) value) == 0)

-- the base is none of x0 and the pinned source
abbrev pub base_of : MemRequest → Option ℕ → Operand
base_of r counter = operand (filter (λ b. not (is_it b r.pins.rs2)) (allowed r.pins counter 1)) r.pins.rs1

abbrev pub source_of : Ins → MemRequest → Option ℕ → Operand
source_of ins r counter = if_has (has_rs2 (form_of ins)) (operand (allowed r.pins counter 0) r.pins.rs2)

-- rd of a wanted load has to take the value
abbrev pub rd_of_mem : Ins → MemRequest → Option ℕ → Operand
rd_of_mem ins r counter = if_has (has_rd (form_of ins)) (operand (allowed r.pins counter (if is_some r.want then 1 else 0)) r.pins.rd)

-- a source isn't the base, where the instruction has one
abbrev pub without_base : Ins → ℕ → Operand → Operand
without_base ins base source = if has_rs2 (form_of ins) then record source { members = filter (λ s. not (s == base)) source.members } else source

-- some choice of registers serves base, source and rd at once
abbrev pub serves_mem : Ins → MemRequest → Option ℕ → Bool
serves_mem ins r counter =
    not (length (rd_of_mem ins r counter).members == 0)
    && list_any (λ b. not (length (without_base ins b (source_of ins r counter)).members == 0)) (base_of r counter).members

-- ---- what is chosen

-- the operands, the value that the base has or gets, the address (of a wanted load its page's start), whether the base is
-- fixed, and whether it is loaded by words before
pub record PlacedAccess : Type 0 where
  pub ops : Ops
  pub base_value : ℕ
  pub address : ℕ
  pub fixes : Bool
  pub preamble : Bool
  pub left : Draws

-- The direct ones among the allowed bases. In a loop every base is loaded anew.
abbrev pub near : Work → ℕ → Ins → MemRequest → Option ℕ → (ℕ → Option ℕ) → List ℕ
near work h ins r None x = filter (λ b. is_direct work h ins r (x b)) (base_of r None).members
near work h ins r (Some counter) x = []

abbrev pub narrowed : Operand → List ℕ → Operand
narrowed o [] = o
narrowed o (m ∷ ms) = record o { members = m ∷ ms }

abbrev pub with_others : Ins → MemRequest → Option ℕ → PlacedAccess → PlacedAccess
with_others ins r counter p =
    let source = without_base ins p.ops.rs1 (source_of ins r counter) in
    let behind_source = behind_operand p.left source in
    record p {
      ops = record p.ops { rs2 = value_of_operand p.left source; rd = value_of_operand behind_source (rd_of_mem ins r counter) };
      left = behind_operand behind_source (rd_of_mem ins r counter);
    }

abbrev pub placement : MemRequest → ℕ → ℤ → ℕ → ℕ → Bool → Bool → Draws → PlacedAccess
placement r base offset address base_value untouched preamble left = record {
  ops = record { rd = 0; rs1 = base; rs2 = 0; imm = offset; aqrl = r.pins.aqrl };
  base_value = base_value;
  address = address;
  fixes = untouched && not preamble;
  preamble = preamble;
  left = left;
}

abbrev pub free_offset : List ℤ → ℕ → ℤ
free_offset (only ∷ []) word = only
free_offset several word = offset_by word

-- the address by a word, and the offset by the next one, where it is drawn
abbrev pub placed_freely : Candidates → Ins → MemRequest → ℕ → Bool → Bool → Draws → PlacedAccess
placed_freely c ins r base untouched preamble draws =
    let address = nth c (next_word draws % count c) in
    let offset = free_offset (offsets ins r.pins.imm) (next_word (skipped draws 1)) in
    placement r base offset address (wrapped (pos address -ℤ offset)) untouched preamble
    (skipped draws (if length (offsets ins r.pins.imm) == 1 then 1 else 2))

-- among those in reach of the base's value, rising by offset
abbrev pub placed_by_value : List ℤ → MemRequest → ℕ → ℕ → Draws → PlacedAccess
placed_by_value reach r base value draws =
    let offset = get_or reach (next_word draws % length reach) (pos 0) in
    placement r base offset (wrapped (pos value +ℤ offset)) value false false (skipped draws 1)

-- the address and the offset for a base with its value, if it has one
abbrev pub placed_at : Work → ℕ → Ins → MemRequest → Option ℕ → Bool → ℕ → Draws → PlacedAccess
placed_at work h ins r value preamble base draws =
    if is_some r.want then placement r base (pos 0) (page_start (wanted_page work h r)) (middle (wanted_page work h r)) (is_none value) preamble draws
    else (if preamble || is_none value then placed_freely (candidates work h ins r) ins r base (is_none value) preamble draws
    else placed_by_value (in_reach (candidates work h ins r) (offsets ins r.pins.imm) (unwrap_or value 0)) r base (unwrap_or value 0) draws)

-- base and address, then source and rd
abbrev pub placed_access : Work → ℕ → Ins → MemRequest → Option ℕ → (ℕ → Option ℕ) → Draws → PlacedAccess
placed_access work h ins r counter x draws =
    let close = near work h ins r counter x in
    let base = narrowed (base_of r counter) close in
    with_others ins r counter (placed_at work h ins r (x (value_of_operand draws base)) (length close == 0) (value_of_operand draws base) (behind_operand draws base))
