-- How a hart steps: over the words of its window and the handlers, the table entries that it knows, and what its event tells
-- of data.
use Rattle.rv_fields.specs.declared.mode.Mode.TheVariants as mode
use Rattle.std.specs.List.{range_with_len}
use Rattle.std.specs.Option.{option_map_or, option_or}
use Rattle.std.specs.Prelude.{Bool, List, None, Option, Some, false, filter, get_or, is_none, is_some, length, map, nat_le, nat_lt, not, option_map, true, unwrap_or, ℕ, ◌+◌, ◌-◌, ◌*◌, ◌/◌, ◌%◌, ◌^◌, ◌==◌, ◌&&◌, ◌||◌, ◌∷◌, [], if◌then◌else◌}
use Rattle.boot_words.specs.Boot.{handler}
use Rattle.boot_words.specs.Layout.{code_start, m_handler_at, s_handler_at, data_start, window_words}
use Rattle.choice_tree.specs.Draws.{Draws, next_word, skipped}
use Rattle.hart_task.specs.Acts.{Fixing}
use Rattle.hart_task.specs.Heard.{Heard}
use Rattle.hart_task.specs.State.{HartState}
use Rattle.region_plan.specs.Plan.{Work, page_size}
use Rattle.rv_fields.specs.Attempt.{◌>>=◌}
use Rattle.rv_fields.specs.Effect.{Effect}
use Rattle.rv_fields.specs.declared.row_table.Ins.{Ins}
use Rattle.world_face.specs.Events.{Wanted}
use Rattle.world_face.specs.Told.{Run}
use Rattle.rv_fields.specs.declared.access.Access.TheVariants as accesses
use Rattle.rv_fields.specs.declared.access.AccessKind.{AccessKind}
use Rattle.rv_fields.specs.declared.access.AccessKind.TheVariants.{Load, Store, Lr, Sc, Amo}
use Rattle.rv_fields.specs.declared.access.Accessed.{Accessed}
use Rattle.rv_fields.specs.Class.{kind_of}
use Rattle.rv_fields.specs.Decode.{Decoded, decoded, sources}
use Rattle.rv_fields.specs.Hart.{Registers, updated}
use Rattle.rv_fields.specs.Laws.{names_open_in}
use Rattle.rv_fields.specs.Memory.{Seen, granule, told}
use Rattle.rv_fields.specs.Step.{Stepped, data_mode, fetch_walked, rights_of, step}
use Rattle.rv_fields.specs.Sv39.{Translated, Walked, entries_in, faults, reached, translate}

-- ---- what the hart sees of memory

-- a byte of a number that stands at an address
abbrev pub byte_of : ℕ → ℕ → ℕ → ℕ
byte_of value at a = value / 256 ^ (a - at) % 256

abbrev pub lies_in : ℕ → ℕ → ℕ → Bool
lies_in a at size = nat_le at a && nat_lt a (at + size)

-- a byte of words that stand one behind another
abbrev pub byte_in_words : (ℕ → Option ℕ) → ℕ → ℕ → Option ℕ
byte_in_words words at a = option_map (λ w. byte_of w ((a - at) / 4 * 4) (a - at)) (words ((a - at) / 4))

abbrev pub listed_words : List ℕ → ℕ → Option ℕ
listed_words words i = if nat_lt i (length words) then Some (get_or words i 0) else None

-- a byte of the entry in which it lies
abbrev pub byte_in_entries : (ℕ → Option ℕ) → ℕ → Option ℕ
byte_in_entries entries a = option_map (λ pte. byte_of pte (a / 8 * 8) a) (entries (a / 8 * 8))

-- a byte of the number that the access read
abbrev pub byte_in_access : Option Accessed → ℕ → Option ℕ
byte_in_access None a = None
byte_in_access (Some x) a = if lies_in a x.pa x.size then option_map (λ value. byte_of value x.pa a) x.read else None

-- what is fixed below the data: its window's words, the handlers, the entries that it knows
abbrev pub fixed_byte : Work → HartState → ℕ → Option ℕ
fixed_byte work s a =
    if lies_in a (code_start s.hart.number) (4 * window_words work s.hart.number) then byte_in_words s.words (code_start s.hart.number) a
    else (if lies_in a m_handler_at page_size then byte_in_words (listed_words (handler mode.M)) m_handler_at a
    else (if lies_in a s_handler_at page_size then byte_in_words (listed_words (handler mode.S)) s_handler_at a
    else byte_in_entries s.entries a))

-- data are told by the parts alone
abbrev pub seen_byte : Work → HartState → Heard → ℕ → Option ℕ
seen_byte work s heard a = if nat_lt a data_start then fixed_byte work s a else byte_in_access heard.access a

-- the one link that the event tells
abbrev pub link_told : Option (ℕ × Bool) → ℕ → ℕ → ℕ → Option Bool
link_told None hart h g = None
link_told (Some p) hart h g = if h == hart && (g == granule p.0) then Some p.1 else None

abbrev pub seen_of : Work → HartState → Heard → Seen
seen_of work s heard = record { byte = seen_byte work s heard; link = link_told heard.probe s.hart.number }

abbrev pub page_in : Translated → Option ℕ
page_in (reached pa) = Some pa
page_in (faults cause) = None

-- the word at pc
abbrev pub word_here : HartState → Seen → Option ℕ
word_here s seen = do
  w ← fetch_walked seen s.hart
  pa ← page_in w.result
  t ← told seen.byte pa 4
  t

-- ---- what a step fixes

-- the registers that a word reads, rs1 before rs2, each once
abbrev pub named_by : Option Decoded → List ℕ
named_by d = option_map_or sources d []

abbrev pub untouched : HartState → List ℕ → List ℕ
untouched s = filter (λ r. is_none (s.hart.x r))

-- each is fixed to the next word
abbrev pub late_registers : Draws → List ℕ → List Fixing
late_registers draws [] = []
late_registers draws (r ∷ rs) = record { register = r; value = next_word draws } ∷ late_registers (skipped draws 1) rs

-- registers when they are fixed
abbrev pub fixed_in : Registers → List Fixing → Registers
fixed_in x [] = x
fixed_in x (f ∷ fs) = fixed_in (updated x f.register (Some f.value)) fs

abbrev pub with_fixed : HartState → List Fixing → HartState
with_fixed s fs = record s { hart = record s.hart { x = fixed_in s.hart.x fs } }

-- each is the next word modulo 256
abbrev pub bytes_drawn : Draws → List ℕ → List ℕ
bytes_drawn draws [] = []
bytes_drawn draws (b ∷ bs) = next_word draws % 256 ∷ bytes_drawn (skipped draws 1) bs

-- the untouched bytes that the event tells, in their order: each the next word modulo 256
abbrev pub late_bytes : Draws → List Run → List Run
late_bytes draws [] = []
late_bytes draws (r ∷ rs) =
    record { at = r.at; bytes = bytes_drawn draws r.bytes } ∷ late_bytes (skipped draws (length r.bytes)) rs

-- those of a wanted number
abbrev pub wanted_bytes : ℕ → ℕ → Run → Run
wanted_bytes at value r = record r { bytes = map (λ a. byte_of value at a) (range_with_len r.at (length r.bytes)) }

abbrev pub byte_count : List Run → ℕ
byte_count [] = 0
byte_count (r ∷ rs) = length r.bytes + byte_count rs

-- ---- what keeps late fixing harmless

-- an access lies in one page of data
abbrev pub is_of_data : Option Accessed → Bool
is_of_data None = true
is_of_data (Some a) = nat_le data_start a.pa && nat_le (a.pa % page_size + a.size) page_size

-- No step of the run names mcause or mtval, which differ from one start to another, and none reads or writes what isn't data.
abbrev pub keeps_rules : Effect → Bool
keeps_rules e = not (names_open_in e.word) && is_of_data e.access

-- ---- a step

-- what is fixed before, the effect, and the state behind it but for its phase
pub record StepTaken : Type 0 where
  pub registers : List Fixing
  pub bytes : List Run
  pub effect : Effect
  pub probe : Option (ℕ × Bool)
  pub state : HartState

abbrev pub is_conditional : AccessKind → Bool
is_conditional Load = false
is_conditional Store = false
is_conditional Lr = false
is_conditional Sc = true
is_conditional Amo = false

abbrev pub is_sc : Ins → Bool
is_sc ins = option_map_or is_conditional (kind_of ins) false

abbrev pub sc_translated : HartState → Seen → Decoded → Option Walked
sc_translated s seen d = translate (entries_in seen.byte) s.hart.csrs.satp (rights_of s.hart (data_mode s.hart.mode s.hart.csrs.mstatus)) accesses.Store (unwrap_or (s.hart.x d.ops.rs1) 0)

abbrev pub page_told : Walked → Option ℕ
page_told w = page_in w.result

-- the physical address of an SC that doesn't trap
abbrev pub probe_at : HartState → Seen → Option Decoded → Effect → Option ℕ
probe_at s seen None e = None
probe_at s seen (Some d) e = if is_some e.trap || not (is_sc d.ins) then None else option_or (option_map (λ (a : Accessed). a.pa) e.access) (option_map_or page_told (sc_translated s seen d) None)

-- A step that accesses nothing fixes no byte.
abbrev pub runs_of : Heard → Option Accessed → List Run
runs_of heard None = []
runs_of heard (Some a) = heard.runs

-- a wanted number gives the bytes that it needs; else they are drawn
abbrev pub bytes_fixed : List Run → Option Accessed → Option Wanted → Draws → List Run
bytes_fixed runs access None draws = late_bytes draws runs
bytes_fixed runs access (Some w) draws = map (wanted_bytes (option_map_or (λ (a : Accessed). a.pa) access 0) w.value) runs

-- what a step makes, by its outcome
abbrev pub taken_step : HartState → Seen → Heard → Option Wanted → Option Decoded → List Fixing → Stepped → StepTaken
taken_step s seen heard wanted d registers r = record {
  registers = registers;
  bytes = bytes_fixed (runs_of heard r.effect.access) r.effect.access wanted (skipped s.draws (length registers));
  effect = r.effect;
  probe = option_map (λ pa. (pa, option_map_or (λ (p : ℕ × Bool). p.1) heard.probe false)) (probe_at (with_fixed s registers) seen d r.effect);
  state = record s { hart = r.hart; draws = skipped s.draws (length registers + (if is_some wanted then 0 else byte_count (runs_of heard r.effect.access))) };
}

abbrev pub stepped_word : Work → HartState → Heard → Option Wanted → Option Decoded → List Fixing → Option StepTaken
stepped_word work s heard wanted d registers = do
  r ← step (seen_of work s heard) (with_fixed s registers).hart
  if keeps_rules r.effect then Some (taken_step s (seen_of work s heard) heard wanted d registers r) else None

-- The word at pc is stepped. What it reads of the untouched is fixed first, registers before bytes.
abbrev pub stepped : Work → HartState → Heard → Option Wanted → Option StepTaken
stepped work s heard wanted = do
  word ← word_here s (seen_of work s heard)
  stepped_word work (record s { steps = s.steps + 1 }) heard wanted (decoded word) (late_registers s.draws (untouched s (named_by (decoded word))))
