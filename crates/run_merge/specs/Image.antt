-- The memory that a run's program is: what boots the harts, and the words that they made.
use Rattle.std.specs.Prelude.{ℕ, suc, zero, ◌≡◌, ◌<◌, ◌≤◌, ◌+◌, ◌*◌, List, [], ◌∷◌, ◌++◌, length, map, Option, Some, None, slice_get, unwrap_or}
use Rattle.std.specs.List.{AllByRecursion, Contains, flat_map, filter_map}
use Rattle.std.specs.Option.{option_map_or}
use Rattle.std.specs.Int.{w32, w64, to_le_bytes}
use Rattle.rv_fields.specs.declared.mode.Mode.TheVariants.{S, M}
use Rattle.rv_fields.specs.Effect.{Effect}
use Rattle.trace_text.specs.Lines.{Line, starting}
use Rattle.boot_words.specs.Layout.{dispatcher_at, boot_block_at, boot_csrs_at, boot_registers_at, m_handler_at, s_handler_at, code_start, code_address}
use Rattle.boot_words.specs.Boot.{dispatcher, boot_block, boot_csrs, boot_registers, handler}
use Rattle.ram_image.specs.Pieces.{Piece, filled, laid}
use Rattle.ram_image.specs.Segments.{Stretch}
use Rattle.region_plan.specs.Plan.{Work, hart_count, plan_of}
use Rattle.hart_task.specs.Blocks.{made_by}

-- words and values as bytes, the lowest first
abbrev pub word_bytes : List ℕ → List ℕ
word_bytes words = flat_map (to_le_bytes w32) words

abbrev pub value_bytes : List ℕ → List ℕ
value_bytes values = flat_map (to_le_bytes w64) values

-- a hart's boot block, with its values: x1 to x31 start with what is given for the hart
abbrev pub boot_pieces : Work → (ℕ → ℕ → Option ℕ) → ℕ → List Piece
boot_pieces work initial hart =
    record { at = boot_block_at hart; bytes = word_bytes boot_block }
    ∷ record { at = boot_csrs_at hart; bytes = value_bytes (boot_csrs (plan_of work hart) hart) }
    ∷ record { at = boot_registers_at hart; bytes = value_bytes (boot_registers (initial hart)) }
    ∷ []

-- the boot blocks of so many harts from one on
abbrev pub boot_pieces_from : Work → (ℕ → ℕ → Option ℕ) → ℕ → ℕ → List Piece
boot_pieces_from work initial hart zero = []
boot_pieces_from work initial hart (suc count) = boot_pieces work initial hart ++ boot_pieces_from work initial (hart + 1) count

-- the dispatcher and the boot blocks of all harts
abbrev pub startup_pieces : Work → (ℕ → ℕ → Option ℕ) → List Piece
startup_pieces work initial =
    record { at = dispatcher_at; bytes = word_bytes (dispatcher (hart_count work)) } ∷ boot_pieces_from work initial 0 (hart_count work)

abbrev pub handler_pieces : List Piece
handler_pieces =
    record { at = m_handler_at; bytes = word_bytes (handler M) }
    ∷ record { at = s_handler_at; bytes = word_bytes (handler S) }
    ∷ []

-- the word that an effect tells; 0 where it tells none
abbrev pub effect_word : Effect → ℕ
effect_word e = unwrap_or e.word 0

-- the physical address at which the word of an effect stands; 0 where it tells none
abbrev pub effect_pa : Effect → ℕ
effect_pa e = unwrap_or e.pa 0

abbrev pub word_piece : Effect → Piece
word_piece e = record { at = effect_pa e; bytes = to_le_bytes w32 (effect_word e) }

-- Each made word at its physical address. A word that is found stands in memory before.
abbrev pub code_pieces : List Line → List Piece
code_pieces lines = map word_piece (filter_map made_by lines)

abbrev pub image_pieces : Work → List Line → List Piece
image_pieces work lines = startup_pieces work (starting lines) ++ handler_pieces ++ code_pieces lines

-- the byte at each address; 0 where nothing is placed
abbrev pub image : Work → List Line → ℕ → ℕ
image work lines a = filled (image_pieces work lines) a

-- what a hart brings to the program: the values that its registers start with, and the words of its window from the first on
pub record HartImage : Type 0 where
  pub initial : ℕ → Option ℕ
  pub words : List ℕ

abbrev pub initial_in : List HartImage → ℕ → ℕ → Option ℕ
initial_in harts h = option_map_or (λ (i : HartImage). i.initial) (slice_get harts h) (λ r. None)

-- the windows' pages of harts from one on, as far as they hold words
abbrev pub code_stretches : ℕ → List HartImage → List Stretch
code_stretches h [] = []
code_stretches h (i ∷ is) = record { at = code_start h; bytes = word_bytes i.words; size = 0x1000; flags = 5 } ∷ code_stretches (h + 1) is

-- The program's segments, each readable and executable: the dispatcher's page and the boot blocks of all harts; the pages of
-- both handlers; and for each hart the first page of its code.
abbrev pub program : Work → List HartImage → List Stretch
program work harts =
    record { at = dispatcher_at; bytes = laid dispatcher_at (startup_pieces work (initial_in harts)); size = 0x1000 + hart_count work * 0x1000; flags = 5 }
    ∷ record { at = m_handler_at; bytes = laid m_handler_at handler_pieces; size = 0x2000; flags = 5 }
    ∷ code_stretches 0 harts

-- The words of a hart are those that its lines make: each at the address of its place in the window, and no others.
pub record AreMadeBy (lines : List Line) (h : ℕ) (words : List ℕ) : Type 0 where
  pub at_places : (e : Effect) → Contains (filter_map made_by lines) e → e.hart ≡ h
      → (index : ℕ) × (effect_pa e ≡ code_address h index) × (slice_get words index ≡ Some (effect_word e))
  pub no_others : (index word : ℕ) → slice_get words index ≡ Some word
      → (e : Effect) × Contains (filter_map made_by lines) e × (e.hart ≡ h) × (effect_pa e ≡ code_address h index) × (effect_word e ≡ word)

-- What the harts bring is what the lines tell of them.
pub record AreImagesOf (work : Work) (lines : List Line) (harts : List HartImage) : Type 0 where
  pub count : length harts ≡ hart_count work
  pub members : AllByRecursion (λ (e : Effect). e.hart < hart_count work) (filter_map made_by lines)
  pub initial : (h r : ℕ) → h < hart_count work → initial_in harts h r ≡ starting lines h r
  pub words : (h : ℕ) (i : HartImage) → slice_get harts h ≡ Some i → AreMadeBy lines h i.words
  pub room : (h : ℕ) (i : HartImage) → slice_get harts h ≡ Some i → length i.words ≤ 1024
