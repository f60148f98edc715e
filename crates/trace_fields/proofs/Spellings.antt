-- The readings of a trace's fields are the inverses of their texts.
use Rattle.std.proofs.Common.{◌≡◌, ℕ, ◌<◌, ◌≤◌, ◌^◌, ◌*◌, List, length, Option, IfSome}
use Rattle.std.specs.List.{AllByRecursion, flat_map}
use Rattle.std.specs.Fmt.{decimal}
use Rattle.trace_fields.specs.Text.{slash, joined_by, hex, word_text, byte_text, none_text, or_none, kind_text, cause_text, write_text, access_text, entry_text, trail_text, trap_text}
use Rattle.trace_fields.specs.Numbers.{decimal_below, word_reading, byte_reading}
use Rattle.trace_fields.specs.Readings.{kind_reading, cause_reading, sizes, preambles, name_reading, count_reading, number_reading, hex_reading, register_reading, space_reading, path_reading, bytes_reading, optional, sized, write_reading, access_reading, entry_reading, trap_reading, trail_reading}
use Rattle.trace_fields.specs.Ranges.{IsAnyOf, IsName, IsWrite, IsAccess, IsEntry, IsTrap, IsPath, AreFixedBytes}
use Rattle.trace_fields.proofs.Spells.{Spells}
use Rattle.trace_fields.proofs.Backs as backs
use Rattle.trace_fields.proofs.Agains as agains

-- Numbers.

pub hart_spells : (harts : ℕ) → harts ≤ 2 ^ 64 → Spells decimal (decimal_below harts) (λ h. h < harts)
hart_spells harts most = record { back = backs.hart_back harts; again = agains.hart_again harts most }

pub count_spells : Spells decimal count_reading (λ n. n < 2 ^ 32)
count_spells = record { back = backs.count_back; again = agains.count_again }

pub hex_spells : Spells hex hex_reading (λ n. n < 2 ^ 64)
hex_spells = record { back = backs.hex_back; again = agains.hex_again }

pub sized_spells : (size : ℕ) → IsAnyOf sizes size → Spells hex (sized size) (λ n. n < 2 ^ (8 * size))
sized_spells size is = record { back = backs.sized_back size; again = agains.sized_again size is }

pub space_spells : Spells decimal space_reading (λ n. n < 16)
space_spells = record { back = backs.space_back; again = agains.space_again }

pub register_spells : Spells decimal register_reading (λ r. (1 ≤ r) × (r < 32))
register_spells = record { back = backs.register_back; again = agains.register_again }

pub word_spells : Spells word_text word_reading (λ w. w < 2 ^ 32)
word_spells = record { back = backs.word_back; again = agains.word_again }

pub byte_spells : Spells byte_text byte_reading (λ b. b < 2 ^ 8)
byte_spells = record { back = backs.byte_back; again = agains.byte_again }

pub preamble_spells : Spells decimal (number_reading preambles) (IsAnyOf preambles)
preamble_spells = record { back = backs.number_back preambles; again = agains.preamble_again }

pub size_spells : Spells decimal (number_reading sizes) (IsAnyOf sizes)
size_spells = record { back = backs.number_back sizes; again = agains.size_again }

-- Words.

pub kind_spells : Spells kind_text kind_reading (λ k. Unit {0})
kind_spells = record { back = backs.kind_back; again = λ k any. agains.kind_again k }

pub cause_spells : Spells cause_text cause_reading (λ c. Unit {0})
cause_spells = record { back = backs.cause_back; again = λ c any. agains.cause_again c }

pub name_spells : Spells (λ (name : List ℕ). name) name_reading IsName
name_spells = record { back = backs.name_back; again = agains.name_again }

-- Fields of parts.

pub path_spells : Spells (joined_by slash) path_reading IsPath
path_spells = record { back = backs.path_back; again = agains.path_again }

pub bytes_spells : Spells (flat_map byte_text) bytes_reading AreFixedBytes
bytes_spells = record { back = backs.bytes_back; again = agains.bytes_again }

pub write_spells : Spells write_text write_reading IsWrite
write_spells = record { back = backs.write_back; again = agains.write_again }

pub access_spells : Spells access_text access_reading IsAccess
access_spells = record { back = backs.access_back; again = agains.access_again }

pub entry_spells : Spells entry_text entry_reading IsEntry
entry_spells = record { back = backs.entry_back; again = agains.entry_again }

pub trap_spells : Spells trap_text trap_reading IsTrap
trap_spells = record { back = backs.trap_back; again = agains.trap_again }

pub trail_spells : Spells trail_text trail_reading (λ trail. (length trail ≤ 4) × AllByRecursion IsEntry trail)
trail_spells = record { back = backs.trail_back; again = agains.trail_again }

-- What may be nothing.

pub optional_spells : {A : Type 0} {text : A → List ℕ} {reading : List ℕ → Option A} {Fits : A → Type 0} → Spells text reading Fits
    → ((a : A) → Fits a → text a ≡ none_text → ⊥) → Spells (or_none text) (optional reading) (λ o. IfSome o Fits)
optional_spells {A} {text} {reading} {Fits} spells something =
    record { back = backs.optional_back text reading Fits spells.back; again = agains.optional_again text reading Fits spells.again something }

pub optional_write_spells : Spells (or_none write_text) (optional write_reading) (λ o. IfSome o IsWrite)
optional_write_spells = optional_spells write_spells agains.write_is_something

pub optional_access_spells : Spells (or_none access_text) (optional access_reading) (λ o. IfSome o IsAccess)
optional_access_spells = optional_spells access_spells agains.access_is_something

pub optional_trap_spells : Spells (or_none trap_text) (optional trap_reading) (λ o. IfSome o IsTrap)
optional_trap_spells = optional_spells trap_spells agains.trap_is_something
