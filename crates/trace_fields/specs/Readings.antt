-- What each field of a trace tells; none where the field isn't as it must be.
use Rattle.std.specs.Prelude.{ℕ, Bool, ◌==◌, nat_le, List, [], ◌∷◌, length, Option, Some, None, option_map, if◌then◌else◌}
use Rattle.std.specs.List.{find, list_any, slice_split}
use Rattle.std.specs.Str.{bytes_eq}
use Rattle.std.specs.Str.Parse.{digits_value}
use Rattle.rv_fields.specs.Attempt.{◌>>=◌}
use Rattle.rv_fields.specs.Name.{is_name, Name}
use Rattle.rv_fields.specs.declared.access.Accessed.{Accessed}
use Rattle.rv_fields.specs.declared.trap.Trap.{Trap}
use Rattle.rv_fields.specs.Effect.{Entry}
use Rattle.trace_fields.specs.Bounds.{count_bound, hex_bound, register_bound, space_bound, trap_bound, most_labels, most_fixed_bytes, most_entries, sized_bound}
use Rattle.trace_fields.specs.declared.request.Kind.{Kind}
use Rattle.trace_fields.specs.declared.request.Kind.TheVariants.{Ins, Mem, Jump, Csr, Sys, Value, Loop, Pick, Set}
use Rattle.trace_fields.specs.declared.request.Cause.{Cause}
use Rattle.trace_fields.specs.declared.request.Cause.TheVariants.{EmptyChoice, BudgetSpent, NoRegister, NoAddress, NoTarget, WindowFull, NoFreePage, NoPlace}
use Rattle.trace_fields.specs.Letters.{access_letters, mode_letters, kind_of_letter, mode_of_letter}
use Rattle.trace_fields.specs.Text.{colon, comma, slash, none_text, kind_text, cause_text}
use Rattle.trace_fields.specs.Numbers.{decimal_below, hex_below, byte_reading}
use Rattle.trace_fields.specs.Fields.{is_decimal}

-- The one of these things whose text the field is.
abbrev pub read_by_text : {A : Type 0} → (A → List ℕ) → List A → List ℕ → Option A
read_by_text text things field = find (λ a. bytes_eq (text a) field) things

abbrev pub all_kinds : List Kind
all_kinds = Ins ∷ Mem ∷ Jump ∷ Csr ∷ Sys ∷ Value ∷ Loop ∷ Pick ∷ Set ∷ []

abbrev pub all_causes : List Cause
all_causes = EmptyChoice ∷ BudgetSpent ∷ NoRegister ∷ NoAddress ∷ NoTarget ∷ WindowFull ∷ NoFreePage ∷ NoPlace ∷ []

abbrev pub kind_reading : List ℕ → Option Kind
kind_reading field = read_by_text kind_text all_kinds field

abbrev pub cause_reading : List ℕ → Option Cause
cause_reading field = read_by_text cause_text all_causes field

-- the sizes of an access, in bytes
abbrev pub sizes : List ℕ
sizes = 1 ∷ 2 ∷ 4 ∷ 8 ∷ []

-- so many words a preamble has
abbrev pub preambles : List ℕ
preambles = 0 ∷ 8 ∷ []

abbrev pub is_any_of : List ℕ → ℕ → Bool
is_any_of numbers n = list_any (λ m. m == n) numbers

-- the field is one of these letters
abbrev pub letter_reading : List ℕ → List ℕ → Option ℕ
letter_reading letters (letter ∷ []) = if is_any_of letters letter then Some letter else None
letter_reading letters field = None

abbrev pub name_reading : List ℕ → Option Name
name_reading field = if is_name field then Some field else None

-- a number that counts something
abbrev pub count_reading : List ℕ → Option ℕ
count_reading field = decimal_below count_bound field

-- the field is one of these numbers
abbrev pub number_reading : List ℕ → List ℕ → Option ℕ
number_reading numbers field = do
  n ← count_reading field
  if is_any_of numbers n then Some n else None

abbrev pub hex_reading : List ℕ → Option ℕ
hex_reading field = hex_below hex_bound field

abbrev pub register_reading : List ℕ → Option ℕ
register_reading field = if is_decimal 1 register_bound field then Some (digits_value 10 field) else None

-- an address space
abbrev pub space_reading : List ℕ → Option ℕ
space_reading field = decimal_below space_bound field

-- the parts of a field, parted by this byte
abbrev pub field_parts : ℕ → List ℕ → List (List ℕ)
field_parts byte field = slice_split (λ b. b == byte) field

-- what all the parts tell, in order
abbrev pub all_of : {A : Type 0} → (List ℕ → Option A) → List (List ℕ) → Option (List A)
all_of reading [] = Some []
all_of reading (part ∷ parts) = do
  a ← reading part
  rest ← all_of reading parts
  Some (a ∷ rest)

-- what all the parts tell, of which there may be so many
abbrev pub at_most : {A : Type 0} → ℕ → (List ℕ → Option A) → List (List ℕ) → Option (List A)
at_most most reading parts = if nat_le (length parts) most then all_of reading parts else None

abbrev pub path_reading : List ℕ → Option (List Name)
path_reading field = at_most most_labels name_reading (field_parts slash field)

-- the digits of each byte
abbrev pub pairs_of : List ℕ → List (List ℕ)
pairs_of [] = []
pairs_of (a ∷ []) = (a ∷ []) ∷ []
pairs_of (a ∷ b ∷ rest) = (a ∷ b ∷ []) ∷ pairs_of rest

-- one byte at least
abbrev pub bytes_reading : List ℕ → Option (List ℕ)
bytes_reading [] = None
bytes_reading field = at_most most_fixed_bytes byte_reading (pairs_of field)

-- a field that may tell that there is nothing
abbrev pub optional : {A : Type 0} → (List ℕ → Option A) → List ℕ → Option (Option A)
optional reading field = if bytes_eq field none_text then Some None else option_map Some (reading field)

abbrev pub write_by_parts : List (List ℕ) → Option (ℕ × ℕ)
write_by_parts (register ∷ value ∷ []) = do
  r ← register_reading register
  v ← hex_reading value
  Some (r, v)
write_by_parts parts = None

-- a number of so many bytes
abbrev pub sized : ℕ → List ℕ → Option ℕ
sized size field = hex_below (sized_bound size) field

abbrev pub access_by_parts : List (List ℕ) → Option Accessed
access_by_parts (kind ∷ va ∷ pa ∷ size ∷ read ∷ wrote ∷ []) = do
  k ← letter_reading access_letters kind
  v ← hex_reading va
  p ← hex_reading pa
  s ← number_reading sizes size
  r ← optional (sized s) read
  w ← optional (sized s) wrote
  Some (record { kind = kind_of_letter k; va = v; pa = p; size = s; read = r; wrote = w })
access_by_parts parts = None

abbrev pub entry_by_parts : List (List ℕ) → Option Entry
entry_by_parts (at ∷ pte ∷ []) = do
  a ← hex_reading at
  p ← hex_reading pte
  Some (record { at = a; pte = p })
entry_by_parts parts = None

abbrev pub trap_by_parts : List (List ℕ) → Option Trap
trap_by_parts (cause ∷ epc ∷ tval ∷ to ∷ []) = do
  c ← decimal_below trap_bound cause
  e ← hex_reading epc
  t ← hex_reading tval
  m ← letter_reading mode_letters to
  Some (record { cause = c; epc = e; tval = t; to = mode_of_letter m })
trap_by_parts parts = None

abbrev pub write_reading : List ℕ → Option (ℕ × ℕ)
write_reading field = write_by_parts (field_parts colon field)

abbrev pub access_reading : List ℕ → Option Accessed
access_reading field = access_by_parts (field_parts colon field)

abbrev pub entry_reading : List ℕ → Option Entry
entry_reading field = entry_by_parts (field_parts colon field)

abbrev pub trap_reading : List ℕ → Option Trap
trap_reading field = trap_by_parts (field_parts colon field)

abbrev pub trail_reading : List ℕ → Option (List Entry)
trail_reading field = if bytes_eq field none_text then Some [] else at_most most_entries entry_reading (field_parts comma field)
