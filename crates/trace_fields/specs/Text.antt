-- The text of the fields of a line.
use Rattle.std.specs.Prelude.{ℕ, ◌-◌, List, [], ◌∷◌, ◌++◌, length, replicate, map, codes, false, Option, Some, None}
use Rattle.std.specs.List.{join_with_byte}
use Rattle.std.specs.Char.{encode_utf8}
use Rattle.std.specs.Fmt.{decimal, digits}
use Rattle.rv_fields.specs.declared.access.Accessed.{Accessed}
use Rattle.rv_fields.specs.declared.trap.Trap.{Trap}
use Rattle.rv_fields.specs.Effect.{Entry}
use Rattle.trace_fields.specs.Letters.{letter_of_kind, letter_of_mode}
use Rattle.trace_fields.specs.declared.request.Kind.{Kind}
use Rattle.trace_fields.specs.declared.request.Kind.TheVariants.{Ins, Mem, Jump, Csr, Sys, Value, Loop, Pick, Set}
use Rattle.trace_fields.specs.declared.request.Cause.{Cause}
use Rattle.trace_fields.specs.declared.request.Cause.TheVariants.{EmptyChoice, BudgetSpent, NoRegister, NoAddress, NoTarget, WindowFull, NoFreePage, NoPlace}

-- The bytes that part the fields of a line, the parts of a field, the entries of a list, and the labels of a path.
abbrev pub space_byte : ℕ
space_byte = 0x20

abbrev pub colon : ℕ
colon = 0x3a

abbrev pub comma : ℕ
comma = 0x2c

abbrev pub slash : ℕ
slash = 0x2f

-- the texts, parted by this byte
abbrev pub joined_by : ℕ → List (List ℕ) → List ℕ
joined_by byte texts = join_with_byte byte texts

-- a number in lower-case hexadecimal digits, without leading zeros
abbrev pub hex : ℕ → List ℕ
hex n = digits 16 false n

-- a number in so many hexadecimal digits at least
abbrev pub wide_hex : ℕ → ℕ → List ℕ
wide_hex width n = replicate (width - length (hex n)) 0x30 ++ hex n

abbrev pub word_text : ℕ → List ℕ
word_text word = wide_hex 8 word

abbrev pub byte_text : ℕ → List ℕ
byte_text byte = wide_hex 2 byte

-- a letter, in UTF-8
abbrev pub letter_text : ℕ → List ℕ
letter_text letter = encode_utf8 letter

-- what stands where there is nothing
abbrev pub none_text : List ℕ
none_text = codes "-"

abbrev pub or_none : {A : Type 0} → (A → List ℕ) → Option A → List ℕ
or_none text None = none_text
or_none text (Some a) = text a

-- the name of a request's kind: the key that leads its item in a job
abbrev pub kind_text : Kind → List ℕ
kind_text Ins = codes "ins"
kind_text Mem = codes "mem"
kind_text Jump = codes "jump"
kind_text Csr = codes "csr"
kind_text Sys = codes "sys"
kind_text Value = codes "value"
kind_text Loop = codes "loop"
kind_text Pick = codes "pick"
kind_text Set = codes "set"

-- the name of a cause for which a request is refused
abbrev pub cause_text : Cause → List ℕ
cause_text EmptyChoice = codes "empty-choice"
cause_text BudgetSpent = codes "budget-spent"
cause_text NoRegister = codes "no-register"
cause_text NoAddress = codes "no-address"
cause_text NoTarget = codes "no-target"
cause_text WindowFull = codes "window-full"
cause_text NoFreePage = codes "no-free-page"
cause_text NoPlace = codes "no-place"

-- a register and its new value
abbrev pub write_text : ℕ × ℕ → List ℕ
write_text w = joined_by colon (decimal w.0 ∷ hex w.1 ∷ [])

abbrev pub access_text : Accessed → List ℕ
access_text a =
    joined_by colon (letter_text (letter_of_kind a.kind) ∷ hex a.va ∷ hex a.pa ∷ decimal a.size ∷ or_none hex a.read ∷ or_none hex a.wrote ∷ [])

abbrev pub entry_text : Entry → List ℕ
entry_text e = joined_by colon (hex e.at ∷ hex e.pte ∷ [])

abbrev pub trail_text : List Entry → List ℕ
trail_text [] = none_text
trail_text (e ∷ es) = joined_by comma (map entry_text (e ∷ es))

abbrev pub trap_text : Trap → List ℕ
trap_text t = joined_by colon (decimal t.cause ∷ hex t.epc ∷ hex t.tval ∷ letter_text (letter_of_mode t.to) ∷ [])
