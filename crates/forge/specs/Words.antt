-- The words of a command line, and the command that they are.
use Rattle.std.specs.Prelude.{ℕ, ◌*◌, ◌+◌, ◌-◌, ◌^◌, List, [], ◌∷◌, length, codes, Bool, true, false, not, nat_lt, nat_le, ◌==◌, ◌&&◌, Option, Some, None, option_map, if◌then◌else◌}
use Rattle.std.specs.List.{list_all, list_any}
use Rattle.std.specs.Str.{bytes_eq}
use Rattle.rv_fields.specs.Name.{are_different}
use Rattle.rv_fields.specs.Attempt.{◌>>=◌}

-- the files and the seed of make-serial
pub record MakingSerial : Type 0 where
  pub job : List ℕ
  pub trees : List ℕ
  pub seed : ℕ
  pub elf : List ℕ
  pub order : List ℕ
  pub trace : List ℕ

-- the files of replay
pub record Replaying : Type 0 where
  pub elf : List ℕ
  pub order : List ℕ
  pub trace : List ℕ

pub data Command : Type 0 where
  make_serial : MakingSerial → Command
  replay : Replaying → Command

-- the word is an option, which no command takes
abbrev pub is_option : List ℕ → Bool
is_option [] = false
is_option (b ∷ bs) = b == 0x2d

-- the words name different files, and none is an option
abbrev pub are_files : List (List ℕ) → Bool
are_files words = not (list_any is_option words) && are_different words

-- the byte is a decimal digit
abbrev pub is_digit : ℕ → Bool
is_digit b = nat_le 0x30 b && nat_le b 0x39

-- the number that digits spell, the highest first, behind a number
abbrev pub value_behind : ℕ → List ℕ → ℕ
value_behind n [] = n
value_behind n (b ∷ bs) = value_behind (10 * n + (b - 0x30)) bs

-- a seed: one to twenty decimal digits of a value below 2^64
abbrev pub seed_of : List ℕ → Option ℕ
seed_of word =
    if nat_le 1 (length word) && nat_le (length word) 20 && list_all is_digit word && nat_lt (value_behind 0 word) (2 ^ 64)
    then Some (value_behind 0 word) else None

-- JOB TREES SEED ELF ORDER TRACE
abbrev pub making_of : List (List ℕ) → Option MakingSerial
making_of (job ∷ trees ∷ seed_word ∷ elf ∷ order ∷ trace ∷ []) = do
  seed ← seed_of seed_word
  if are_files (job ∷ trees ∷ elf ∷ order ∷ trace ∷ [])
      then Some (record { job = job; trees = trees; seed = seed; elf = elf; order = order; trace = trace })
      else None
making_of words = None

-- ELF ORDER TRACE
abbrev pub replaying_of : List (List ℕ) → Option Replaying
replaying_of (elf ∷ order ∷ trace ∷ []) =
    if are_files (elf ∷ order ∷ trace ∷ []) then Some (record { elf = elf; order = order; trace = trace }) else None
replaying_of words = None

-- the command's name, and what it takes
abbrev pub command_of : List (List ℕ) → Option Command
command_of [] = None
command_of (name ∷ words) =
    if bytes_eq name (codes "make-serial") then option_map make_serial (making_of words)
    else (if bytes_eq name (codes "replay") then option_map replay (replaying_of words) else None)
