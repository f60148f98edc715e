-- The letters of the kinds of accesses and of modes.
use Rattle.std.specs.Prelude.{ℕ, ◌==◌, List, [], ◌∷◌, map}
use Rattle.std.specs.List.{find}
use Rattle.std.specs.Option.{unwrap_or}
use Rattle.rv_fields.specs.declared.access.AccessKind.{AccessKind}
use Rattle.rv_fields.specs.declared.access.AccessKind.TheVariants.{Load, Store, Lr, Sc, Amo}
use Rattle.rv_fields.specs.declared.mode.Mode.{Mode}
use Rattle.rv_fields.specs.declared.mode.Mode.TheVariants.{U, S, M}

-- `l`, `s`, `r`, `c` and `a`
abbrev pub letter_of_kind : AccessKind → ℕ
letter_of_kind Load = 0x6c
letter_of_kind Store = 0x73
letter_of_kind Lr = 0x72
letter_of_kind Sc = 0x63
letter_of_kind Amo = 0x61

-- `U`, `S` and `M`
abbrev pub letter_of_mode : Mode → ℕ
letter_of_mode U = 0x55
letter_of_mode S = 0x53
letter_of_mode M = 0x4d

abbrev pub access_kinds : List AccessKind
access_kinds = Load ∷ Store ∷ Lr ∷ Sc ∷ Amo ∷ []

-- the modes that handle traps
abbrev pub trap_modes : List Mode
trap_modes = M ∷ S ∷ []

abbrev pub access_letters : List ℕ
access_letters = map letter_of_kind access_kinds

abbrev pub mode_letters : List ℕ
mode_letters = map letter_of_mode trap_modes

-- The kind and the mode whose letter this is. What isn't one of these letters never stands for a kind or a mode.
abbrev pub kind_of_letter : ℕ → AccessKind
kind_of_letter letter = unwrap_or (find (λ kind. letter_of_kind kind == letter) access_kinds) Amo

abbrev pub mode_of_letter : ℕ → Mode
mode_of_letter letter = unwrap_or (find (λ mode. letter_of_mode mode == letter) trap_modes) S
