-- The eight words that load any value into a register.
use Rattle.rv_encode.specs.Packing.{word_by}
use Rattle.std.specs.Int.{int_div_euclid}
use Rattle.std.specs.Prelude.{List, pos, ℕ, ℤ, ◌^◌, ◌∷◌, ◌-ℤ◌, []}
use Rattle.rv_fields.specs.Immediate.{modulo, signed_of}
use Rattle.rv_fields.specs.declared.row_table.Ins.{Ins}
use Rattle.rv_fields.specs.declared.row_table.Ins.TheVariants.{Addi, Addiw, Lui, Slli}

-- the low 12 bits read with their sign, and what is left above them
abbrev pub low_immediate : ℤ → ℤ
low_immediate z = signed_of (2 ^ 11) (modulo (2 ^ 12) z)

abbrev pub high_part : ℤ → ℤ
high_part z = int_div_euclid (z -ℤ low_immediate z) (pos (2 ^ 12))

abbrev pub li_word : Ins → ℕ → ℕ → ℤ → ℕ
li_word ins register source imm = word_by ins (record { rd = register; rs1 = source; rs2 = 0; imm = imm; aqrl = 0 })

abbrev pub shift_word : ℕ → ℕ
shift_word register = li_word Slli register register (pos 12)

-- lui and addiw, then thrice a shift by 12 bits and an addition
abbrev pub li : ℕ → ℕ → List ℕ
li register value =
    let v = signed_of (2 ^ 63) value in
    let v1 = high_part v in
    let v2 = high_part v1 in
    let v3 = high_part v2 in
    li_word Lui register 0 (v3 -ℤ low_immediate v3)
    ∷ li_word Addiw register register (low_immediate v3)
    ∷ shift_word register ∷ li_word Addi register register (low_immediate v2)
    ∷ shift_word register ∷ li_word Addi register register (low_immediate v1)
    ∷ shift_word register ∷ li_word Addi register register (low_immediate v)
    ∷ []
