-- What an instruction word can hold of the operands that it is given.
use Rattle.std.specs.Prelude.{ℕ, ◌^◌, ℤ, pos, negsuc, List, [], ◌∷◌, Bool, false, not, ◌==◌, nat_lt, Option, option_map, find, if◌then◌else◌}
use Rattle.rv_fields.specs.declared.row_table.Form.{Form}
use Rattle.rv_fields.specs.declared.row_table.Form.TheVariants.{U, J, I, B, S, H6, H5, C, K}
use Rattle.rv_fields.specs.declared.row_table.Ops.{Ops}
use Rattle.rv_fields.specs.Decode.{has_rd, has_rs1, has_rs2, has_aqrl}
use Rattle.rv_fields.specs.Immediate.{fits_i, fits_b, fits_u, fits_j}
use Rattle.rv_encode.specs.declared.field.Field.{Field}
use Rattle.rv_encode.specs.declared.field.Field.TheVariants.{Rd, Rs1, Rs2, Imm, AqRl}
use Rattle.rv_encode.specs.declared.field.OutOfField.{OutOfField}

-- the fields in the order in which a misfit is told
abbrev pub all_fields : List Field
all_fields = Rd ∷ Rs1 ∷ Rs2 ∷ Imm ∷ AqRl ∷ []

-- the value that the operands have for a field
abbrev pub value_in : Ops → Field → ℤ
value_in ops Rd = pos ops.rd
value_in ops Rs1 = pos ops.rs1
value_in ops Rs2 = pos ops.rs2
value_in ops Imm = ops.imm
value_in ops AqRl = pos ops.aqrl

-- a number below the bound in a field that the form has, and 0 in one that it lacks
abbrev pub fits_field : Bool → ℕ → ℕ → Bool
fits_field has bound n = if has then nat_lt n bound else (n == 0)

-- 0 or more, and below the bound
abbrev pub is_below : ℕ → ℤ → Bool
is_below bound (pos n) = nat_lt n bound
is_below bound (negsuc n) = false

-- The immediate that a form can hold: a number with its sign, a shift amount, the number of a CSR, and 0
-- where the form has none.
abbrev pub fits_imm : Form → ℤ → Bool
fits_imm U z = fits_u z
fits_imm J z = fits_j z
fits_imm I z = fits_i z
fits_imm B z = fits_b z
fits_imm S z = fits_i z
fits_imm H6 z = is_below 64 z
fits_imm H5 z = is_below 32 z
fits_imm C z = is_below (2 ^ 12) z
fits_imm K z = is_below (2 ^ 12) z
fits_imm _ z = is_below 1 z

-- The form holds what the operands have for the field: a register below 32, an immediate that fits, two
-- ordering bits, and 0 in a field that the form lacks.
abbrev pub fits : Form → Ops → Field → Bool
fits form ops Rd = fits_field (has_rd form) 32 ops.rd
fits form ops Rs1 = fits_field (has_rs1 form) 32 ops.rs1
fits form ops Rs2 = fits_field (has_rs2 form) 32 ops.rs2
fits form ops Imm = fits_imm form ops.imm
fits form ops AqRl = fits_field (has_aqrl form) 4 ops.aqrl

-- the first field that the form can't hold, with its value
abbrev pub misfit : Form → Ops → Option OutOfField
misfit form ops = option_map (λ f. record { field = f; value = value_in ops f }) (find (λ f. not (fits form ops f)) all_fields)
