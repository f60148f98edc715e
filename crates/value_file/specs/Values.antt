-- The registers of a hart, as far as events have touched them.
use Rattle.std.specs.Prelude.{ℕ, Option, slice_get, option_and_then}
use Rattle.value_file.specs.declared.file.ValueFile.{ValueFile}
use Rattle.value_file.specs.Register.{initial_value, present_value}

-- the starting value of each register that was fixed
abbrev pub initial_of : ValueFile → ℕ → Option ℕ
initial_of file r = option_and_then initial_value (slice_get file.registers r)

-- the present value of each register that has one; the others are untouched
abbrev pub present_of : ValueFile → ℕ → Option ℕ
present_of file r = option_and_then present_value (slice_get file.registers r)
