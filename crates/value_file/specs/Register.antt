-- What is known of one register.
use Rattle.std.specs.Prelude.{ℕ, Option, Some, None}
use Rattle.value_file.specs.declared.register.Register.{Register}
use Rattle.value_file.specs.declared.register.Register.TheVariants.{Untouched, Written, Fixed}

-- the starting value, if it was fixed
abbrev pub initial_value : Register → Option ℕ
initial_value Untouched = None
initial_value (Written present) = None
initial_value (Fixed initial present) = Some initial

-- the present value, if there is one
abbrev pub present_value : Register → Option ℕ
present_value Untouched = None
present_value (Written present) = Some present
present_value (Fixed initial present) = Some present
