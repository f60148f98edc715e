-- What the types of this crate are in the definitions of the machine.
use Rattle.rv_fields.specs.Field as machine
use Rattle.rv_fields.specs.Trap as traps
use Rattle.rv_csr.specs.declared.field.Field.{Field}
use Rattle.rv_csr.specs.declared.stack.Stack.{Stack}

abbrev pub field_seen : Field → machine.Field
field_seen field = record { low = field.low; width = field.width }

abbrev pub stack_seen : Stack → traps.Stack
stack_seen stack = record {
  enable = field_seen stack.enable;
  enable_before = field_seen stack.enable_before;
  mode_before = field_seen stack.mode_before;
}
