-- What is printed of the faults of lines: numbers in decimal.
use Rattle.std.specs.Prelude.{ℕ, List, ◌++◌, codes}
use Rattle.std.specs.Fmt.{decimal}
use Rattle.trace_fields.specs.declared.fault.LineFault.{LineFault}
use Rattle.trace_fields.specs.declared.fault.LineFault.TheVariants.{At, Memory}

abbrev pub line_message : LineFault → List ℕ
line_message (At line field) = codes "line " ++ decimal line ++ codes " field " ++ decimal field
line_message Memory = codes "out of memory"
