-- What the reader of a line may answer.
use Rattle.std.specs.Prelude.{◌≡◌, ℕ, ◌∷◌, MatchResult, Result}
use Rattle.trace_fields.specs.declared.fields.Fields.{Fields}
use Rattle.trace_fields.specs.declared.fault.LineFault.{LineFault}
use Rattle.trace_text.specs.declared.line.Line as code
use Rattle.trace_fields.specs.Taking.{left, IsWrongBy}
use Rattle.trace_text.specs.Text.{line_fields}
use Rattle.trace_text.specs.Traces.{LineForm, IsLine, tests_behind}
use Rattle.trace_text.specs.Views.{line_seen}

-- Behind its first field, a line of this form and of so many harts was read; or the fault is that of its fields.
abbrev pub ReadsLine : LineForm → ℕ → Fields → Result code.Line LineFault → Type 0
ReadsLine form harts old result =
    MatchResult result
    (λ line. (form.key ∷ (left old).fields ≡ line_fields (line_seen line)) × IsLine harts (line_seen line))
    (λ fault. IsWrongBy (tests_behind harts form.tests) (left old) fault)
