-- What the readers of orders and traces may answer.
use Rattle.std.specs.Prelude.{◌≡◌, ℕ, ◌+◌, ◌≤◌, List, [], ◌∷◌, ◌++◌, length, codes, Option, Some, None, MatchOption, MatchResult, Result}
use Rattle.std.specs.List.{flat_map, AllByRecursion}
use Rattle.rv_fields.specs.Play.{most_harts}
use Rattle.trace_fields.specs.declared.fault.LineFault.{LineFault}
use Rattle.trace_text.specs.declared.line.Line as code
use Rattle.trace_text.specs.declared.trace_lines.TraceLines.{TraceLines}
use Rattle.trace_fields.specs.Fields.{Place}
use Rattle.trace_fields.specs.Taking.{IsFault}
use Rattle.trace_text.specs.Forms.{fault_from, lines_of_text}
use Rattle.trace_text.specs.Lines.{Line}
use Rattle.trace_text.specs.Orders.{order_form, turns_so_far}
use Rattle.trace_text.specs.Text.{header_text, line_text}
use Rattle.trace_text.specs.Traces.{IsLine, trace_fault, trace_form}
use Rattle.trace_text.specs.Views.{line_seen}

-- the fault of the lines behind the first, where the first tells so many harts
abbrev pub turns_fault : ℕ → List ℕ → Option Place
turns_fault harts lines = fault_from order_form (turns_so_far harts None 0) 2 (lines_of_text lines)

-- What of a trace of so many harts isn't read yet: the number of its first line, and the text from that line on.
pub record Unread : Type 0 where
  pub harts : ℕ
  pub number : ℕ
  pub text : List ℕ

abbrev pub unread : TraceLines → Unread
unread lines = record { harts = lines.harts; number = lines.number; text = lines.rest.now }

-- the first fault of what isn't read
abbrev pub unread_fault : Unread → Option Place
unread_fault u = fault_from trace_form (Some u.harts) u.number (lines_of_text u.text)

-- The first line of a trace is read, which tells the harts, and nothing behind it.
pub record Begins (text : List ℕ) (u : Unread) : Type 0 where
  pub some : 1 ≤ u.harts
  pub most : u.harts ≤ most_harts
  pub number : u.number ≡ 2
  pub text_is : text ≡ header_text (codes "trace") u.harts ++ u.text
  pub fault : unread_fault u ≡ trace_fault text

-- These lines are read, and nothing behind them. They have no fault.
pub record HasRead (lines : List Line) (old new : Unread) : Type 0 where
  pub harts : new.harts ≡ old.harts
  pub are : AllByRecursion (IsLine old.harts) lines
  pub number : new.number ≡ old.number + length lines
  pub text_is : old.text ≡ flat_map line_text lines ++ new.text
  pub fault : unread_fault new ≡ unread_fault old

-- The next line is read, or there is none, or it has the first fault.
abbrev pub ReadsNext : Unread → Unread → Result (Option code.Line) LineFault → Type 0
ReadsNext old new result =
    MatchResult result
    (λ next. MatchOption next (HasRead [] old new × (new.text ≡ [])) (λ line. HasRead (line_seen line ∷ []) old new))
    (λ fault. IsFault (unread_fault old) fault)
