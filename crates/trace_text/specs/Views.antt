-- The lines that the types of this crate hold.
use Rattle.std.specs.Prelude.{List, map, Some}
use Rattle.rv_fields.specs.Effect.{Effect}
use Rattle.trace_text.specs.declared.line.StepLine.{StepLine}
use Rattle.trace_text.specs.declared.line.Line as code
use Rattle.trace_text.specs.declared.line.Line.TheVariants.{Q, P, W, X, G, M, Y, S, F, E, D, R}
use Rattle.trace_text.specs.Lines.{Line, request, picked, weighed, fixed, given, settled, touched, made, found, ending, done, refused}

abbrev pub step_seen : StepLine → Effect
step_seen s = record {
  hart = s.hart;
  pc = s.pc;
  pa = Some s.pa;
  word = Some s.word;
  rd = s.rd;
  access = s.access;
  trail = s.trail;
  trap = s.trap;
}

abbrev pub line_seen : code.Line → Line
line_seen (Q hart k kind) = request hart k kind
line_seen (P hart tree leaf drawn) = picked hart tree leaf drawn
line_seen (W hart tree path weight) = weighed hart tree path.items weight
line_seen (X hart register value) = fixed hart register value
line_seen (G hart object page frame) = given hart object page frame
line_seen (M hart space at pte) = settled hart space (record { at = at; pte = pte })
line_seen (Y hart at bytes) = touched hart at bytes.items
line_seen (S step) = made (step_seen step)
line_seen (F step) = found (step_seen step)
line_seen (E step) = ending (step_seen step)
line_seen (D hart k) = done hart k
line_seen (R hart k cause preamble) = refused hart k cause preamble

abbrev pub lines_seen : List code.Line → List Line
lines_seen lines = map line_seen lines
