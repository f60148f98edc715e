-- The trace and the order of the first example, as bytes.
use Rattle.std.proofs.Common.{◌≡◌, List, [], ◌∷◌, refl, Some, None}
use Rattle.std.specs.Prelude.{codes, replicate}
use Rattle.std.specs.Fmt.{digits}
use Rattle.rv_fields.specs.Effect.{Effect}
use Rattle.trace_fields.specs.declared.request.Kind.TheVariants.{Ins}
use Rattle.trace_text.specs.Lines.{Line, request, made, ending, done}
use Rattle.trace_text.specs.Text.{trace_text, order_text}

abbrev first_step : Effect
first_step = record {
  hart = 0;
  pc = 0x84000000;
  pa = Some 0x84000000;
  word = Some 0x00500093;
  rd = Some (1, 5);
  access = None;
  trail = [];
  trap = None;
}

abbrev last_step : Effect
last_step = record {
  hart = 0;
  pc = 0x84000004;
  pa = Some 0x84000004;
  word = Some 0x0000006f;
  rd = None;
  access = None;
  trail = [];
  trap = None;
}

abbrev example : List Line
example = request 0 0 Ins ∷ made first_step ∷ done 0 0 ∷ ending last_step ∷ []

pub trace_of_example : trace_text 1 example ≡ codes "trace 1 1\nq 0 0 ins\ns 0 84000000 84000000 00500093 1:5 - - -\nd 0 0\ne 0 84000004 84000004 0000006f - - - -\n"
unfolding digits
trace_of_example = refl

pub order_of_example : order_text 1 (replicate 72 0) ≡ codes "order 1 1\n0 72\n"
unfolding digits
order_of_example = refl
