use Rattle.std.proofs.Common.{List, ℕ, ◌∙◌, ◌++◌, ap}
use Rattle.std.specs.Prelude.{codes}
use Rattle.trace_text.specs.Text.{header_fields, header_text}
use Rattle.trace_text.proofs.Unread.{ended_text}
use Rattle.trace_text.proofs.orders.read_lines.Goals as goal

pub returns : goal.returns
returns c =
    let harts = c.in_ok-harts.harts in
    let header = c.in_ok-harts.ensures in
    let order = c.in_ok-order.ensures in (
      record { some = header.3; most = header.4; named = order.0; short = order.1 },
      ended_text (header_fields (codes "order") harts) c.args.bytes.now c.in-Some.first.now c.in-Some.behind.now c.in-Some.ensures.parts header.2
          ∙ ap (λ (l : List ℕ). header_text (codes "order") harts ++ l) order.2,
    )
