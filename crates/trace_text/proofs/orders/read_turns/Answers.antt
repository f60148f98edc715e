use Rattle.std.proofs.Common.{◌≡◌, ◌+◌, ◌++◌, length, None, Some, arith, ◌∙◌, sym, ap, subst, replicate}
use Rattle.trace_fields.specs.Fields.{fields_in}
use Rattle.trace_text.specs.Forms.{lines_of_text, fault_from, wrong_in}
use Rattle.trace_text.specs.Orders.{order_form, turns_so_far, number_in, order_tests}
use Rattle.trace_text.specs.Reading.{turns_fault}
use Rattle.trace_fields.specs.Taking.{IsWrongBy, whole_line}
use Rattle.trace_text.proofs.Faults.{stops_here, goes_on}
use Rattle.trace_fields.proofs.Taken.{handed_on}
use Rattle.trace_text.proofs.OrdersTold.{counted}
use Rattle.trace_text.proofs.TurnsRead.{HasTurns, reads_turn}
use Rattle.trace_text.proofs.orders.read_turns.Goals as goal

pub returns-in_err-turns : goal.returns-in_err-turns
returns-in_err-turns c =
    let known = turns_so_far c.args.harts c.loop-first.last (length c.loop-first.order.items) in
    let fields = fields_in c.in-Some.first.now in
    let fault = c.in_err-turns.field-0.0 in
    let steps : c.len.result ≡ length c.loop-first.order.items = c.len.ensures ∙ c.loop-first.order.ok.0 in
    let wrong : IsWrongBy (order_tests known fields) (whole_line c.loop-first.line fields) fault =
    subst (λ n. IsWrongBy (order_tests (turns_so_far c.args.harts c.loop-first.last n) fields) (whole_line c.loop-first.line fields) fault) steps c.in_err-turns.ensures in
    handed_on _ _ c.from_residual.result fault c.from_residual.ensures.1
    (stops_here order_form known c.loop-first.line c.loop-first.rest.now (turns_fault c.args.harts c.args.lines.now) c.loop-first.invariant.fault
    c.in-Some.first.now c.in-Some.behind.now fault c.in-Some.ensures.parts wrong)

pub loop-first-preserved : goal.loop-first-preserved
loop-first-preserved c =
    let before = c.loop-first.invariant in
    let harts = c.args.harts in
    let last = c.loop-first.last in
    let order = c.loop-first.order.items in
    let more = c.append_turns.new.order.items in
    let rest = c.loop-first.rest.now in
    let first = c.in-Some.first.now in
    let behind = c.in-Some.behind.now in
    let fields = fields_in first in
    let hart = c.in_ok-turns.turns.hart in
    let count = c.in_ok-turns.turns.count in
    let steps : c.len.result ≡ length order = c.len.ensures ∙ c.loop-first.order.ok.0 in
    let told = c.in_ok-turns.ensures in
    let right : wrong_in order_form (turns_so_far harts last (length order)) fields ≡ None =
    ap (λ n. wrong_in order_form (turns_so_far harts last n) fields) (sym steps) ∙ told.0 in
    let is : more ≡ order ++ replicate count hart = c.in_ok-append_turns.ensures in
    let longer : length more ≡ length order + count = ap length is ∙ counted order count hart in
    let left : fault_from order_form (turns_so_far harts (Some (number_in fields 0)) (length order + number_in fields 1)) (c.loop-first.line + 1) (lines_of_text behind)
    ≡ turns_fault harts c.args.lines.now =
    goes_on order_form (turns_so_far harts last (length order)) c.loop-first.line rest first behind
    (turns_fault harts c.args.lines.now) before.fault c.in-Some.ensures.parts right in
    let known : turns_so_far harts (Some hart) (length more) ≡ turns_so_far harts (Some (number_in fields 0)) (length order + number_in fields 1) =
    ap (λ h. turns_so_far harts (Some h) (length more)) told.1
    ∙ ap (λ n. turns_so_far harts (Some (number_in fields 0)) n) (longer ∙ ap (λ n. length order + n) told.2) in
    record {
      behind = omega (arith, before.behind);
      within = omega (arith, before.within, c.in-Some.ensures.shorter);
      short = omega (arith, longer, steps, told.6);
      fault = ap (λ k. fault_from order_form k (c.loop-first.line + 1) (lines_of_text behind)) known ∙ left;
      turns = subst (λ order. HasTurns harts (Some hart) order c.args.lines.now behind) (sym is)
          (reads_turn before.turns hart count told.5 told.7 first behind c.in-Some.ensures.parts told.3 told.4);
    }
