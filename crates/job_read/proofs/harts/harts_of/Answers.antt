-- One hart more is read.
use Rattle.std.proofs.Common.{Some, Err, ◌∙◌, ap, length-append, rules, sym, arith}
use Rattle.std.proofs.lemmas.Result.{err_from_is_err_and}
use Rattle.job_read.proofs.Each.{hart_more, harts_all, no_harts, with_templates}
use Rattle.job_read.proofs.harts.harts_of.Goals as goal

pub loop-value-preserved : goal.loop-value-preserved
loop-value-preserved c = record {
  same = simp (c.in_ok-push.ensures.items, c.in_ok-push-2.ensures.items, length-append) (omega (arith, c.loop-value.invariant.same));
  read = hart_more c.args.values.now c.loop-value.value-index _ _ _ _ c.value-item.result c.in_ok-hart.hart c.in_ok-hart.template _ c.loop-value-test.true
      (search rules) (search rules) c.in_ok-push.ensures.items c.in_ok-push-2.ensures.items c.loop-value.invariant.same c.loop-value.invariant.read;
}

pub returns-in_err-hart : goal.returns-in_err-hart
returns-in_err-hart c =
    let p = err_from_is_err_and c.from_residual-in_err-hart.result c.from_residual-in_err-hart.ensures.1 in
    no_harts c.args.values.now c.loop-value.value-index c.value-item.result _ c.in_err-hart.field-0.0 _ c.loop-value-test.true
    (search rules) c.in_err-hart.ensures c.loop-value.invariant.read (p.1 ∙ ap Err p.2)

pub returns : goal.returns
returns c =
    harts_all c.args.values.now c.loop-value.value-index c.loop-value.harts.items c.loop-value.templates.items c.loop-value-test.false c.loop-value.invariant.read
    ∙ sym (ap (λ w. Some w.harts) c.new-2.ensures.work ∙ ap (λ h. Some (with_templates h.items c.loop-value.templates.items)) c.new.ensures)
