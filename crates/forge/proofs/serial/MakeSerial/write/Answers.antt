use Rattle.store_face.specs.State.{State}
use Rattle.forge.specs.Words.{MakingSerial}
use Rattle.forge.specs.Stops.{making_seen, files_of, ending_of, IsStoppedWrite, StopsLate}
use Rattle.forge.proofs.Leaving.{stopped_at_order, stopped_at_trace, err_of, err_more}
use Rattle.forge.proofs.serial.MakeSerial.write.Goals as goal

pub returns-in_err-write_output-2-clause-stopped :
    goal.returns-in_err-write_output-2-clause-stopped
returns-in_err-write_output-2-clause-stopped g c =
    let m : MakingSerial = making_seen c.args.self.now in
    let old : State = g.S.Store.state c.args.store.now in
    let new : State = g.S.Store.state c.write_output-2.new.store in
    let stop = c.in_err-write_output-2.field-0.0 in
    err_of (λ s. StopsLate (files_of m c.args.made.now) old new (ending_of s)) c.from_residual-in_err-write_output-2.result stop
    c.from_residual-in_err-write_output-2.ensures.1
    (stopped_at_order m c.args.made.now old (g.S.Store.state c.write_output.new.store) new c.deref.result.now (ending_of stop) c.args.self.now.elf_order
    c.deref.ensures.value c.write_output.ensures.others c.write_output.ensures.counts_up c.in_ok-write_output.ensures.written
    c.write_output-2.ensures.others c.in_err-write_output-2.ensures.stopped)

pub returns-clause-stopped : goal.returns-clause-stopped
returns-clause-stopped g c =
    let m : MakingSerial = making_seen c.args.self.now in
    let second : State = g.S.Store.state c.write_output-2.new.store in
    let third : State = g.S.Store.state c.write_output-3.new.store in
    err_more (λ s. IsStoppedWrite m.trace second third (ending_of s)) (λ s. StopsLate (files_of m c.args.made.now) (g.S.Store.state c.args.store.now) third (ending_of s))
    c.write_output-3.result
    (λ stop. stopped_at_trace m c.args.made.now (g.S.Store.state c.args.store.now) (g.S.Store.state c.write_output.new.store) second third
    c.deref.result.now c.deref-2.result.now (ending_of stop) c.args.self.now.elf_order c.args.self.now.elf_trace c.args.self.now.order_trace
    c.deref.ensures.value c.write_output.ensures.others c.write_output.ensures.counts_up c.in_ok-write_output.ensures.written
    c.deref-2.ensures.value c.write_output-2.ensures.others c.write_output-2.ensures.counts_up c.in_ok-write_output-2.ensures.written
    c.write_output-3.ensures.others)
    c.write_output-3.ensures.stopped
