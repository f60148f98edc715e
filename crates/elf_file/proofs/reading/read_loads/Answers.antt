use Rattle.std.proofs.Common.{◌+◌, sym, subst, arith}
use Rattle.std.proofs.lemmas.Result.{err_from_is_err_and}
use Rattle.elf_file.proofs.Loads.{ReadSoFar, read_more, read_past, fault_here}
use Rattle.elf_file.proofs.reading.read_loads.Goals as goal
use Rattle.elf_file.proofs.reading.read_loads.Goals.{then-header-eq-LOAD+in_ok-check_segment+in_ok-push, else-header-eq-LOAD}

pub returns-in_err-check_segment-clause-fault : goal.returns-in_err-check_segment-clause-fault
returns-in_err-check_segment-clause-fault c =
    let p = err_from_is_err_and c.from_residual.result c.from_residual.ensures.1 in
    rw (p.1, p.2) (λ _. fault_here c.args.bytes.now c.loop-number.headers.items c.loop-number.number c.header_at-header.result c.header_at-header.ensures
    (omega (arith, c.loop-number-test.true, c.from-number-end.ensures, c.header_count.ensures)) c.loop-number.invariant c.in_err-check_segment.field-0.0 c.if-header-eq-LOAD.true (sym c.in_err-check_segment.ensures.fault))

pub loop-number-preserved : goal.loop-number-preserved
loop-number-preserved c = elim c.if-header-eq-LOAD.branch [
  | then-header-eq-LOAD+in_ok-check_segment+in_ok-push w ↦
      subst (λ hs. ReadSoFar c.args.bytes.now (c.loop-number.number + 1) hs.items) (sym w.headers-is) (
      subst (ReadSoFar c.args.bytes.now (c.loop-number.number + 1)) (sym w.in_ok-push.ensures.items) (
      read_more c.args.bytes.now c.loop-number.headers.items c.loop-number.number c.header_at-header.result c.header_at-header.ensures
      (omega (arith, c.loop-number-test.true, c.from-number-end.ensures, c.header_count.ensures)) c.loop-number.invariant
      w.if-header-eq-LOAD.true (sym w.in_ok-check_segment.ensures.fault) w.in_ok-check_segment.ensures.ram))
  | else-header-eq-LOAD w ↦
      subst (λ hs. ReadSoFar c.args.bytes.now (c.loop-number.number + 1) hs.items) (sym w.headers-is) (
      read_past c.args.bytes.now c.loop-number.headers.items c.loop-number.number c.header_at-header.result c.header_at-header.ensures
      (omega (arith, c.loop-number-test.true, c.from-number-end.ensures, c.header_count.ensures)) c.loop-number.invariant
      w.if-header-eq-LOAD.false)
]
