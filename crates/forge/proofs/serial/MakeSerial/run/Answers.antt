use Rattle.forge.specs.Ends.{Causes}
use Rattle.forge.specs.Stops.{making_seen, serial_seen, files_of}
use Rattle.forge.proofs.Ending.{ends_stopped, ends_whole, handed_on}
use Rattle.forge.proofs.serial.MakeSerial.run.Goals as goal

pub returns-in_err-write : goal.returns-in_err-write
returns-in_err-write g c =
    handed_on (Causes (serial_seen c.args.self.now) (g.S.Store.state c.args.store.now) (g.S.Store.state c.write.new.store)) c.from_residual-in_err-write.result c.in_err-write.field-0.0
    c.write_line.new.out.items c.from_residual-in_err-write.ensures.1
    (ends_stopped (serial_seen c.args.self.now) (g.S.Store.state c.args.store.now) (g.S.Store.state c.make.new.store) (g.S.Store.state c.write.new.store)
    (files_of (making_seen c.args.self.now) c.in_ok-made.made) c.in_ok-made.made.counts c.in_err-write.field-0.0 c.make.ensures.unchanged c.in_ok-made.ensures.made c.in_err-write.ensures.stopped)

pub returns : goal.returns
returns g c =
    ends_whole (serial_seen c.args.self.now) (g.S.Store.state c.args.store.now) (g.S.Store.state c.make.new.store)
    (g.S.Store.state c.write.new.store) (files_of (making_seen c.args.self.now) c.in_ok-made.made) c.in_ok-made.made.counts c.status.result
    c.write_line.new.out.items c.make.ensures.unchanged c.in_ok-made.ensures.made c.in_ok-write_line.ensures.text c.in_ok-write.ensures.written c.status.ensures
