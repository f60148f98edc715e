use Rattle.std.proofs.Common.{map, string_bytes}
use Rattle.forge.proofs.Ending.{ends, ends_told}
use Rattle.forge.proofs.top.plain_top.Goals as goal

pub returns-in-Ok : goal.returns-in-Ok
returns-in-Ok g c =
    let well = c.in-Ok.ensures in
    ends (map string_bytes c.args.words.now) (g.S.Store.state c.args.store.now) (g.S.Store.state c.run.new.store) well.0 c.in-Ok.status c.run.new.out.items well.1 well.2

pub returns-in-Err : goal.returns-in-Err
returns-in-Err g c =
    ends_told (map string_bytes c.args.words.now) (g.S.Store.state c.args.store.now) (g.S.Store.state c.run.new.store) c.in-Err.stop c.tell.result
    c.tell.new.out.items c.in-Err.ensures c.tell.ensures
