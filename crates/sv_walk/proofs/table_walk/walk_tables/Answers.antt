use Rattle.sv_walk.proofs.Walks.{from_root}
use Rattle.sv_walk.specs.Views.{rights_seen, trail_seen, walked_seen}
use Rattle.sv_walk.proofs.table_walk.walk_tables.Goals as goal

pub returns-then-is_canonical-clause-walked : goal.returns-then-is_canonical-clause-walked
returns-then-is_canonical-clause-walked g c =
    from_root (g.M.PteSource.entries c.args.source.now) c.args.satp (rights_seen c.args.rights.now) c.args.access c.args.va
    c.root_of.result (trail_seen c.new.result) (walked_seen c.walk_from.result)
    c.if-is_canonical.ensures c.root_of.ensures.value c.new.ensures.entries c.walk_from.ensures.walked
