use Rattle.std.proofs.Common.{ℕ, suc, ◌-◌, ap, sym, ◌∙◌}
use Rattle.rv_fields.specs.Sv39.{walk_from}
use Rattle.sv_walk.proofs.Walks.{Leads, walked_below, needs_below, in_unknown}
use Rattle.sv_walk.specs.Needs.{Needs}
use Rattle.sv_walk.specs.Views.{rights_seen, trail_seen, walked_seen}
use Rattle.sv_walk.proofs.table_walk.+walk_from.Given.{Over}
use Rattle.sv_walk.proofs.table_walk.+walk_from.Goals as goal

leads : (g : Over) (t : ℕ) (c : goal.After-walk_from g t)
    → Leads c.args.access (rights_seen c.args.rights.now) c.args.va c.args.level c.args.table (g.M.PteSource.entries c.args.source.now) c.in-Value.pte c.in-Table.below
leads g t c = record {
  is_told = ap (g.M.PteSource.entries c.args.source.now) (sym c.entry_at-at.ensures) ∙ sym c.in-Value.ensures;
  has_below = c.in-Table.ensures.below.0;
  next = c.in-Table.ensures.next;
}

pub returns-in-Table-clause-walked : goal.returns-in-Table-clause-walked
returns-in-Table-clause-walked g t c =
    let entries = g.M.PteSource.entries c.args.source.now in
    let rights = rights_seen c.args.rights.now in
    walked_below c.args.access rights c.args.va c.args.level c.args.table entries c.in-Value.pte c.in-Table.below (leads g t c)
    (trail_seen c.args.before) (trail_seen c.with-trail.result) c.entry_at-at.result (walked_seen c.walk_from.result)
    c.entry_at-at.ensures c.with-trail.ensures.entries c.walk_from.ensures.walked

pub returns-in-Table-clause-unknown : goal.returns-in-Table-clause-unknown
returns-in-Table-clause-unknown g t c =
    let entries = g.M.PteSource.entries c.args.source.now in
    let rights = rights_seen c.args.rights.now in
    in_unknown
    (Needs (λ e. walk_from e c.args.access rights c.args.va (suc (c.args.level - 1)) c.in-Table.below) entries c.args.va)
    (Needs (λ e. walk_from e c.args.access rights c.args.va (suc c.args.level) c.args.table) entries c.args.va)
    c.walk_from.result
    (needs_below c.args.access rights c.args.va c.args.level c.args.table entries c.in-Value.pte c.in-Table.below (leads g t c))
    c.walk_from.ensures.unknown
