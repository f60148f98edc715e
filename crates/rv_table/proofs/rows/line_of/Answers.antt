use Rattle.rv_table.proofs.OneTable.{entry_is}
use Rattle.rv_table.proofs.rows.line_of.Goals as goal

pub returns : goal.returns
returns c = entry_is c.entries.result.now c.args.ins c.entry_at.result c.entries.ensures c.entry_at.ensures
