use Rattle.lock_table.specs.Held.{held}
use Rattle.engine.proofs.tables.Tables.find.Goals as goal

pub returns : goal.returns
returns c = c.find.ensures (held c.args.self.now.locks)
