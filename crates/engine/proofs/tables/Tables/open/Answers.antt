use Rattle.lock_table.specs.Held.{held}
use Rattle.engine.proofs.tables.Tables.open.Goals as goal

pub invariant_of-self : goal.invariant_of-self
invariant_of-self c = let e = c.args.self.now in record { idle = c.open.ensures.idle (held e.locks) e.idle }

pub returns : goal.returns
returns c s = let e = c.args.self.now in c.open.ensures.model s (held e.locks) e.idle
