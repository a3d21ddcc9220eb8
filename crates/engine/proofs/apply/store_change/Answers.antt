use Rattle.engine.proofs.Writing.{wrote_cell, wrote_right}
use Rattle.engine.proofs.apply.store_change.Goals as goal

pub returns-in-OfCell-clause-writes : goal.returns-in-OfCell-clause-writes
returns-in-OfCell-clause-writes g c = wrote_cell g.C.Store g.R.Store _ _ _ c.args.change _ c.in-OfCell.is c.write.ensures.itself

pub returns-in-OfPolicy-clause-writes : goal.returns-in-OfPolicy-clause-writes
returns-in-OfPolicy-clause-writes g c = wrote_right g.C.Store g.R.Store _ _ _ c.args.change _ c.in-OfPolicy.is c.write-in-OfPolicy.ensures.itself
