use Rattle.std.proofs.Common.{refl, rules}
use Rattle.engine.proofs.Owning.{own_freed}
use Rattle.engine.proofs.Writing.{wrote_none}
use Rattle.engine.proofs.engine.Engine.end.Goals as goal

pub invariant_of-self-clause-own_cells : goal.invariant_of-self-clause-own_cells
invariant_of-self-clause-own_cells g c =
    let e = c.args.self.now in
    own_freed e.size e.tables c.end.new.self c.args.slot.at c.end.ensures.slots e.own_cells

pub returns : goal.returns
returns g c = λ t named.
    let ends = c.end.ensures.ends t named in
    record { answered = rw (ends, c.end.ensures.counts) refl; same_setup = refl; keeps_stores = search rules; writes = wrote_none g.C.Store g.R.Store _ _ }
