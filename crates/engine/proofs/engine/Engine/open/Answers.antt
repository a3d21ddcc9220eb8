use Rattle.std.proofs.Common.{sym, refl, ap, subst, rules}
use Rattle.serial.specs.Model.{perform}
use Rattle.engine.specs.Owning.{OwnCells}
use Rattle.engine.specs.Tables.{table_state}
use Rattle.engine.specs.Engines.{store_of}
use Rattle.engine.proofs.Owning.{own_opened}
use Rattle.engine.proofs.Writing.{wrote_none}
use Rattle.engine.proofs.engine.Engine.open.Goals as goal

pub invariant_of-self-clause-own_cells : goal.invariant_of-self-clause-own_cells
invariant_of-self-clause-own_cells g c =
    let e = c.args.self.now in
    let s = store_of g.C.Store g.R.Store e in
    subst (OwnCells e.size) (sym (ap (λ z. z.1.slots) (c.open.ensures s))) (own_opened e.size (table_state s e.tables) c.args.subject _ _ e.own_cells)

pub returns : goal.returns
unfolding perform
returns g c = record { answered = c.open.ensures _; same_setup = refl; keeps_stores = search rules; writes = wrote_none g.C.Store g.R.Store _ _ }
