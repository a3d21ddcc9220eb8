use Rattle.std.proofs.Common.{◌≡◌, take, drop}
use Rattle.workspace.specs.Workspaces.{changes_of}
use Rattle.serial.specs.Changes.{apply}
use Rattle.engine.specs.Stores.{lists_of, Lent, Wrote}
use Rattle.engine.proofs.apply.store_all.Given as goal

abbrev pub invariant-loop-change : goal.invariant-loop-change
invariant-loop-change g l =
    (apply (drop l.change-index (changes_of l.work)) (lists_of g.C.Store g.R.Store l.cells l.rights) ≡ apply (changes_of l.work) (lists_of g.C.Store g.R.Store l.initial.cells l.initial.rights))
    × Lent g.C.Store g.R.Store l.initial.cells l.initial.rights l.cells l.rights
    × Wrote g.C.Store g.R.Store l.initial.cells l.initial.rights l.cells l.rights (take l.change-index (changes_of l.work))
