use Rattle.std.proofs.Common.{◌≡◌, take, drop}
use Rattle.engine.specs.Engines.{Works}
use Rattle.engine.proofs.engine.Engine.work.Given as goal

abbrev pub invariant-loop-at : goal.invariant-loop-at
invariant-loop-at g l =
    Works g.C.Store g.R.Store g.O.RightsOrder l.initial.self (take l.at l.requests) (take l.at l.answers) l.self
    × (drop l.at l.answers ≡ drop l.at l.initial.answers)
