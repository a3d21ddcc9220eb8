use Rattle.std.proofs.Common.{arith}
use Rattle.std.proofs.lemmas.Grind.{common_steps}
use Rattle.locking.specs.Locks.{some_says}
use Rattle.locking.proofs.locks.Locks.heard.Goals as goal

pub returns-clause-conflicts : goal.returns-clause-conflicts
unfolding some_says
returns-clause-conflicts g c k =
    let said = c.loop-held.invariant.0 k in
    let others = c.without.ensures k in
    grind (arith, common_steps)

pub returns-clause-signals : goal.returns-clause-signals
unfolding some_says
returns-clause-signals g c k =
    let said = c.loop-held.invariant.1 k in
    let others = c.without-2.ensures k in
    grind (arith, common_steps)
