use Rattle.std.proofs.Common.{rules}
use Rattle.std.proofs.lemmas.Result.{err_from_is_err_and}
use Rattle.protocol.specs.declared.refusal.Refusal.TheVariants.{BadThreshold}
use Rattle.engine.proofs.Writing.{wrote_none}
use Rattle.c_calls.proofs.Running.{not_made}
use Rattle.c_calls.proofs.run.run_by.Goals as goal

pub returns-in_err-order-in-len3-clause-runs : goal.returns-in_err-order-in-len3-clause-runs
returns-in_err-order-in-len3-clause-runs g c =
    let p = err_from_is_err_and c.from_residual.result c.from_residual.ensures.1 in
    rw (p.1, p.2) (not_made _ _ _ _ _ _ (search rules) (wrote_none g.C.Store g.R.Store _ _))

pub returns-in_default-clause-runs : goal.returns-in_default-clause-runs
returns-in_default-clause-runs g c = not_made _ _ _ _ _ BadThreshold (search rules) (wrote_none g.C.Store g.R.Store _ _)

pub returns-in_default-2-clause-runs : goal.returns-in_default-2-clause-runs
returns-in_default-2-clause-runs g c = not_made _ _ _ _ _ BadThreshold (search rules) (wrote_none g.C.Store g.R.Store _ _)
