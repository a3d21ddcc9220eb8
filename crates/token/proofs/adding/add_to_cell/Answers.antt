use Rattle.std.proofs.lemmas.Result.{err_from_is_err_and}
use Rattle.engine.specs.Engines.{Writes}
use Rattle.token.proofs.Sums.{wrote_after, refused, committed, given_up}
use Rattle.token.proofs.adding.add_to_cell.Goals as goal

pub returns-in_err-token-clause-added : goal.returns-in_err-token-clause-added
returns-in_err-token-clause-added g c =
    let p = err_from_is_err_and c.from_residual.result c.from_residual.ensures.1 in
    let opened = c.in_err-token.ensures in
    rw (p.1, p.2) (refused _ _ _ c.args.policy c.args.cell c.args.amount (Writes g.C.Store g.R.Store c.args.engine.now c.open.new.engine) _ _ opened.answered opened.writes)

pub returns-in-Granted-clause-added : goal.returns-in-Granted-clause-added
returns-in-Granted-clause-added g c =
    let opened = c.in_ok-token.ensures in
    let went = c.add-added.ensures in
    let last = c.commit.ensures in
    committed _ _ _ _ _ _ (Writes g.C.Store g.R.Store c.args.engine.now c.commit.new.engine) _ _ _ _ _ _ _ _ opened.answered went.answered opened.same_setup went.same_setup
    c.in-Granted.field-0 c.in-Granted.is last.answered
    (wrote_after opened.writes (wrote_after went.writes last.writes))

pub returns-clause-added : goal.returns-clause-added
returns-clause-added g c =
    let opened = c.in_ok-token.ensures in
    let went = c.add-added.ensures in
    let last = c.give_up.ensures in
    given_up _ _ _ _ _ _ (Writes g.C.Store g.R.Store c.args.engine.now c.give_up.new.engine) _ _ _ _ _ _ _ _ opened.answered went.answered opened.same_setup went.same_setup
    c.in_default.not-Granted last.answered
    (wrote_after opened.writes (wrote_after went.writes last.writes))
