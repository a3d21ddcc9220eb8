use Rattle.std.proofs.Common.{◌∙◌, sym}
use Rattle.std.proofs.lemmas.Result.{err_from_is_err_and}
use Rattle.c_calls.proofs.Logs.{log_decides, stays_refused}
use Rattle.c_calls.proofs.check.check_logs.Goals as goal

pub returns-in_err-check : goal.returns-in_err-check
returns-in_err-check c = λ policies.
    let p = err_from_is_err_and c.from_residual-in_err-check.result c.from_residual-in_err-check.ensures.1 in
    let refused = c.in_err-check.ensures ∙ sym (log_decides c.args.cell_count c.args.cells.now _ (c.in_ok-check_thresholds.ensures policies)) in
    rw (p.1, p.2) (stays_refused c.args.right_count c.args.rights.now _ _ refused)

pub returns : goal.returns
returns c = λ policies.
    let passed = c.in_ok-check.ensures ∙ sym (log_decides c.args.cell_count c.args.cells.now _ (c.in_ok-check_thresholds.ensures policies)) in
    c.check-2.ensures ∙ sym (log_decides c.args.right_count c.args.rights.now _ passed)
