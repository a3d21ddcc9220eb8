use Rattle.std.proofs.Common.{◌∙◌}
use Rattle.c_calls.proofs.Logs.{nothing_into_logs}
use Rattle.c_calls.proofs.Refusing.{untouched_by}
use Rattle.c_calls.proofs.calls.run_tape_on_logs.Goals as goal

pub returns-clause-untouched : goal.returns-clause-untouched
returns-clause-untouched c =
    let a = c.args in
    let number = c.told.ensures.number in
    λ some.
    let stays = untouched_by _ _ _ _ _ _ _ c.run_on_logs-ran.result c.run_on_logs-ran.ensures.runs (λ e. some (number ∙ e)) in
    let logs = nothing_into_logs a.cell_count _ _ a.right_count _ _ stays.1 in
    (logs.0, logs.1, stays.2)
