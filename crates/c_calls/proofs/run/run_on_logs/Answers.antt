use Rattle.std.proofs.lemmas.Result.{err_from_is_err_and}
use Rattle.c_calls.specs.Policies.{policies_of}
use Rattle.c_calls.specs.Setups.{setup_by}
use Rattle.c_calls.proofs.Logs.{both_sound, unchanged_logs}
use Rattle.c_calls.proofs.Running.{not_made, sound_logs}
use Rattle.c_calls.proofs.run.run_on_logs.Goals as goal

pub run_on_sound_logs-requires : goal.run_on_sound_logs-requires
run_on_sound_logs-requires c =
    let a = c.args in
    let policies = policies_of a.entries.now in
    let sound = both_sound a.cell_count a.cells.now a.right_count a.rights.now (setup_by a.thresholds.now policies) (c.in_ok-check_logs.ensures policies) in
    record { cells = sound.0; rights = sound.1 }

pub returns-in_err-check_logs-clause-runs : goal.returns-in_err-check_logs-clause-runs
returns-in_err-check_logs-clause-runs c =
    let a = c.args in
    let p = err_from_is_err_and c.from_residual.result c.from_residual.ensures.1 in
    rw (p.1, p.2) (not_made _ _ _ _ _ _ (c.in_err-check_logs.ensures (policies_of a.entries.now)) (unchanged_logs a.cell_count a.cells.now a.right_count a.rights.now))

pub returns-clause-cells_sound : goal.returns-clause-cells_sound
returns-clause-cells_sound c =
    let a = c.args in
    let policies = policies_of a.entries.now in
    let sound = both_sound a.cell_count a.cells.now a.right_count a.rights.now (setup_by a.thresholds.now policies) (c.in_ok-check_logs.ensures policies) in
    (sound_logs _ _ _ a.cell_count _ _ a.right_count _ _ _ _ _ _ c.run_on_sound_logs.ensures sound.0 sound.1).0

pub returns-clause-rights_sound : goal.returns-clause-rights_sound
returns-clause-rights_sound c =
    let a = c.args in
    let policies = policies_of a.entries.now in
    let sound = both_sound a.cell_count a.cells.now a.right_count a.rights.now (setup_by a.thresholds.now policies) (c.in_ok-check_logs.ensures policies) in
    (sound_logs _ _ _ a.cell_count _ _ a.right_count _ _ _ _ _ _ c.run_on_sound_logs.ensures sound.0 sound.1).1
