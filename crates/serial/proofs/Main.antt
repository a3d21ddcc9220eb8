-- The theorem about a whole day, from its parts.
use Rattle.serial.specs.Day.{DayIsSerial}
use Rattle.serial.proofs.Kept.{run_holds}
use Rattle.serial.proofs.Parts.{open_replays, strikes_deployers, counts_struck, never_commits, no_deploy, nothing_else}

pub day_is_serial : DayIsSerial
day_is_serial S laws σ₀ adm = record {
  serial_executor_grants = λ run. (run_holds S laws σ₀ adm run).grants;
  serial_executor_ends_equal = λ run. (run_holds S laws σ₀ adm run).ends;
  open_transactions_replay = open_replays S laws σ₀ adm;
  restriction_strikes_deployers = strikes_deployers S laws σ₀ adm;
  restriction_counts_struck = counts_struck S laws σ₀ adm;
  struck_never_commit = never_commits S laws σ₀ adm;
  no_deploy_while_restricting = no_deploy S laws σ₀ adm;
  nothing_else_strikes = nothing_else S laws σ₀ adm;
}
