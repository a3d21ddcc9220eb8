use Rattle.std.proofs.Common.{◌≡◌, ℕ, ◌<◌, get_or}
use Rattle.log_store.specs.Log.{log_list}
use Rattle.log_store.proofs.Checkpoints.{copied}
use Rattle.log_store.proofs.writes.checkpoint.Given as goal

abbrev pub invariant-loop-i : goal.invariant-loop-i
invariant-loop-i l = (l.bytes ≡ copied (log_list l.count l.initial.bytes) l.initial.bytes l.i) × ((j : ℕ) → j < l.i → get_or (log_list l.count l.initial.bytes) j 0 < 4294967296)
