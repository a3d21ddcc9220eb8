use Rattle.std.proofs.Common.{◌≡◌}
use Rattle.log_store.proofs.Checkpoints.{copied}
use Rattle.log_store.proofs.writes.format.Given as goal

abbrev pub invariant-loop-i : goal.invariant-loop-i
invariant-loop-i l = l.bytes ≡ copied l.numbers l.initial.bytes l.i
