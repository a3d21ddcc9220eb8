use Rattle.std.proofs.Common.{◌≡◌}
use Rattle.records.specs.Readers.{pending, left_of}
use Rattle.records.specs.Tapes.{tape_of}
use Rattle.records.proofs.tape.tape_fault.Given as goal

abbrev pub invariant-loop-fault : goal.invariant-loop-fault
invariant-loop-fault l = (pending l.reader).fault ≡ (tape_of l.bytes).fault

abbrev pub decreases-loop-fault : goal.decreases-loop-fault
decreases-loop-fault l = left_of l.reader
