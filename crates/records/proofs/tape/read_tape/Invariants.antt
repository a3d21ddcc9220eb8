use Rattle.std.proofs.Common.{◌≡◌, vec_items}
use Rattle.records.specs.Readers.{pending, left_of}
use Rattle.records.specs.Tapes.{tape_of}
use Rattle.records.proofs.Tapes.{ahead}
use Rattle.records.proofs.tape.read_tape.Given as goal

abbrev pub invariant-loop-request : goal.invariant-loop-request
invariant-loop-request l = ahead (vec_items l.requests) (pending l.reader) ≡ tape_of l.bytes

abbrev pub decreases-loop-request : goal.decreases-loop-request
decreases-loop-request l = left_of l.reader
