use Rattle.std.proofs.Common.{◌+◌, ◌*◌, ◌/◌, ◌≤◌, length}
use Rattle.records.specs.Readers.{pending, left_of}
use Rattle.tape.proofs.Runs.{SoFar}
use Rattle.tape.proofs.run.run_records.Given as goal

-- There is room for the lines of what is left, within what there was at first.
abbrev pub invariant-loop-next : goal.invariant-loop-next
invariant-loop-next g l =
    SoFar g.C.Store g.R.Store g.O.RightsOrder l.fn.engine (pending l.fn.reader) l.fn.buffer l.engine (pending l.reader) l.buffer l.end
    × (l.end + (14 * (left_of l.reader / 5) + 28) ≤ length l.fn.buffer)
    × (l.end + (14 * (left_of l.reader / 5) + 28) ≤ 14 * (left_of l.fn.reader / 5) + 28)

abbrev pub decreases-loop-next : goal.decreases-loop-next
decreases-loop-next g l = left_of l.reader
