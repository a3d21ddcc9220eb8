use Rattle.lines.proofs.FromEnd.{FromEnd}
use Rattle.lines.proofs.line.write_line.Given as goal

abbrev pub invariant-loop-number : goal.invariant-loop-number
invariant-loop-number l = FromEnd l.numbers l.fn.buffer l.len l.number-iterator.iter.rest.now l.start l.buffer
