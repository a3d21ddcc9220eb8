use Rattle.lines.proofs.Written.{Written}
use Rattle.lines.proofs.lines.write_lines.Given as goal

abbrev pub invariant-loop-answer : goal.invariant-loop-answer
invariant-loop-answer l = Written l.answers l.initial.buffer l.answer-index l.end l.buffer
