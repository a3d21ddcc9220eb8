use Rattle.std.proofs.Common.{◌≡◌, ◌+◌, length, drop}
use Rattle.lines.specs.Lines.{answer_lines}
use Rattle.lines.proofs.lines.lines_fit.Given as goal

-- What is left of the room, and the lines so far, are the room.
abbrev pub invariant-loop-answer : goal.invariant-loop-answer
invariant-loop-answer l = l.room + length (answer_lines (drop l.answer-index l.answers)) ≡ l.left + length (answer_lines l.answers)
