use Rattle.std.proofs.Common.{length}
use Rattle.std.proofs.lemmas.Iterator.{YieldsList}
use Rattle.setup_file.proofs.Lines.{lines, LinesChecked}
use Rattle.setup_file.proofs.read.outline_of.Given as goal

-- The iterator gives the lines, and those so far can be read.
abbrev pub invariant-loop-line : goal.invariant-loop-line
invariant-loop-line l =
    YieldsList ((goal.iterator-loop-line).next_gives) (λ line. line.now) l.initial.line-iterator (lines l.text) × LinesChecked l.text (length l.yielded) l.number l.seen
