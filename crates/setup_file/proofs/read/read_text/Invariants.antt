use Rattle.std.proofs.Common.{length}
use Rattle.std.proofs.lemmas.Iterator.{YieldsList}
use Rattle.setup_file.specs.SetupFiles.{draft_content}
use Rattle.setup_file.proofs.Lines.{lines, LinesRead}
use Rattle.setup_file.proofs.read.read_text.Given as goal

-- The iterator gives the lines, and those so far were read.
abbrev pub invariant-loop-line : goal.invariant-loop-line
invariant-loop-line l =
    YieldsList ((goal.iterator-loop-line).next_gives) (λ line. line.now) l.initial.line-iterator (lines l.text) × LinesRead l.text (length l.yielded) l.count (draft_content l.draft)
