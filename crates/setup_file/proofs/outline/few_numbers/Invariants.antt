use Rattle.std.proofs.Common.{length}
use Rattle.std.proofs.lemmas.Iterator.{YieldsList}
use Rattle.setup_file.specs.WordsLeft.{words_left}
use Rattle.setup_file.proofs.Items.{NumbersRead}
use Rattle.setup_file.proofs.outline.few_numbers.Given as goal

-- The iterator gives the words, and the numbers of those so far are there.
abbrev pub invariant-loop-word : goal.invariant-loop-word
invariant-loop-word l =
    YieldsList ((goal.iterator-loop-word).next_gives) (λ w. w.now) l.initial.word-iterator (words_left l.words) × NumbersRead (words_left l.words) (length l.yielded) l.few.items
