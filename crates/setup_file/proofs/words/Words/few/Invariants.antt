use Rattle.std.proofs.Common.{◌≡◌}
use Rattle.std.proofs.lemmas.Iterator.{YieldsList}
use Rattle.setup_file.specs.WordsLeft.{words_left}
use Rattle.setup_file.proofs.words.Words.few.Given as goal

-- The words so far are there.
abbrev pub invariant-loop-word : goal.invariant-loop-word
invariant-loop-word l =
    YieldsList ((goal.iterator-loop-word).next_gives) (λ w. w.now) l.initial.word-iterator (words_left l.self) × (l.few.items ≡ l.yielded)
