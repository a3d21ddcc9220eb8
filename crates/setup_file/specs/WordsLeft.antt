-- The words that the code has left.
use Rattle.std.specs.Prelude.{ℕ, List}
use Rattle.setup_file.specs.declared.words.Words.{Words}
use Rattle.setup_file.specs.Words.{words_in}

abbrev pub words_left : Words → List (List ℕ)
words_left words = words_in words.rest.now
