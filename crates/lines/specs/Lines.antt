-- Lines of text: of an answer, and of answers one after another.
use Rattle.std.specs.Prelude.{ℕ, List, [], ◌∷◌, ◌++◌, codes, decimal}
use Rattle.protocol.specs.Refusals.{refusal_number}
use Rattle.protocol.specs.declared.answer.Answer.{Answer}
use Rattle.protocol.specs.declared.answer.Answer.TheVariants.{Granted, Refused, Wait, Aborted}

-- Each number in decimal after a space, and then a line feed.
abbrev pub numbers_part : List ℕ → List ℕ
numbers_part [] = codes "\n"
numbers_part (number ∷ more) = codes " " ++ (decimal number ++ numbers_part more)

abbrev pub line : List ℕ → List ℕ → List ℕ
line letter numbers = letter ++ numbers_part numbers

abbrev pub answer_line : Answer → List ℕ
answer_line (Granted number) = line (codes "G") (number ∷ [])
answer_line (Refused refusal) = line (codes "R") (refusal_number refusal ∷ [])
answer_line (Wait transaction) = line (codes "W") (transaction ∷ [])
answer_line (Aborted by policy) = line (codes "S") (by ∷ policy ∷ [])

-- The lines of answers, one after another.
unfoldable pub answer_lines : List Answer → List ℕ
answer_lines [] = []
answer_lines (answer ∷ more) = answer_line answer ++ answer_lines more
