-- What a call is answered that is granted with a number, or denied.
use Rattle.std.specs.Prelude.{ℕ, Ok, Err, Result}
use Rattle.protocol.specs.declared.answer.Answer.{Answer}
use Rattle.protocol.specs.declared.answer.Answer.TheVariants as answer
use Rattle.engine.specs.declared.denial.Denial.{Denial}
use Rattle.engine.specs.declared.denial.Denial.TheVariants.{Refused, Waits}

abbrev pub answer_of : Result ℕ Denial → Answer
answer_of (Ok number) = answer.Granted number
answer_of (Err (Refused refusal)) = answer.Refused refusal
answer_of (Err (Waits on)) = answer.Wait on
