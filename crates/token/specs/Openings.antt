-- What the engine answered to an open, by what came of it: a token, or a refusal.
use Rattle.std.specs.Prelude.{Ok, Err, Result}
use Rattle.protocol.specs.declared.answer.Answer.{Answer}
use Rattle.protocol.specs.declared.answer.Answer.TheVariants.{Granted, Refused}
use Rattle.protocol.specs.declared.refusal.Refusal.{Refusal}
use Rattle.token.specs.declared.token.Token.{Token}

abbrev pub opening : Result Token Refusal → Answer
opening (Ok t) = Granted t.id
opening (Err f) = Refused f
