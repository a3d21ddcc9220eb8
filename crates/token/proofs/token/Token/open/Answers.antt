use Rattle.std.proofs.Common.{subst, ⊎_elim}
use mir.Facts.{Fits-below}
use Rattle.token.proofs.Opening.{AnswersOpen, answers_open}
use Rattle.token.proofs.token.Token.open.Goals as goal

pub overflow_cast-result : goal.overflow_cast-result
overflow_cast-result g c = Fits-below tt (answers_open _ _ _ _ _ c.in-Granted.ensures.answered)

pub unreachable-requires : goal.unreachable-requires
unreachable-requires g c =
    let answered = answers_open _ _ _ c.args.subject c.open.result c.open.ensures.answered in
    ⊎_elim (λ w. subst AnswersOpen w.1 answered) (λ w. subst AnswersOpen w.2 answered) c.in-Wait.is
