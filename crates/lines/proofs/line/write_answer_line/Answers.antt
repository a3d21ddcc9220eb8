use Rattle.std.proofs.Common.{[], ◌∷◌, refl, ap, ap₂, ◌∙◌, arith}
use Rattle.std.specs.Prelude.{codes}
use Rattle.protocol.specs.declared.answer.Answer.TheVariants.{Granted, Refused, Wait, Aborted}
use Rattle.lines.specs.Lines.{line, answer_line}
use Rattle.lines.proofs.Buffers.{is_written}
use Rattle.lines.proofs.Lengths.{granted_short, refused_short, wait_short, aborted_short}
use Rattle.lines.proofs.line.write_answer_line.Goals as goal

pub returns-in-Granted-clause-short : goal.returns-in-Granted-clause-short
returns-in-Granted-clause-short c = rw c.in-Granted.is (granted_short _ (omega arith))

pub returns-in-Refused-clause-short : goal.returns-in-Refused-clause-short
returns-in-Refused-clause-short c = rw c.in-Refused.is (refused_short _)

pub returns-in-Wait-clause-short : goal.returns-in-Wait-clause-short
returns-in-Wait-clause-short c = rw c.in-Wait.is (wait_short _ (omega arith))

pub returns-in-Aborted-clause-short : goal.returns-in-Aborted-clause-short
returns-in-Aborted-clause-short c = rw c.in-Aborted.is (aborted_short _ _ (omega arith) (omega arith))

pub returns-in-Granted-clause-fits : goal.returns-in-Granted-clause-fits
returns-in-Granted-clause-fits c = λ room.
    let short = granted_short c.in-Granted.number (omega arith) in
    is_written _ (answer_line (Granted c.in-Granted.number)) _ _ (refl) c.write_line.ensures.answer (omega (arith, short, room))

pub returns-in-Refused-clause-fits : goal.returns-in-Refused-clause-fits
returns-in-Refused-clause-fits c = λ room.
    let short = refused_short c.in-Refused.refusal in
    is_written _ (answer_line (Refused c.in-Refused.refusal)) _ _ (ap (λ n. line (codes "R") (n ∷ [])) (c.from.ensures ∙ c.number.ensures)) c.write_line-in-Refused.ensures.answer (omega (arith, short, room))

pub returns-in-Wait-clause-fits : goal.returns-in-Wait-clause-fits
returns-in-Wait-clause-fits c = λ room.
    let short = wait_short c.in-Wait.transaction (omega arith) in
    is_written _ (answer_line (Wait c.in-Wait.transaction)) _ _ (ap (λ n. line (codes "W") (n ∷ [])) c.from-in-Wait.ensures) c.write_line-in-Wait.ensures.answer (omega (arith, short, room))

pub returns-in-Aborted-clause-fits : goal.returns-in-Aborted-clause-fits
returns-in-Aborted-clause-fits c = λ room.
    let short = aborted_short c.in-Aborted.by c.in-Aborted.policy (omega arith) (omega arith) in
    is_written _ (answer_line (Aborted c.in-Aborted.by c.in-Aborted.policy)) _ _ (ap₂ (λ m n. line (codes "S") (m ∷ n ∷ [])) c.from-in-Aborted.ensures c.from-in-Aborted-2.ensures) c.write_line-in-Aborted.ensures.answer (omega (arith, short, room))
