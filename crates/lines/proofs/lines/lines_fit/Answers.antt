use Rattle.std.proofs.Common.{arith, refl, ap, length}
use Rattle.lines.proofs.Written.{next_line, no_line}
use Rattle.lines.proofs.lines.lines_fit.Goals as goal

pub returns-then-len-left : goal.returns-then-len-left
returns-then-len-left c =
    let l = c.loop-answer in
    let next = next_line c.args.answers.now l.answer-index _ _ c.loop-answer-test.true c.answer_len-len.ensures in
    (λ never. cc, λ fits. absurd (omega (arith, next, l.invariant)))

pub loop-answer-preserved : goal.loop-answer-preserved
loop-answer-preserved c =
    let l = c.loop-answer in
    omega (arith, next_line c.args.answers.now l.answer-index _ _ c.loop-answer-test.true c.answer_len-len.ensures, l.invariant)

pub returns : goal.returns
returns c =
    let l = c.loop-answer in
    (λ _. omega (arith, ap length (no_line c.args.answers.now l.answer-index c.loop-answer-test.false), l.invariant), λ _. refl)
