use Rattle.std.proofs.Common.{[], arith}
use Rattle.std.proofs.lemmas.List.{take_rest}
use Rattle.lines.proofs.Written.{never_stops, written_all, written_more}
use Rattle.lines.proofs.lines.write_lines.Goals as goal

pub returns-in_err-end : goal.returns-in_err-end
returns-in_err-end c =
    let l = c.loop-answer in
    absurd (never_stops _ _ _ _ _ l.auto.buffer l.invariant _ _ [] (omega arith) (take_rest l.buffer l.end) _ c.in_err-end.ensures.answer)

pub loop-answer-preserved : goal.loop-answer-preserved
loop-answer-preserved c =
    let l = c.loop-answer in
    written_more _ _ _ _ _ l.auto.buffer l.invariant _ _ _ (omega arith) (take_rest l.buffer l.end) _ c.write_answer_line.ensures.after c.in_ok-end.ensures.answer

pub returns : goal.returns
returns c =
    let l = c.loop-answer in
    let w = written_all _ _ _ _ _ l.auto.buffer l.invariant (omega arith) in
    record { answer = w.0; after = w.1 }
