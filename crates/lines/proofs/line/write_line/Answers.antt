use Rattle.std.proofs.Common.{◌≡◌, ℕ, arith}
use Rattle.std.proofs.Math.ListN.{length-set}
use Rattle.lines.proofs.FromEnd.{line_feed, has_room, one_more, letter_last}
use Rattle.lines.proofs.line.write_line.Goals as goal

pub loop-number-init : goal.loop-number-init
loop-number-init c =
    let all : c.into_iter-number-iterator.result.iter.rest.now ≡ c.args.numbers.now = cc in
    let begun = line_feed c.args.numbers.now c.args.buffer.now _ c.line_len-len.ensures c.if-len-buffer.false in
    rw all begun

pub put_number-start-requires-clause-room : goal.put_number-start-requires-clause-room
put_number-start-requires-clause-room c =
    omega (arith, has_room _ _ _ c.line_len-len.ensures c.if-len-buffer.false _ _ _ _ _ c.loop-number.invariant c.in-Some.ensures.steps)

pub put_number-start-requires-clause-within : goal.put_number-start-requires-clause-within
put_number-start-requires-clause-within c = omega (arith, c.loop-number.invariant.place, length-set {A = ℕ})

pub loop-number-preserved : goal.loop-number-preserved
loop-number-preserved c =
    one_more _ _ _ c.line_len-len.ensures c.if-len-buffer.false _ _ _ _ _ c.loop-number.invariant c.in-Some.ensures.steps _ _ c.put_number-start.ensures.start c.put_number-start.ensures.written

pub returns-clause-after : goal.returns-clause-after
returns-clause-after c =
    letter_last _ _ _ c.line_len-len.ensures c.if-len-buffer.false _ _ _ _ c.loop-number.invariant c.in-None.ensures.steps.0 (omega (arith, length-set {A = ℕ}))
