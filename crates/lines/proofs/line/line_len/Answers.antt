use Rattle.std.proofs.Common.{arith}
use Rattle.lines.proofs.Digits.{at_most_ten, count_more}
use Rattle.lines.proofs.line.line_len.Goals as goal

pub overflow_add-len : goal.overflow_add-len
overflow_add-len c = omega (arith, at_most_ten _ (c.type_inv.numbers c.loop-number.number-index).fits)

pub overflow_add-len-in-loop-number : goal.overflow_add-len-in-loop-number
overflow_add-len-in-loop-number c = omega (arith, at_most_ten _ (c.type_inv.numbers c.loop-number.number-index).fits)

pub loop-number-preserved : goal.loop-number-preserved
loop-number-preserved c =
    let l = c.loop-number in
    record {
      so_far = omega (arith, count_more _ _ _ _ c.loop-number-test.true l.invariant.so_far);
      bounded = omega (arith, at_most_ten _ (c.type_inv.numbers l.number-index).fits);
    }
