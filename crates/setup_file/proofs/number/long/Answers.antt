use Rattle.std.proofs.Common.{◌∙◌, arith, rules}
use Rattle.setup_file.proofs.Numbers.{all_read, no_digit, too_large, one_more}
use Rattle.setup_file.proofs.number.long.Goals as goal

pub returns-in_err-digit : goal.returns-in_err-digit
returns-in_err-digit c =
    let l = c.loop-byte in
    c.from_residual.ensures ∙ no_digit c.args.word.now l.byte-index l.value l.invariant _ c.loop-byte-test.true c.from.ensures c.in_err-digit.ensures.value

pub returns-in_err-checked_mul : goal.returns-in_err-checked_mul
returns-in_err-checked_mul c =
    let l = c.loop-byte in
    c.from_residual-in_err-checked_mul.ensures ∙ too_large c.args.word.now l.byte-index l.value l.invariant _ c.loop-byte-test.true c.from.ensures (λ h. c.in_err-checked_mul.ensures (omega (arith, h)))

pub returns-in_err-value : goal.returns-in_err-value
returns-in_err-value c =
    let l = c.loop-byte in
    let d = c.in_ok-digit.ensures.value in
    let m = c.in_ok-checked_mul.ensures in
    c.from_residual-in_err-value.ensures ∙ too_large c.args.word.now l.byte-index l.value l.invariant _ c.loop-byte-test.true c.from.ensures (λ h. c.in_err-value.ensures (omega (arith, h, d.1, m.1)))

pub loop-byte-preserved : goal.loop-byte-preserved
loop-byte-preserved c =
    let l = c.loop-byte in
    let d = c.in_ok-digit.ensures.value in
    let m = c.in_ok-checked_mul.ensures in
    let a = c.in_ok-value.ensures in
    one_more c.args.word.now l.byte-index l.value l.invariant _ c.loop-byte-test.true c.from.ensures c.in_ok-value.value d.0 (omega (arith, d.1, m.1, a.1)) (omega (arith, a.0, a.1))

pub returns : goal.returns
returns c =
    let l = c.loop-byte in
    all_read c.args.word.now l.byte-index l.value l.invariant (search rules) c.loop-byte-test.false
