use Rattle.std.proofs.Common.{◌≡◌, ◌+◌, ◌*◌, ◌≤◌, length, drop}
use Rattle.lines.specs.Lines.{numbers_part}
use Rattle.lines.proofs.line.line_len.Given as goal

abbrev pub invariant-loop-number : goal.invariant-loop-number
invariant-loop-number l =
    record { so_far : l.len + length (numbers_part (drop l.number-index l.numbers)) ≡ 2 + length (numbers_part l.numbers); bounded : l.len ≤ 2 + 11 * l.number-index }
