use Rattle.std.proofs.Common.{string_bytes}
use Rattle.listing.proofs.Lines.{Listed}
use Rattle.listing.proofs.request_lines.Given as goal

abbrev pub invariant-loop-i : goal.invariant-loop-i
invariant-loop-i l = Listed l.requests l.i l.start (string_bytes l.lines)
