use Rattle.std.proofs.Common.{[], ◌∷◌, ap, ◌∙◌, arith}
use Rattle.std.specs.Prelude.{codes}
use Rattle.records.specs.Faults.{values_line}
use Rattle.lines.specs.Lines.{line}
use Rattle.lines.proofs.Buffers.{is_written}
use Rattle.lines.proofs.Lengths.{values_short, values_line_is}
use Rattle.lines.proofs.line.write_fault_line.Goals as goal

pub returns-clause-short : goal.returns-clause-short
returns-clause-short c = values_short c.args.values (omega arith) (omega arith) (omega arith)

pub returns-clause-fits : goal.returns-clause-fits
returns-clause-fits c = λ room.
    let values = c.args.values in
    let short = values_short values (omega arith) (omega arith) (omega arith) in
    let is = ap (λ n. line (codes "F") (n ∷ values.number ∷ values.start ∷ [])) c.from.ensures ∙ values_line_is values in
    is_written _ (values_line values) _ _ is c.write_line.ensures.answer (omega (arith, short, room))
