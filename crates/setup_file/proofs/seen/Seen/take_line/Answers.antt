use Rattle.std.proofs.Common.{sym, ap, ◌∙◌, subst}
use Rattle.std.proofs.lemmas.Result.{err_from_is_err_and}
use Rattle.setup_file.specs.Checks.{ChecksLine}
use Rattle.setup_file.specs.Reading.{with_line_item}
use Rattle.setup_file.proofs.seen.Seen.take_line.Goals as goal

pub returns-in_err-read_item : goal.returns-in_err-read_item
returns-in_err-read_item c draft stands =
    let p = err_from_is_err_and c.from_residual.result c.from_residual.ensures.1 in
    rw (p.1, p.2) (c.in_err-read_item.ensures draft)

pub returns-in-Some : goal.returns-in-Some
returns-in-Some c draft stands =
    subst (λ said. ChecksLine said c.take.new.self c.take.result) (sym (c.in_ok-read_item.ensures draft ∙ ap (λ item. with_line_item item draft) c.in-Some.is)) (c.take.ensures draft stands)
