use Rattle.std.proofs.Common.{Err}
use Rattle.std.proofs.lemmas.Result.{err_from_is_err_and}
use Rattle.setup_file.proofs.Lines.{told}
use Rattle.setup_file.proofs.Writing.{read_back}
use Rattle.setup_file.proofs.read.read_setup_file.Goals as goal

pub returns-in_err-outline_of-clause-reads_back : goal.returns-in_err-outline_of-clause-reads_back
returns-in_err-outline_of-clause-reads_back c setup fits e =
    let text = c.args.text.now in
    let error = c.in_err-outline_of.field-0.0 in
    let p = err_from_is_err_and c.from_residual.result c.from_residual.ensures.1 in
    rw (p.1, p.2) (read_back text (Err error) (told text error c.in_err-outline_of.ensures) setup fits e)

pub returns-clause-reads_back : goal.returns-clause-reads_back
returns-clause-reads_back c = read_back c.args.text.now c.read_text.result c.read_text.ensures
