use Rattle.std.proofs.Common.{◌≡◌, refl, ap, ◌∙◌}
use Rattle.std.proofs.lemmas.Result.{err_from_is_err_and}
use Rattle.protocol.specs.Bytes.{two_at}
use Rattle.protocol.specs.declared.request.Request.TheVariants.{Deploy}
use Rattle.records.specs.Tags.{tag_number}
use Rattle.records.proofs.Contents.{of_its_length, of_another}
use Rattle.records.proofs.record.request_of.Goals as goal

pub returns-in_err-try_from-in-Deploy-clause-says : goal.returns-in_err-try_from-in-Deploy-clause-says
returns-in_err-try_from-in-Deploy-clause-says c =
    let xs = c.args.content.now in
    let r = c.from_residual-in_err-try_from-in-Deploy in
    let p = err_from_is_err_and r.result r.ensures.1 in
    let tag : c.args.tag ≡ 2 = c.in_ok-try_from.ensures ∙ ap tag_number c.in-Deploy.is in
    rw (p.1, p.2) (of_another c.args.tag 2 4 xs (Deploy (two_at xs 0) (two_at xs 2)) tag refl c.in_err-try_from-in-Deploy.ensures.1)

pub returns-in_ok-try_from-in-Deploy-clause-says : goal.returns-in_ok-try_from-in-Deploy-clause-says
returns-in_ok-try_from-in-Deploy-clause-says c =
    let xs = c.args.content.now in
    let tag : c.args.tag ≡ 2 = c.in_ok-try_from.ensures ∙ ap tag_number c.in-Deploy.is in
    let whole = c.in_ok-try_from-in-Deploy.ensures.1 in
    let said = c.two_numbers-transaction.ensures.says ∙ ap (λ bs. (two_at bs 0, two_at bs 2)) whole.same in
    rw said (of_its_length c.args.tag 2 4 xs (Deploy (two_at xs 0) (two_at xs 2)) tag refl whole.long)
