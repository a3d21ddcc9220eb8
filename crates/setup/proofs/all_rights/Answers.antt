use Rattle.std.proofs.Common.{rules, arith, ◌≡◌, ◌∙◌, refl}
use borrow.Author.Tests.{tests}
use Rattle.std.specs.List.{list_all, range_with_len}
use Rattle.std.proofs.lemmas.Iterator.{YieldsList-from_range}
use Rattle.std.proofs.lemmas.Iterator.Search.{all_from_yields_List}
use Rattle.setup.specs.Admission.{stored}
use Rattle.setup.proofs.Every.{every_stored}
use Rattle.setup.proofs.all_rights.Goals as goal

pub returns : goal.returns
returns g c =
    let right = g.O.RightsOrder.right c.args.order.now in
    let rs = g.R.Store.list c.args.rights.now in
    let n = c.size.result in
    let by_position : c.all.result ≡ list_all (stored right rs) (range_with_len 0 n) = all_from_yields_List (stored right rs) _ _ c.all.result c.all.ensures.ran (YieldsList-from_range 0 n n refl (omega arith)) (λ x b q k. search (rules, tests)) in
    by_position ∙ every_stored right rs n c.size.ensures
