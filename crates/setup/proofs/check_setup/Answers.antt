use Rattle.std.proofs.Common.{◌≡◌, true, length, sym, ap, ◌∙◌, ap₂}
use Rattle.setup.specs.Admission.{small, paired}
use Rattle.setup.proofs.Admissions.{admits}
use Rattle.setup.proofs.check_setup.Goals as goal

pub returns-clause-admits : goal.returns-clause-admits
returns-clause-admits g c =
    let right = g.O.RightsOrder.right c.args.order.now in
    let cs = g.C.Store.list c.args.cells.now in
    let rs = g.R.Store.list c.args.rights.now in
    let ps = c.args.policies.now in
    let few : small (length cs) (length ps) ≡ true = ap (λ n. small n (length ps)) (sym c.size-size.ensures) ∙ sym c.is_small.ensures ∙ c.if-not-is_small.false in
    let pairs : paired (length cs) (length rs) ps ≡ true = ap₂ (λ m n. paired m n ps) (sym c.size-size.ensures) (sym c.size.ensures) ∙ sym c.is_paired.ensures ∙ c.if-not-is_paired.false in
    let all = sym c.all_rights.ensures ∙ c.if-not-all_rights.false in
    admits right cs rs ps _ _ few pairs all
