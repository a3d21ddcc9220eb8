use Rattle.std.proofs.Common.{◌≡◌, ◌<◌, get_or, take, drop, sym, ap, ◌∙◌, arith, refl, rules}
use Rattle.std.proofs.lemmas.List.{drop-set-lt, drop-drop, length-take, get_or-take}
use Rattle.protocol.specs.declared.request.Request.TheVariants.{Open}
use Rattle.engine.specs.Engines.{Works}
use Rattle.engine.proofs.Working.{works_none, works_more, works_nothing}
use Rattle.engine.proofs.engine.Engine.work.Goals as goal

pub loop-at-init : goal.loop-at-init
loop-at-init g c = (works_none c.args.self.now, refl)

pub loop-at-preserved : goal.loop-at-preserved
loop-at-preserved g c =
    let at = c.loop-at.at in
    let n = c.min-count.result in
    let rs = c.args.requests.now in
    let bs = c.loop-at.answers in
    let inv = c.loop-at.invariant in
    let early : at < n = omega (arith, c.loop-at-test.true, length-take n rs) in
    let asked : get_or (take n rs) at (Open 0) ≡ get_or rs at (Open 0) = get_or-take n rs at (Open 0) early in (
      works_more rs bs at (Open 0) inv.0 (omega (arith, c.loop-at-test.true, length-take n rs)) (omega (arith, early, c.min-count.ensures, c.loop-at.auto.answers))
          (rw asked at c.call.ensures),
      drop-set-lt _ bs at c.call.result (omega arith) ∙ sym (drop-drop 1 at bs) ∙ ap (drop 1) inv.1 ∙ drop-drop 1 at c.args.answers.now,
    )

pub returns-clause-stores_stay : goal.returns-clause-stores_stay
returns-clause-stores_stay g c = λ none.
    let n = c.min-count.result in
    let works : Works g.C.Store g.R.Store g.O.RightsOrder c.args.self.now (take n c.args.requests.now) (take n c.loop-at.answers) c.loop-at.self = search rules in
    works_nothing works none
