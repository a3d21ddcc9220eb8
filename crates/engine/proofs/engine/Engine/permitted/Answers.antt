use Rattle.std.proofs.Common.{ℕ, Bool, ap, ◌∙◌, arith, rules, tests}
use Rattle.std.proofs.lemmas.Iterator.{YieldsList-from_slice}
use Rattle.std.proofs.lemmas.Iterator.Consumers.{YieldsList-from_enumerate}
use Rattle.std.proofs.lemmas.Iterator.Search.{any_from_yields_List}
use Rattle.protocol.specs.declared.policy.Policy.{Policy}
use Rattle.serial.specs.Locks.{Lock}
use Rattle.serial.specs.Model.{permitted}
use Rattle.lock_table.specs.Held.{held}
use Rattle.engine.specs.Permits.{permits_at, permits_by}
use Rattle.engine.specs.Engines.{setup_of, store_of}
use Rattle.engine.proofs.Views.{any_numbered, locks_permit}
use Rattle.engine.proofs.engine.Engine.permitted.Goals as goal

pub returns-in-Some : goal.returns-in-Some
unfolding permitted
returns-in-Some g c =
    let e = c.args.self.now in
    let S = setup_of g.O.RightsOrder e in
    let s = store_of g.C.Store g.R.Store e in
    let holds : Lock → Bool = held e.tables.locks c.args.asker.slot.at in
    let f : Lock → Bool = permits_by S s holds c.args.object c.args.operation in
    any_from_yields_List f _ _ _ c.any.ensures.ran (YieldsList-from_slice c.in-Some.locks.now cc) (λ l b q k. search (rules, tests))
    ∙ locks_permit S s holds c.args.object c.args.operation c.in-Some.locks.now c.in-Some.ensures

pub returns-in-None : goal.returns-in-None
unfolding permitted
returns-in-None g c =
    let e = c.args.self.now in
    let f : ℕ → Policy → Bool = permits_at (setup_of g.O.RightsOrder e) (store_of g.C.Store g.R.Store e) (held e.tables.locks c.args.asker.slot.at) c.args.object c.args.operation in
    any_from_yields_List (λ p. f p.0 p.1) _ _ _ c.any-in-None.ensures.ran (YieldsList-from_enumerate (YieldsList-from_slice e.policies.now cc) c.enumerate.ensures.count) (λ p b q k. search (rules, tests))
    ∙ any_numbered f f 0 e.policies.now (λ i j p q. ap (λ k. f k p) (omega arith))
