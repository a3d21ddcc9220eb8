use Rattle.std.proofs.Common.{◌≤◌, length, refl, ap, ◌∙◌, arith, rules}
use Rattle.std.proofs.lemmas.List.{length-take}
use Rattle.std.proofs.lemmas.Result.{err_from_is_err_and}
use Rattle.engine.specs.Tables.{asker_in}
use Rattle.engine.specs.Engines.{store_of, state_of, setup_of}
use Rattle.engine.proofs.Calls.{refused, granted, answer_same}
use Rattle.engine.proofs.Owning.{own_acquired, own_noted}
use Rattle.engine.proofs.Stepping.{denied, state_granted}
use Rattle.engine.proofs.Writing.{wrote_none}
use Rattle.engine.proofs.engine.Engine.call_in.Goals as goal

pub invariant_of-self-clause-own_cells : goal.invariant_of-self-clause-own_cells
invariant_of-self-clause-own_cells g c =
    let e = c.args.self.now in
    let s = store_of g.C.Store g.R.Store e in
    let own : length s.cells ≤ e.size = omega (arith, length-take e.size (g.C.Store.list e.cells.now)) in
    own_acquired e.size (setup_of g.O.RightsOrder e) s own e.tables c.acquire.new.self c.args.asker c.args.call c.in_ok-judge.ensures c.lock_for-lock.result e.own_cells
    c.acquire.result c.lock_for-lock.ensures (omega (arith, own, e.few_cells)) e.few_policies c.acquire.ensures

pub invariant_of-self-2-clause-own_cells : goal.invariant_of-self-2-clause-own_cells
invariant_of-self-2-clause-own_cells g c =
    let e = c.args.self.now in
    let s = store_of g.C.Store g.R.Store e in
    let got = c.in_ok-struck.ensures in
    own_noted e.size (setup_of g.O.RightsOrder e) s (omega (arith, length-take e.size (g.C.Store.list e.cells.now))) e.tables c.acquire.new.self c.args.asker c.args.call
    c.in_ok-judge.ensures c.lock_for-lock.result e.own_cells c.note.new.self c.in_ok-struck.struck got (c.note.ensures got.still_open)

pub returns-in_err-judge : goal.returns-in_err-judge
returns-in_err-judge g c =
    let e = c.args.self.now in
    let σ = state_of g.C.Store g.R.Store e in
    let p = err_from_is_err_and c.from_residual.result c.from_residual.ensures.1 in
    record {
      answered = rw (p.1, p.2) (refused (setup_of g.O.RightsOrder e) σ (asker_in e.tables c.args.asker) c.args.call c.in_err-judge.field-0.0 c.in_err-judge.ensures);
      same_setup = refl;
      keeps_stores = search rules;
      writes = wrote_none g.C.Store g.R.Store _ _;
    }

pub returns-in_err-struck : goal.returns-in_err-struck
returns-in_err-struck g c =
    let e = c.args.self.now in
    let s = store_of g.C.Store g.R.Store e in
    let few : length s.cells ≤ 256 = omega (arith, length-take e.size (g.C.Store.list e.cells.now), e.few_cells) in
    let p = err_from_is_err_and c.from_residual-in_err-struck.result c.from_residual-in_err-struck.ensures.1 in
    record {
      answered = rw (p.1, p.2) (denied (setup_of g.O.RightsOrder e) s e.tables c.acquire.new.self c.args.asker c.args.call c.lock_for-lock.result c.in_err-struck.field-0.0
          c.in_ok-judge.ensures c.lock_for-lock.ensures few e.few_policies c.in_err-struck.ensures);
      same_setup = refl;
      keeps_stores = search rules;
      writes = wrote_none g.C.Store g.R.Store _ _;
    }

pub returns : goal.returns
returns g c =
    let e = c.args.self.now in
    let S = setup_of g.O.RightsOrder e in
    let s = store_of g.C.Store g.R.Store e in
    let o = c.args.asker in
    let asker = asker_in e.tables o in
    let lock = c.lock_for-lock.result in
    let struck = c.in_ok-struck.struck in
    let fine = c.in_ok-judge.ensures in
    let got = c.in_ok-struck.ensures in
    record {
      answered = granted S (state_of g.C.Store g.R.Store e) asker c.args.call fine lock c.lock_for-lock.ensures c.answer_to-number.result struck _
          got.nobody_blocks got.counts_struck
          (c.answer_to-number.ensures ∙ answer_same s (asker_in c.acquire.new.self o) asker c.args.call struck (ap (λ y. y.changes) got.asker_after))
          (state_granted S s e.tables c.acquire.new.self c.note.new.self o lock struck got c.args.call fine (c.note.ensures got.still_open));
      same_setup = refl;
      keeps_stores = search rules;
      writes = wrote_none g.C.Store g.R.Store _ _;
    }
