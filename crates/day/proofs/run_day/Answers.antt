use Rattle.std.proofs.Common.{◌≡◌, take, sym, ap, ◌∙◌, ap₂, rules}
use Rattle.std.proofs.lemmas.Result.{err_from_is_err_and}
use Rattle.serial.specs.Words.{Laws}
use Rattle.serial.specs.OneDay.{morning}
use Rattle.serial.proofs.Laws.{setup_laws}
use Rattle.engine.specs.Stores.{lists_of}
use Rattle.engine.specs.Engines.{state_of, setup_of}
use Rattle.engine.specs.Beginning.{setup_with, begin_state, begin_policies}
use Rattle.engine.proofs.Writing.{wrote_none}
use Rattle.day.proofs.Whole.{day_of, day_wrote, day_back, wrote_back}
use Rattle.day.proofs.run_day.Goals as goal

pub returns-in_err-check_setup-clause-day : goal.returns-in_err-check_setup-clause-day
returns-in_err-check_setup-clause-day g c =
    let p = err_from_is_err_and c.from_residual.result c.from_residual.ensures.1 in
    rw (p.1, p.2) (record {
      set_up_refuses = sym c.in_err-check_setup.ensures.answer;
      stores_stay = search rules;
      nothing_written = wrote_none g.C.Store g.R.Store _ _;
      answers_stay = search rules;
    })

pub returns-clause-day : goal.returns-clause-day
returns-clause-day g c =
    let gc = g.C.Store in
    let gr = g.R.Store in
    let go = g.O.RightsOrder in
    let o = c.args.order.now in
    let ps = c.args.policies.now in
    let met = g.met.O.RightsOrder in
    let S = setup_with go o ps in
    let laws : Laws S = setup_laws (go.right o) (go.joined o) (go.allows o) ps (met.join_is_right o) (met.join_permits o) in
    let before = lists_of gc gr c.args.cells.now c.args.rights.now in
    let e = c.new-engine.result in
    let f = c.work.new.self in
    let made = c.new-engine.ensures in
    let told = c.work.ensures in
    let said = c.in_ok-check_setup.ensures in
    let state : state_of gc gr e ≡ morning before = made.state ∙ sym (ap (λ x. begin_state x before) said.answer) in
    let setup : setup_of go e ≡ S = made.setup ∙ sym (ap (λ x. setup_with go o (begin_policies x ps)) said.answer) in
    let lists : lists_of gc gr e.cells.now e.rights.now ≡ before = ap₂ (lists_of gc gr) made.cells made.rights in
    let rs = take c.work.result c.args.requests.now in
    let bs = take c.work.result c.work.new.answers in
    record {
      set_up_accepts = sym said.answer;
      as_many_as_fit = told.count;
      day_done = day_back gc gr (search rules) (search rules) (day_of gc gr go S laws before said.admits e f setup state lists rs bs told.works);
      writes = wrote_back gc gr made.cells made.rights (search rules) (search rules) (day_wrote gc gr go S laws before said.admits e f setup state lists rs bs told.works);
      other_answers_stay = told.other_answers;
    }
