use Rattle.std.proofs.Common.{◌≡◌, ◌≤◌, subst, sym, refl, ap, ◌∙◌, arith, rules}
use Rattle.std.proofs.lemmas.Result.{err_from_is_err_and}
use Rattle.protocol.specs.Refusals.{◌then◌}
use Rattle.records.specs.Tapes.{tape_of, at_fault}
use Rattle.serial.specs.Words.{Laws}
use Rattle.serial.specs.OneDay.{morning}
use Rattle.serial.proofs.Laws.{setup_laws}
use Rattle.engine.specs.Stores.{lists_of}
use Rattle.engine.specs.Engines.{state_of, setup_of}
use Rattle.engine.specs.Beginning.{setup_with, begin_state, begin_policies}
use Rattle.engine.proofs.Writing.{wrote_none}
use Rattle.tape.specs.Records.{RanRecords}
use Rattle.tape.specs.Runs.{longest_lines, room_check}
use Rattle.tape.proofs.Rooms.{longest_short, longest_long}
use Rattle.tape.proofs.Runs.{so_far_none, so_far_stops, ran_of}
use Rattle.tape.proofs.run.run_tape.Goals as goal

pub returns-in_err-check_setup-clause-runs : goal.returns-in_err-check_setup-clause-runs
returns-in_err-check_setup-clause-runs g c =
    let p = err_from_is_err_and c.from_residual.result c.from_residual.ensures.1 in
    rw (p.1, p.2) (record {
      refuses = ap (λ o. o then room_check c.args.tape.now c.args.buffer.now) (sym c.in_err-check_setup.ensures.answer);
      stores_stay = refl;
      nothing_written = wrote_none g.C.Store g.R.Store _ _;
      buffer_stays = refl;
    })

pub returns-in_err-check_room-clause-runs : goal.returns-in_err-check_room-clause-runs
returns-in_err-check_room-clause-runs g c =
    let p = err_from_is_err_and c.from_residual-in_err-check_room.result c.from_residual-in_err-check_room.ensures.1 in
    rw (p.1, p.2) (record {
      refuses = ap (λ o. o then room_check c.args.tape.now c.args.buffer.now) (sym c.in_ok-check_setup.ensures.answer) ∙ sym c.in_err-check_room.ensures;
      stores_stay = refl;
      nothing_written = wrote_none g.C.Store g.R.Store _ _;
      buffer_stays = refl;
    })

pub returns-in-Ok-clause-runs : goal.returns-in-Ok-clause-runs
returns-in-Ok-clause-runs g c =
    let gc = g.C.Store in
    let gr = g.R.Store in
    let go = g.O.RightsOrder in
    let o = c.args.order.now in
    let ps = c.args.policies.now in
    let tape = c.args.tape.now in
    let met = g.met.O.RightsOrder in
    let S = setup_with go o ps in
    let laws : Laws S = setup_laws (go.right o) (go.joined o) (go.allows o) ps (met.join_is_right o) (met.join_permits o) in
    let before = lists_of gc gr c.args.cells.now c.args.rights.now in
    let e = c.new-engine.result in
    let f = c.run_records.new.engine in
    let made = c.new-engine.ensures in
    let said = c.in_ok-check_setup.ensures in
    let state : state_of gc gr e ≡ morning before = made.state ∙ sym (ap (λ x. begin_state x before) said.answer) in
    let setup : setup_of go e ≡ S = made.setup ∙ sym (ap (λ x. setup_with go o (begin_policies x ps)) said.answer) in
    let checked = ap (λ x. x then room_check tape c.args.buffer.now) (sym said.answer) ∙ sym c.in_ok-check_room.ensures in
    let read = c.in-Ok.ensures in
    let ran = subst (λ x. RanRecords gc gr go e f x c.args.buffer.now c.run_records.new.buffer c.run_records.result) read.reads c.run_records.ensures.ran in
    let short : c.run_records.result ≤ longest_lines tape = omega (arith, c.run_records.ensures.short, read.left.0, longest_short tape read.left.1) in
    ran_of gc gr go S laws c.args.cells.now _ c.args.rights.now _ said.admits e f setup state made.cells made.rights (search rules) (search rules)
    tape c.args.buffer.now c.run_records.new.buffer c.run_records.result checked read.records_are_requests ran short

pub returns-in-Err-clause-runs : goal.returns-in-Err-clause-runs
returns-in-Err-clause-runs g c =
    let gc = g.C.Store in
    let gr = g.R.Store in
    let go = g.O.RightsOrder in
    let o = c.args.order.now in
    let ps = c.args.policies.now in
    let tape = c.args.tape.now in
    let buffer = c.args.buffer.now in
    let met = g.met.O.RightsOrder in
    let S = setup_with go o ps in
    let laws : Laws S = setup_laws (go.right o) (go.joined o) (go.allows o) ps (met.join_is_right o) (met.join_permits o) in
    let before = lists_of gc gr c.args.cells.now c.args.rights.now in
    let e = c.new-engine.result in
    let made = c.new-engine.ensures in
    let said = c.in_ok-check_setup.ensures in
    let state : state_of gc gr e ≡ morning before = made.state ∙ sym (ap (λ x. begin_state x before) said.answer) in
    let setup : setup_of go e ≡ S = made.setup ∙ sym (ap (λ x. setup_with go o (begin_policies x ps)) said.answer) in
    let checked = ap (λ x. x then room_check tape buffer) (sym said.answer) ∙ sym c.in_ok-check_room.ensures in
    let read = c.in-Err.ensures in
    let fault = c.from.result in
    let is : at_fault fault ≡ tape_of tape = ap at_fault c.from.ensures ∙ sym read.reads in
    let stops = so_far_stops gc gr go e (at_fault fault) buffer (so_far_none gc gr go e (at_fault fault) buffer) fault refl _ _ c.push_fault.ensures.ends c.push_fault.ensures.written in
    let ran = subst (λ x. RanRecords gc gr go e e x buffer c.push_fault.new.buffer c.push_fault.result) is stops in
    let short : c.push_fault.result ≤ longest_lines tape = omega (arith, c.push_fault.ensures.short, longest_long tape read.too_long) in
    ran_of gc gr go S laws c.args.cells.now _ c.args.rights.now _ said.admits e e setup state made.cells made.rights (search rules) (search rules)
    tape buffer c.push_fault.new.buffer c.push_fault.result checked read.records_are_requests ran short
