use Rattle.std.proofs.Common.{length, take, drop, ap, ◌∙◌, arith}
use Rattle.std.proofs.lemmas.List.{take_at}
use Rattle.engine.specs.Stores.{lists_of, Wrote}
use Rattle.engine.specs.Beginning.{setup_with}
use Rattle.depot_day.proofs.Reports.{is_run, reports_of}
use Rattle.depot_day.proofs.report.report_on.Goals as goal

pub unreachable-requires : goal.unreachable-requires
unreachable-requires g c =
    is_run _ _ _ _ _ _ _ _ c.requires (omega (arith, c.run_tape.ensures.room_for_every_tape, c.in_ok-text.ensures.len)) c.in-Err.ensures.runs

pub returns : goal.returns
returns g c =
    let before = lists_of g.C.Store g.R.Store c.args.cells.now c.args.rights.now in
    let after = lists_of g.C.Store g.R.Store c.run_tape.new.cells c.run_tape.new.rights in
    let wrote = Wrote g.C.Store g.R.Store c.args.cells.now c.args.rights.now c.run_tape.new.cells c.run_tape.new.rights in
    let buffer = c.run_tape.new.buffer in
    let text = c.in_ok-text.text in
    let written = take_at buffer (drop (length buffer) text.items) text.len (c.run_tape.auto.buffer ∙ c.as_mut_slice.ensures.len) in
    reports_of (setup_with g.O.RightsOrder c.args.order.now c.args.policies.now) before after wrote c.args.tape.now c.as_mut_slice.result.now buffer c.in-Ok.length
    c.truncate.new.self.items c.push_store.new.text.items c.push_store-2.new.text.items c.in-Ok.ensures.runs
    (c.truncate.ensures.items ∙ ap (take c.in-Ok.length) written) c.in_ok-push_store.ensures c.in_ok-push_store-2.ensures
