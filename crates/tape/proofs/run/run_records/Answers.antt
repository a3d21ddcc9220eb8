use Rattle.std.proofs.Common.{sym, ap, ◌∙◌, arith}
use Rattle.records.specs.Tapes.{at_fault}
use Rattle.records.specs.Readers.{pending, left_of}
use Rattle.tape.proofs.Rooms.{room_more}
use Rattle.tape.proofs.Runs.{so_far_none, so_far_more, so_far_stops}
use Rattle.tape.proofs.run.run_records.Goals as goal

pub loop-next-init : goal.loop-next-init
loop-next-init g c = (so_far_none g.C.Store g.R.Store g.O.RightsOrder c.args.engine.now (pending c.args.reader) c.args.buffer.now, omega (arith, c.requires), omega arith)

pub returns-in-Err-clause-ran : goal.returns-in-Err-clause-ran
returns-in-Err-clause-ran g c =
    so_far_stops g.C.Store g.R.Store g.O.RightsOrder c.args.engine.now (pending c.args.reader) c.args.buffer.now c.loop-next.invariant.0 c.from.result
    (c.in-Err.ensures.reads ∙ ap at_fault (sym c.from.ensures)) _ _ c.push_fault.ensures.ends c.push_fault.ensures.written

pub loop-next-preserved : goal.loop-next-preserved
loop-next-preserved g c =
    let inv = c.loop-next.invariant in
    let read = rw c.in-Some.is at c.in-Ok.ensures.reads in
    let less = rw c.in-Some.is at c.in-Ok.ensures.shrinks in
    let more = room_more c.loop-next.end c.push_answer-end.result (left_of c.loop-next.reader) (left_of c.next_request.new.self) in (
      so_far_more g.C.Store g.R.Store g.O.RightsOrder c.args.engine.now (pending c.args.reader) c.args.buffer.now inv.0 c.in-Some.request c.call-answer.result
          read c.call-answer.ensures _ _ c.push_answer-end.ensures.ends c.push_answer-end.ensures.written,
      more _ inv.1 less c.push_answer-end.ensures.short,
      more _ inv.2 less c.push_answer-end.ensures.short,
    )
