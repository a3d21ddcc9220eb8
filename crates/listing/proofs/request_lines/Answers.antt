use Rattle.std.proofs.Common.{arith}
use Rattle.listing.proofs.Lines.{listed_more, listed_all}
use Rattle.listing.proofs.request_lines.Goals as goal

pub loop-i-preserved : goal.loop-i-preserved
loop-i-preserved c =
    let l = c.loop-i in
    listed_more c.args.requests.now l.i l.start _ l.invariant _ _ _ c.loop-i-test.true c.record_len-start.ensures c.in_ok-push_request_line.ensures

pub returns : goal.returns
returns c = listed_all c.args.requests.now c.loop-i.i _ _ c.loop-i.invariant (omega arith)
