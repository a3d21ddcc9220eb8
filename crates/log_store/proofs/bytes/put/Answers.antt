use Rattle.std.proofs.Common.{◌≡◌, ◌+◌, ◌-◌, length, arith}
use Rattle.std.proofs.lemmas.List.{drop-drop}
use Rattle.log_store.proofs.bytes.put.Goals as goal

pub returns : goal.returns
returns c =
    let at = c.args.at in
    let bs = c.args.new.now in
    let same : at + length bs - at ≡ length bs = omega arith in
    let rest = drop-drop (length bs) at c.args.bytes.now in
    cc
