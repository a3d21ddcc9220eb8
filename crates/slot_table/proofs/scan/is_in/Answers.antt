use Rattle.std.proofs.Common.{◌^◌, ◌<◌, sym, arith}
use Rattle.locking.proofs.BitLaws.{has_past}
use Rattle.slot_table.proofs.scan.is_in.Goals as goal

pub returns-in-None : goal.returns-in-None
returns-in-None c =
    let fits : c.args.set.mask < 2 ^ 16 = omega arith in
    sym (has_past 16 c.args.set.mask c.args.at fits c.in-None.ensures)
