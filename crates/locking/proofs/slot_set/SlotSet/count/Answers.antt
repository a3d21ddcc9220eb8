use Rattle.std.proofs.Common.{◌^◌, ◌<◌, arith}
use Rattle.locking.proofs.BitLaws.{ones_count}
use Rattle.locking.proofs.slot_set.SlotSet.count.Goals as goal

pub returns : goal.returns
returns c =
    let fits : c.args.self.mask < 2 ^ 16 = omega arith in
    ones_count 16 c.args.self.mask fits
