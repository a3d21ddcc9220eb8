use Rattle.std.proofs.Common.{◌^◌, ◌<◌, arith}
use Rattle.locking.proofs.BitLaws.{decides_zero}
use Rattle.locking.proofs.slot_set.SlotSet.is_empty.Goals as goal

pub returns : goal.returns
returns c =
    let fits : c.args.self.mask < 2 ^ 16 = omega arith in
    decides_zero 16 c.args.self.mask fits
