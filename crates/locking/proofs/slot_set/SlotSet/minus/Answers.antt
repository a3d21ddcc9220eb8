use Rattle.std.proofs.Common.{arith}
use Rattle.locking.proofs.BitLaws.{has_minus}
use Rattle.locking.proofs.slot_set.SlotSet.minus.Goals as goal

pub returns : goal.returns
returns c k = has_minus 16 c.args.self.mask c.args.other.mask k (omega arith) (omega arith)
