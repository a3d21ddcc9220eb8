use Rattle.std.proofs.Common.{refl}
use Rattle.slot_table.proofs.slot.Slot.put.Goals as goal

pub returns-in-Open : goal.returns-in-Open
returns-in-Open c = rw c.in-Open.is (c.put.new.self, refl, c.put.ensures.after)
