use Rattle.std.proofs.Common.{◌≡◌, length}
use Rattle.locking.specs.Slots.{has}
use Rattle.slot_table.proofs.Aborting.{AbortedBelow}
use Rattle.slot_table.proofs.slot_table.SlotTable.abort.Given as goal

abbrev pub invariant-loop-at : goal.invariant-loop-at
invariant-loop-at l = record {
  below : AbortedBelow l.at (has l.struck.mask) l.by l.policy l.fn.self.slots l.slot-items;
  size : length l.slot-items ≡ length l.fn.self.slots;
}
