use Rattle.locking.specs.Slots.{has}
use Rattle.lock_table.proofs.Popping.{fewer_below}
use Rattle.lock_table.proofs.lock_table.LockTable.exceeds_list.Goals as goal

pub loop-slot-smaller : goal.loop-slot-smaller
loop-slot-smaller c =
    let popped = c.in-Some.ensures in
    fewer_below (has c.loop-slot.rest.mask) (has c.pop_lowest.new.self.mask) c.in-Some.slot.at popped.1 16 popped.0.0 c.in-Some.slot.below
