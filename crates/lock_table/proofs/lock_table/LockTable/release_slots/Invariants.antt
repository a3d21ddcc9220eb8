use Rattle.std.proofs.Common.{◌≡◌, ℕ, true, cond, not, ◌&&◌, [], Some}
use Rattle.locking.specs.Slots.{has, count_below}
use Rattle.serial.specs.Locks.{Lock}
use Rattle.lock_table.specs.Held.{held}
use Rattle.lock_table.specs.Lists.{listed_of}
use Rattle.lock_table.proofs.lock_table.LockTable.release_slots.Given as goal

abbrev pub invariant-loop-slot : goal.invariant-loop-slot
invariant-loop-slot l = record {
  left : (k : ℕ) (lock : Lock) → held l.self k lock ≡ (held l.initial.self k lock && not (has l.fn.gone.mask k && not (has l.rest.mask k)));
  lists : (k : ℕ) → listed_of l.self.lists k ≡ cond (has l.fn.gone.mask k && not (has l.rest.mask k)) (Some []) (listed_of l.initial.self.lists k);
  within : (k : ℕ) → has l.rest.mask k ≡ true → has l.fn.gone.mask k ≡ true;
}

abbrev pub decreases-loop-slot : goal.decreases-loop-slot
decreases-loop-slot l = count_below (has l.rest.mask) 16
