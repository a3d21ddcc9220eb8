use Rattle.std.proofs.Common.{◌≡◌, ℕ, true, not, ◌&&◌, None}
use Rattle.locking.specs.Slots.{has, count_below}
use Rattle.lock_table.specs.Lists.{listed_of}
use Rattle.lock_table.proofs.lock_table.LockTable.exceeds_list.Given as goal

abbrev pub invariant-loop-slot : goal.invariant-loop-slot
invariant-loop-slot l = record {
  kept : (k : ℕ) → (has l.fn.slots.mask k && not (has l.rest.mask k)) ≡ true → listed_of l.self.lists k ≡ None → ⊥;
  within : (k : ℕ) → has l.rest.mask k ≡ true → has l.fn.slots.mask k ≡ true;
}

abbrev pub decreases-loop-slot : goal.decreases-loop-slot
decreases-loop-slot l = count_below (has l.rest.mask) 16
