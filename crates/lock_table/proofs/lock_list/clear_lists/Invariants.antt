use Rattle.std.proofs.Common.{◌≡◌, ℕ, true, false, cond, not, ◌&&◌, [], Some, slice_index_or}
use Rattle.locking.specs.Slots.{has, count_below}
use Rattle.lock_table.specs.Lists.{no_list, listed_of}
use Rattle.lock_table.proofs.lock_list.clear_lists.Given as goal

abbrev pub invariant-loop-slot : goal.invariant-loop-slot
invariant-loop-slot l = record {
  cleared : (k : ℕ) → listed_of l.lists k ≡ cond (has l.fn.slots.mask k && not (has l.rest.mask k)) (Some []) (listed_of l.initial.lists k);
  others : (k : ℕ) → has l.fn.slots.mask k ≡ false → slice_index_or l.lists k no_list ≡ slice_index_or l.initial.lists k no_list;
  within : (k : ℕ) → has l.rest.mask k ≡ true → has l.fn.slots.mask k ≡ true;
}

abbrev pub decreases-loop-slot : goal.decreases-loop-slot
decreases-loop-slot l = count_below (has l.rest.mask) 16
