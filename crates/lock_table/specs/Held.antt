-- What the table means: who holds which lock. And what asking for a lock comes to, in the words of the machine.
use Rattle.std.specs.Prelude.{◌≡◌, ℕ, Bool, true, false, not, ◌&&◌, ◌||◌, List, Ok, Err, Result, ◌==◌, nat_lt}
use Rattle.locking.specs.Slots.{has}
use Rattle.locking.specs.Locks.{counts, Waits}
use Rattle.serial.specs.Locks.{Lock, OnCell, OnPolicy, same_lock, locks_beside, held_say}
use Rattle.serial.specs.Model.{is_conflict, is_signal}
use Rattle.locking.specs.declared.cell.CellRow.{CellRow}
use Rattle.locking.specs.declared.policy.PolicyRow.{PolicyRow}
use Rattle.lock_table.specs.Rows.{held_by}
use Rattle.lock_table.specs.Lists.{on_one_row, listed_of, listed_after}
use Rattle.locking.specs.declared.slot_set.SlotSet.{SlotSet}
use Rattle.lock_table.specs.declared.not_granted.NotGranted.{NotGranted}
use Rattle.lock_table.specs.declared.not_granted.NotGranted.TheVariants.{Absent, Blocked}
use Rattle.lock_table.specs.declared.lock_table.LockTable.{LockTable}

abbrev pub held : LockTable → ℕ → Lock → Bool
held t k lock = held_by t.cells t.policies k lock

-- There is a row for the lock.
abbrev pub has_row : Lock → Bool
has_row (OnCell mode cell) = nat_lt cell 256
has_row (OnPolicy mode policy) = nat_lt policy 64

module _ (holds : ℕ → Lock → Bool) (asked : Lock) (asker : ℕ) where
  -- The worst that the locks of slot k say to the asker; a slot's own locks never count, and none does where it holds the lock already.
  abbrev pub conflicts : ℕ → Bool
  conflicts k = counts (holds asker asked) asker k && is_conflict (held_say (holds k) asked (locks_beside asked))

  abbrev pub signals : ℕ → Bool
  signals k = counts (holds asker asked) asker k && is_signal (held_say (holds k) asked (locks_beside asked))

  -- The lock is granted: nobody says no, those who say signal lose all their locks, and the asker has the one that it asked for.
  pub record Granted (after : ℕ → Lock → Bool) (struck : ℕ → Bool) : Type 0 where
    pub nobody_conflicts : (k : ℕ) → conflicts k ≡ false
    pub signals_struck : (k : ℕ) → struck k ≡ signals k
    pub locks_after : (k : ℕ) (l : Lock) → after k l ≡ ((same_lock l asked && k == asker) || (holds k l && not (struck k)))

  -- The same, but those who say signal lose their locks on that row alone.
  pub record GrantedOnRow (after : ℕ → Lock → Bool) (struck : ℕ → Bool) : Type 0 where
    pub nobody_conflicts : (k : ℕ) → conflicts k ≡ false
    pub signals_struck : (k : ℕ) → struck k ≡ signals k
    pub locks_after : (k : ℕ) (l : Lock) → after k l ≡ ((same_lock l asked && k == asker) || (holds k l && not (struck k && on_one_row l asked)))

-- What asking comes to; where there is no row, it is refused. To wait or to be refused is to leave all as it is.
abbrev pub Asked : LockTable → Lock → ℕ → Result SlotSet NotGranted → LockTable → Type 0
Asked t lock asker (Ok struck) t' =
    (has_row lock ≡ true)
    × Granted (held t) lock asker (held t') (has struck.mask)
    × ((k : ℕ) →
    listed_of t'.lists k ≡ listed_after (listed_of t.lists) lock asker (held t asker lock) (has struck.mask) k)
Asked t lock asker (Err (Blocked blocked)) t' = (has_row lock ≡ true) × Waits (conflicts (held t) lock asker) (has blocked.by.mask) × (t' ≡ t)
Asked t lock asker (Err Absent) t' = (has_row lock ≡ false) × (t' ≡ t)

-- The same on rows, where those struck have lost their locks on the row of the lock alone.
abbrev pub AskedOnRow : List CellRow → List PolicyRow → Lock → ℕ → Result SlotSet NotGranted → List CellRow → List PolicyRow → Type 0
AskedOnRow cells policies lock asker (Ok struck) cells' policies' =
    (has_row lock ≡ true) × GrantedOnRow (held_by cells policies) lock asker (held_by cells' policies') (has struck.mask)
AskedOnRow cells policies lock asker (Err (Blocked blocked)) cells' policies' =
    (has_row lock ≡ true) × Waits (conflicts (held_by cells policies) lock asker) (has blocked.by.mask) × (cells' ≡ cells) × (policies' ≡ policies)
AskedOnRow cells policies lock asker (Err Absent) cells' policies' = (has_row lock ≡ false) × (cells' ≡ cells) × (policies' ≡ policies)
