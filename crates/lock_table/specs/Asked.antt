-- What asking for a lock on one of some rows comes to.
use Rattle.std.specs.Prelude.{◌≡◌, ℕ, ◌<◌, Bool, List, length, slice_index_or, slice_set, Ok, Err, Result}
use Rattle.locking.specs.Slots.{has}
use Rattle.locking.specs.Locks.{hears, LockGranted, Waits}
use Rattle.locking.specs.declared.mode.LockAnswer.TheVariants.{Conflict}
use Rattle.locking.specs.declared.row.LockRow.{Ghosts}
use Rattle.locking.specs.declared.slot_set.SlotSet.{SlotSet}
use Rattle.lock_table.specs.declared.not_granted.NotGranted.{NotGranted}
use Rattle.lock_table.specs.declared.not_granted.NotGranted.TheVariants.{Absent, Blocked}

-- Of rows of one kind, by what the kind says of them, and which of their modes are the same.
module _ {R M : Type 0} (kind : Ghosts R M) (same : M → M → Bool) where
  -- One row is changed for another that is compatible and has the lock; to wait or to be refused is to leave all rows as they are.
  abbrev pub RowAsked : List R → ℕ → M → ℕ → Result SlotSet NotGranted → List R → Type 0
  RowAsked rows at asked asker (Ok struck) rows' =
      (at < length rows)
      × ((row : R)
      × (rows' ≡ slice_set rows at row)
      × kind.compatible row
      × LockGranted same kind.says kind.modes (kind.holds (slice_index_or rows at kind.none)) asked asker (kind.holds row) (has struck.mask))
  RowAsked rows at asked asker (Err (Blocked blocked)) rows' =
      (at < length rows)
      × Waits (hears kind.says kind.modes (kind.holds (slice_index_or rows at kind.none)) Conflict asked asker) (has blocked.by.mask)
      × (rows' ≡ rows)
  RowAsked rows at asked asker (Err Absent) rows' = (at < length rows → kind.compatible (slice_index_or rows at kind.none) → ⊥) × (rows' ≡ rows)
