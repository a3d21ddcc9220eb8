-- What is left of the locks after some were let go; the others stand.
use Rattle.std.specs.Prelude.{◌≡◌, ℕ, Bool, not, ◌&&◌, List}
use Rattle.locking.specs.declared.row.LockRow.{Ghosts}
use Rattle.locking.specs.declared.cell.CellRow.{CellRow}
use Rattle.locking.specs.declared.policy.PolicyRow.{PolicyRow}
use Rattle.serial.specs.Locks.{Lock}
use Rattle.lock_table.specs.Rows.{Compatible, held_by}

-- On one row, some slots have lost their locks.
abbrev pub Released : {R M : Type 0} → Ghosts R M → (ℕ → Bool) → R → R → Type 0
Released {R} {M} kind gone old new =
    (kind.compatible old → kind.compatible new) × ((m : M) (k : ℕ) → kind.holds new m k ≡ (kind.holds old m k && not (gone k)))

-- On all rows, some slots have lost some locks.
pub record LetGo (gone : ℕ → Lock → Bool) (cells : List CellRow) (policies : List PolicyRow) (cells' : List CellRow) (policies' : List PolicyRow) : Type 0 where
  pub fits : Compatible cells policies → Compatible cells' policies'
  pub left : (k : ℕ) (lock : Lock) → held_by cells' policies' k lock ≡ (held_by cells policies k lock && not (gone k lock))
