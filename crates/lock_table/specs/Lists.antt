-- Which locks a slot may hold, by the list of those that it was granted.
use Rattle.std.specs.Prelude.{◌≡◌, ℕ, ◌<◌, Bool, true, false, cond, not, ◌&&◌, ◌||◌, ◌==◌, List, [], ◌∷◌, ◌++◌, length, take, nat_lt, slice_index_or, Option, Some, None}
use Rattle.std.specs.List.{list_any}
use Rattle.std.proofs.Props.{props}
use Rattle.locking.specs.declared.cell.CellRow.{CellRow}
use Rattle.locking.specs.declared.policy.PolicyRow.{PolicyRow}
use Rattle.serial.specs.Locks.{Lock, OnCell, OnPolicy}
use Rattle.lock_table.specs.Rows.{held_by}
use Rattle.lock_table.specs.declared.lock_list.LockList.{LockList}

-- Whether the two locks lie on one row, whatever their modes.
abbrev pub on_one_row : Lock → Lock → Bool
on_one_row (OnCell m i) (OnCell n j) = i == j
on_one_row (OnCell m i) (OnPolicy n j) = false
on_one_row (OnPolicy m i) (OnCell n j) = false
on_one_row (OnPolicy m i) (OnPolicy n j) = i == j

-- Whether a slot with this list may hold the lock: a list that is too short for all its locks tells nothing.
abbrev pub may_hold : LockList → Lock → Bool
may_hold list lock = nat_lt 32 list.count || list_any (on_one_row lock) (take list.count list.locks)

abbrev pub no_list : LockList
no_list = record { locks = []; count = 0 }

-- The locks of a list, unless it has counted more than the 32 that it keeps
abbrev pub locks_in : LockList → Option (List Lock)
locks_in list = cond (nat_lt 32 list.count) None (Some (take list.count list.locks))

-- those of slot k's list
abbrev pub listed_of : List LockList → ℕ → Option (List Lock)
listed_of lists k = locks_in (slice_index_or lists k no_list)

-- with one lock more
abbrev pub one_more : Lock → Option (List Lock) → Option (List Lock)
one_more lock None = None
one_more lock (Some locks) = cond (nat_lt (length locks) 32) (Some (locks ++ lock ∷ [])) None

-- The lists once a lock is granted: those of the struck are empty, and where it was not held it comes to the asker's.
abbrev pub listed_after : (ℕ → Option (List Lock)) → Lock → ℕ → Bool → (ℕ → Bool) → ℕ → Option (List Lock)
listed_after listed lock asker held struck k =
    cond (struck k) (Some []) (cond (k == asker && not held) (one_more lock (listed k)) (listed k))

-- No slot holds a lock that it may not hold by its list.
pub record Listed (cells : List CellRow) (policies : List PolicyRow) (lists : List LockList) : Type 0 where
  pub of_slot : (k : ℕ) (lock : Lock) → k < 16 → held_by cells policies k lock ≡ true → may_hold (slice_index_or lists k no_list) lock ≡ true

-- lists suit a table of rows in one way
pub Listed-prop : (cells : List CellRow) (policies : List PolicyRow) (lists : List LockList) → IsProp (Listed cells policies lists)
Listed-prop cells policies lists = hlevel props

-- Each lock that passes lies on one row with a lock of the list.
abbrev pub Covers : List Lock → (Lock → Bool) → Type 0
Covers locks passes = (lock : Lock) → passes lock ≡ true → list_any (on_one_row lock) locks ≡ true
