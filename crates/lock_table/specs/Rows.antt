-- Rows that are compatible, and who holds which lock by the rows.
use Rattle.std.specs.Prelude.{ℕ, Bool, List, slice_index_or}
use Rattle.std.proofs.Props.{props}
use Rattle.locking.specs.CellLocks.{cell_holds, CellCompatible, no_cell}
use Rattle.locking.specs.PolicyLocks.{policy_holds, PolicyCompatible, no_policy}
use Rattle.locking.specs.declared.cell.CellRow.{CellRow}
use Rattle.locking.specs.declared.policy.PolicyRow.{PolicyRow}
use Rattle.serial.specs.Locks.{Lock, OnCell, OnPolicy}

-- Whether slot k holds the lock; where there is no row, nobody does.
abbrev pub held_by : List CellRow → List PolicyRow → ℕ → Lock → Bool
held_by cells policies k (OnCell mode cell) = cell_holds (slice_index_or cells cell no_cell) mode k
held_by cells policies k (OnPolicy mode policy) = policy_holds (slice_index_or policies policy no_policy) mode k

pub record Compatible (cells : List CellRow) (policies : List PolicyRow) : Type 0 where
  pub of_cell : (c : ℕ) → CellCompatible (slice_index_or cells c no_cell)
  pub of_policy : (p : ℕ) → PolicyCompatible (slice_index_or policies p no_policy)

-- a table of rows is compatible in one way
pub Compatible-prop : (cells : List CellRow) (policies : List PolicyRow) → IsProp (Compatible cells policies)
Compatible-prop cells policies = hlevel props
