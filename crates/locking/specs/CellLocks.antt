-- Who holds what on a cell, and which rows are compatible.
use Rattle.std.specs.Prelude.{ℕ, ◌≤◌, Bool}
use Rattle.locking.specs.Slots.{has, is_holder}
use Rattle.locking.specs.Locks.{Beside}
use Rattle.locking.specs.declared.mode.CellMode.{CellMode}
use Rattle.locking.specs.declared.mode.CellMode.TheVariants.{ReadCell, WriteCell}
use Rattle.locking.specs.declared.cell.CellRow.{CellRow}

-- whether slot k holds the lock
abbrev pub cell_holds : CellRow → CellMode → ℕ → Bool
cell_holds row ReadCell k = has row.readers k
cell_holds row WriteCell k = is_holder row.writer k

-- Beside a writer no other slot reads.
abbrev pub CellCompatible : CellRow → Type 0
CellCompatible row = (row.writer ≤ 16) × Beside (cell_holds row WriteCell) (cell_holds row ReadCell)

abbrev pub no_cell : CellRow
no_cell = record { readers = 0; writer = 16 }
