use Rattle.std.proofs.Common.{◌≡◌, ℕ, ◌≤◌, refl, arith, rules}
use denote.Enum.Bare.{sameb}
use Rattle.locking.specs.Modes.{cell_says}
use Rattle.locking.specs.Locks.{put, shared, IsFree}
use Rattle.locking.specs.CellLocks.{cell_holds, CellCompatible}
use Rattle.locking.specs.CellLaws.{cell_one_mode, cell_one_holder}
use Rattle.locking.specs.contracts.mode.CellMode.{the_type}
use Rattle.locking.specs.declared.mode.CellMode.{CellMode}
use Rattle.locking.specs.declared.mode.CellMode.TheVariants.{ReadCell, WriteCell}
use Rattle.locking.specs.declared.cell.CellRow.{CellRow}
use Rattle.locking.proofs.LockLaws.{beside_after}
use Rattle.locking.proofs.cell.CellRowLockRow.with.Goals as goal

fits : (row after : CellRow) (mode : CellMode) (slot : ℕ) → IsFree cell_says (cell_holds row) mode slot → (after.writer ≤ 16) → ((m : CellMode) (k : ℕ) → cell_holds after m k ≡ put (sameb the_type m mode) (shared cell_says m) (cell_holds row m) slot k) → CellCompatible row → CellCompatible after
fits row after mode slot free place same old = (
  place,
  beside_after cell_says (cell_holds row) mode slot (sameb the_type) cell_one_mode free (cell_one_holder row) WriteCell ReadCell (cell_holds after WriteCell) (cell_holds after ReadCell) refl refl old.1 (same WriteCell) (same ReadCell),
)

pub returns-in-ReadCell-clause-fits : goal.returns-in-ReadCell-clause-fits
returns-in-ReadCell-clause-fits c old free =
    fits c.args.self (record c.args.self { readers = c.mask_with.result }) c.args.mode c.args.slot.at free old.0 (search rules) old

pub returns-in-WriteCell-clause-fits : goal.returns-in-WriteCell-clause-fits
returns-in-WriteCell-clause-fits c old free =
    fits c.args.self (record c.args.self { writer = c.get.result }) c.args.mode c.args.slot.at free (omega (arith, c.get.ensures, c.args.slot.below)) (search rules) old
