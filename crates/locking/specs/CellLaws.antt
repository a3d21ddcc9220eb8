-- What a row of a cell proves as a row of locks.
use Rattle.std.proofs.Common.{◌≡◌, ℕ, Bool, true, false, [], ◌∷◌, arith}
use Rattle.std.proofs.lemmas.Bool.{true≢false}
use Rattle.std.proofs.lemmas.Bool.Decides.{nat_tests}
use denote.Enum.Bare.{sameb, same_true}
use Rattle.std.specs.List.{list_any}
use Rattle.locking.specs.CellLocks.{cell_holds, CellCompatible, no_cell}
use Rattle.std.proofs.Props.{props}
use Rattle.locking.specs.declared.cell.CellRow.{CellRow}
use Rattle.locking.specs.Modes.{cell_says}
use Rattle.locking.specs.Locks.{Beside, shared, some_says, hears}
use Rattle.locking.specs.declared.mode.LockAnswer.TheVariants.{Signal}
use Rattle.locking.specs.NoLocks.{has_zero, nobody, alone, one_is_beside}
use Rattle.locking.specs.contracts.mode.CellMode.{the_type}
use Rattle.locking.specs.declared.mode.CellMode.{CellMode}
use Rattle.locking.specs.declared.mode.CellMode.TheVariants.{ReadCell, WriteCell}

pub each_cell_mode : (p : CellMode → Bool) (m : CellMode) → p m ≡ true → list_any p (ReadCell ∷ WriteCell ∷ []) ≡ true
each_cell_mode p ReadCell e = grind (arith, nat_tests)
each_cell_mode p WriteCell e = grind (arith, nat_tests)

pub cell_one_mode : (m n : CellMode) → sameb the_type m n ≡ true → m ≡ n
cell_one_mode = same_true the_type tt

pub cell_one_holder : (row : CellRow) (m : CellMode) → shared cell_says m ≡ false → Beside (cell_holds row m) (cell_holds row m)
cell_one_holder row ReadCell e = absurd (true≢false e)
cell_one_holder row WriteCell e = one_is_beside row.writer

pub no_cell_held : (m : CellMode) (k : ℕ) → cell_holds no_cell m k ≡ false
no_cell_held ReadCell k = has_zero k
no_cell_held WriteCell k = nobody k

pub no_cell_fits : CellCompatible no_cell
no_cell_fits = (omega arith, alone _ _ (no_cell_held WriteCell))

pub cell_one_proof : (row : CellRow) → IsProp (CellCompatible row)
cell_one_proof row = hlevel props

-- No lock on a cell ever says signal, so nobody is struck for one.
pub cells_strike_nobody : (holds : CellMode → ℕ → Bool) (asked : CellMode) (asker k : ℕ) → hears cell_says (ReadCell ∷ WriteCell ∷ []) holds Signal asked asker k ≡ false
unfolding some_says
cells_strike_nobody holds ReadCell asker k = grind (arith, nat_tests)
cells_strike_nobody holds WriteCell asker k = grind (arith, nat_tests)
