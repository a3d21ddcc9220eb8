use Rattle.locking.specs.Slots.{has}
use Rattle.lock_table.specs.Released.{Released}
use Rattle.lock_table.proofs.Each.{Front}
use Rattle.lock_table.proofs.rows.release_rows.Given as goal

abbrev pub invariant-loop-row : goal.invariant-loop-row
invariant-loop-row g l =
    let row = g.R.LockRow in
    Front (Released row (has l.gone.mask)) row.none l.row-index l.initial.rows l.rows
