use Rattle.std.proofs.Common.{◌≡◌, Bool, false, not, ◌&&◌, ap, sym, ◌∙◌, arith}
use Rattle.locking.specs.Slots.{has}
use Rattle.lock_table.specs.Released.{Released}
use Rattle.lock_table.proofs.Each.{front_more, front_all}
use Rattle.lock_table.proofs.rows.release_rows.Goals as goal

still_none : {b : Bool} (gone : Bool) → b ≡ false → b ≡ (b && not gone)
still_none gone e = e ∙ ap (λ x. x && not gone) (sym e)

pub loop-row-preserved : goal.loop-row-preserved
loop-row-preserved g c =
    let row = g.R.LockRow in
    front_more (Released row (has c.args.gone.mask)) row.none c.args.rows.now c.loop-row.rows c.loop-row.row-index c.without.result c.row-item.result (omega arith) c.loop-row.invariant
    (c.without.ensures.fits, c.without.ensures.same)

pub returns : goal.returns
returns g c =
    let row = g.R.LockRow in
    front_all (Released row (has c.args.gone.mask)) row.none c.args.rows.now c.loop-row.rows c.loop-row.row-index (omega arith) c.loop-row.auto.rows
    (λ old. old, λ m k. still_none (has c.args.gone.mask k) (g.met.R.LockRow.none_held m k)) c.loop-row.invariant
