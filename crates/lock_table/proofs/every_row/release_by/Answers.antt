use Rattle.std.proofs.Common.{not, ◌&&◌, sym, ap₂, ◌∙◌}
use Rattle.lock_table.specs.Rows.{held_by}
use Rattle.lock_table.proofs.every_row.release_by.Goals as goal

pub returns-in-Some : goal.returns-in-Some
returns-in-Some c =
    record {
      fits = c.release_listed.ensures.fits;
      left = λ k lock. c.release_listed.ensures.left k lock ∙ ap₂ (λ slot row. held_by c.args.cells.now c.args.policies.now k lock && not (slot && row)) (c.only-gone.ensures k) (sym (c.in-Some.ensures.rows lock));
    }
