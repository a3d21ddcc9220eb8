use Rattle.std.proofs.Common.{rules}
use Rattle.c_calls.proofs.Running.{on_lists}
use Rattle.c_calls.proofs.run.run_on_slices.Goals as goal

pub returns : goal.returns
returns c =
    let stores = c.run_by.new in
    on_lists _ c.new-cell_store.result c.new-right_store.result stores.cells stores.rights _ _ _ _ c.new-cell_store.ensures.holds c.new-right_store.ensures.holds (search rules) (search rules)
    _ _ _ _ c.run_by.ensures.runs
