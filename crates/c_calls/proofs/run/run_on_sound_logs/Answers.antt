use Rattle.std.proofs.Common.{◌∙◌, rules}
use Rattle.std.proofs.lemmas.Bool.{cond-true}
use Rattle.c_calls.proofs.Running.{on_logs}
use Rattle.c_calls.proofs.run.run_on_sound_logs.Goals as goal

pub returns : goal.returns
returns c =
    let cells = c.new-cell_store.ensures in
    let rights = c.new-right_store.ensures in
    let stores = c.run_by.new in
    on_logs _ c.new-cell_store.result c.new-right_store.result stores.cells stores.rights _ _ _ _ _ _
    (cells.count ∙ cond-true _ _ _ c.requires.cells) (rights.count ∙ cond-true _ _ _ c.requires.rights) cells.holds rights.holds (search rules) (search rules)
    _ _ _ _ c.run_by.ensures.runs
