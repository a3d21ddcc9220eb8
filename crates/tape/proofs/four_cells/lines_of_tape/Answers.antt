use Rattle.std.proofs.Common.{◌≡◌, subst, ap₂}
use Rattle.serial.specs.Words.{Store}
use Rattle.serial.specs.Changes.{apply}
use Rattle.engine.proofs.Slices.{slice_lists, wrote_lists}
use Rattle.tape.specs.FourCells.{four_cells_setup}
use Rattle.tape.specs.Runs.{RunsTape}
use Rattle.tape.proofs.Runs.{runs_as}
use Rattle.tape.proofs.four_cells.lines_of_tape.Goals as goal

pub returns-clause-runs : goal.returns-clause-runs
returns-clause-runs c =
    let ran = c.run_tape.result in
    let evening = slice_lists c.run_tape.new.cells c.run_tape.new.rights in
    let runs = runs_as _ _ _ _ _ _ _ _ (λ ks w. wrote_lists _ _ _ _ ks w) ran c.run_tape.ensures.runs in
    let lists = ap₂ (λ cells rights. record { cells = cells; rights = rights }) c.new-cell_store.ensures.holds c.new-right_store.ensures.holds in
    (evening, subst (λ (before : Store). RunsTape four_cells_setup before evening (λ changes. evening ≡ apply changes before) c.args.tape.now c.args.buffer.now c.run_tape.new.buffer ran) lists runs)
