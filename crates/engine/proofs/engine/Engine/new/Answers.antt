use Rattle.std.proofs.Common.{sym, refl, ap, ◌∙◌, subst, arith}
use Rattle.serial.specs.OneDay.{morning}
use Rattle.engine.specs.Stores.{lists_of, first_cells}
use Rattle.engine.specs.Owning.{OwnCells}
use Rattle.engine.specs.Beginning.{begin_state}
use Rattle.engine.proofs.Stepping.{all_cells}
use Rattle.engine.proofs.engine.Engine.new.Goals as goal

pub invariant_of-result-clause-own_cells : goal.invariant_of-result-clause-own_cells
invariant_of-result-clause-own_cells g c =
    let s = lists_of g.C.Store g.R.Store c.args.cells.now c.args.rights.now in
    subst (OwnCells 0) (sym (ap (λ σ. σ.slots) (c.closed.ensures s))) refl

pub invariant_of-result-2-clause-own_cells : goal.invariant_of-result-2-clause-own_cells
invariant_of-result-2-clause-own_cells g c =
    let s = lists_of g.C.Store g.R.Store c.args.cells.now c.args.rights.now in
    subst (OwnCells c.size-size.result) (sym (ap (λ σ. σ.slots) (c.new.ensures s))) refl

pub returns-in_default-clause-state : goal.returns-in_default-clause-state
returns-in_default-clause-state g c =
    let s = lists_of g.C.Store g.R.Store c.args.cells.now c.args.rights.now in
    c.closed.ensures (first_cells 0 s) ∙ ap (λ o. begin_state o s) c.in_default.ensures.answer

pub returns-clause-state : goal.returns-clause-state
returns-clause-state g c =
    let s = lists_of g.C.Store g.R.Store c.args.cells.now c.args.rights.now in
    c.new.ensures (first_cells c.size-size.result s) ∙ ap morning (all_cells c.size-size.result s (omega (arith, c.size-size.ensures))) ∙ ap (λ o. begin_state o s) c.in-Ok.ensures.answer
