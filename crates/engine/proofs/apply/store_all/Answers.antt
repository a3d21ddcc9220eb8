use Rattle.std.proofs.Common.{◌<◌, [], ◌∷◌, length, get_or, take, refl, rules}
use Rattle.std.proofs.lemmas.List.{take_more, take_all}
use Rattle.protocol.specs.declared.policy.Object.TheVariants.{OfCell}
use Rattle.workspace.specs.Workspaces.{changes_of}
use Rattle.serial.specs.Words.{Change}
use Rattle.engine.proofs.Applying.{apply_more, apply_all}
use Rattle.engine.proofs.Writing.{wrote_none, wrote_both}
use Rattle.engine.proofs.apply.store_all.Goals as goal

abbrev nothing : Change
nothing = record { object = OfCell 0; value = 0 }

pub loop-change-init : goal.loop-change-init
loop-change-init g c = (refl, record { by_cells = refl; by_rights = refl }, wrote_none g.C.Store g.R.Store _ _)

pub loop-change-preserved : goal.loop-change-preserved
loop-change-preserved g c =
    let at = c.loop-change.change-index in
    let changes = changes_of c.args.work.now in
    let here : at < length changes = rw c.as_slice-change-items.ensures at c.loop-change-test.true in
    let stored = c.store_change.ensures in
    let one = rw c.as_slice-change-items.ensures at stored.writes in (
      apply_more changes at nothing _ _ _ here c.loop-change.invariant.0 (rw (← c.as_slice-change-items.ensures) stored.lists),
      search rules,
      rw (take_more changes at nothing here) (wrote_both g.C.Store g.R.Store (take at changes) (get_or changes at nothing ∷ []) _ _ _ _ _ _ c.loop-change.invariant.2 one),
    )

pub returns-clause-lists : goal.returns-clause-lists
returns-clause-lists g c =
    let all = rw c.as_slice-change-items.ensures at c.loop-change-test.false in
    apply_all (changes_of c.args.work.now) c.loop-change.change-index _ _ all c.loop-change.invariant.0

pub returns-clause-writes : goal.returns-clause-writes
returns-clause-writes g c =
    let all = rw c.as_slice-change-items.ensures at c.loop-change-test.false in
    rw (take_all c.loop-change.change-index (changes_of c.args.work.now) all) at c.loop-change.invariant.2
