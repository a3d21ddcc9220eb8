use Rattle.std.proofs.Common.{◌≡◌, true, length, drop, sym, refl, ap, ◌∙◌, subst}
use Rattle.workspace.specs.Workspaces.{changes_of}
use Rattle.engine.specs.Owning.{all_own, OwnCells}
use Rattle.engine.specs.Stores.{lists_of, first_cells}
use Rattle.engine.specs.Tables.{slots_in}
use Rattle.engine.proofs.Applying.{applied_size, first_applied}
use Rattle.engine.proofs.Owning.{own_at, own_ended, applied_beyond}
use Rattle.engine.proofs.Stepping.{committed}
use Rattle.engine.proofs.engine.Engine.commit_in.Goals as goal

pub unreachable-requires : goal.unreachable-requires
unreachable-requires g c = let e = (c.commit.ensures c.requires).answers_place in cc

pub invariant_of-self-clause-own_cells : goal.invariant_of-self-clause-own_cells
invariant_of-self-clause-own_cells g c =
    let e = c.args.self.now in
    subst (OwnCells e.size) (sym (c.commit.ensures c.requires).slots_after) (own_ended e.size c.args.asker.id (slots_in e.tables) e.own_cells)

pub returns : goal.returns
returns g c =
    let e = c.args.self.now in
    let s = lists_of g.C.Store g.R.Store e.cells.now e.rights.now in
    let t = lists_of g.C.Store g.R.Store c.store_all.new.cells c.store_all.new.rights in
    let stored = c.store_all.ensures in
    let changes = changes_of c.workspace-work.result in
    let own = subst (λ ks. all_own e.size ks ≡ true) (sym c.workspace-work.ensures) (own_at e.size e.tables c.args.asker.slot.at e.own_cells) in
    let sizes = applied_size changes s in
    let first = ap (first_cells e.size) stored.lists ∙ first_applied e.size changes s in
    record {
      answered = committed (first_cells e.size s) (first_cells e.size t) e.tables c.commit.new.self c.args.asker c.in-Some.place (rw (← c.workspace-work.ensures) first) (rw c.in-Some.is at (c.commit.ensures c.requires));
      same_setup = refl;
      keeps_stores = record {
        same_cells = refl;
        same_rights = refl;
        lent = stored.lent;
        as_many_cells = ap (λ u. length u.cells) stored.lists ∙ sizes.0;
        as_many_rights = ap (λ u. length u.rights) stored.lists ∙ sizes.1;
        same_size = refl;
        other_cells_stay = ap (λ u. drop e.size u.cells) stored.lists ∙ applied_beyond e.size changes s own;
      };
      writes = rw c.workspace-work.ensures at stored.writes;
    }
