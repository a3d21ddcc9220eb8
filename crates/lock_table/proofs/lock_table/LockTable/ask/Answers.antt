use Rattle.std.proofs.Common.{◌≡◌, Bool, true, false, cond, not, ◌&&◌, ◌||◌, eqb, ap, sym, ◌∙◌, arith}
use Rattle.std.proofs.lemmas.Bool.Decides.{nat_tests}
use Rattle.locking.specs.Slots.{has}
use Rattle.serial.specs.Locks.{same_lock}
use Rattle.lock_table.specs.Held.{held}
use Rattle.lock_table.proofs.Listing.{held_row, granted_again}
use Rattle.lock_table.proofs.lock_table.LockTable.ask.Goals as goal

-- the asker is not struck
come : (a b h r s x y : Bool) → s ≡ ((x && not b) && y) → (((a && b) || (h && not (s && r))) && not s) ≡ ((a && b) || (h && not s))
come a b h r s x y e = grind (arith, nat_tests)

-- what is listed where the lock is held already
same_list : {X : Type 0} (s b h : Bool) (none more old : X) → s ≡ false → h ≡ true → old ≡ cond s none (cond (b && not h) more old)
same_list s b h none more old e f = grind (arith, nat_tests)

-- and where it comes to the asker's list
new_list : {X : Type 0} (s b h : Bool) (none more old mid new : X) → h ≡ false → mid ≡ cond b more old → new ≡ cond s none mid → new ≡ cond s none (cond (b && not h) more old)
new_list s b h none more old mid new e f g = grind (arith, nat_tests)

pub returns-then-holds : goal.returns-then-holds
returns-then-holds c =
    let t = c.args.self.now in
    let already = sym c.holds.ensures ∙ c.if-holds.true in (
      held_row t.cells t.policies c.args.slot.at c.args.lock t.celled t.policed already,
      granted_again t.cells t.policies c.args.lock c.args.slot.at (has c.empty.result.mask) already c.empty.ensures,
      λ k. same_list (has c.empty.result.mask k) (eqb k c.args.slot.at) (held t c.args.slot.at c.args.lock) _ _ _ (c.empty.ensures k) already,
    )

pub returns : goal.returns
returns c =
    let struck = has c.in_ok-struck.struck.mask in
    let granted = c.in_ok-struck.ensures.asked.1 in (
      c.in_ok-struck.ensures.asked.0,
      record {
        nobody_conflicts = granted.nobody_conflicts;
        signals_struck = granted.signals_struck;
        locks_after = λ k l.
            c.release.ensures.locks k l ∙ ap (λ x. x && not (struck k)) (granted.locks_after k l)
            ∙ come (same_lock l c.args.lock) (eqb k c.args.slot.at) (held c.args.self.now k l) _ (struck k) _ _ (granted.signals_struck k);
      },
      λ k. new_list (struck k) (eqb k c.args.slot.at) (held c.args.self.now c.args.slot.at c.args.lock) _ _ _ _ _ (sym c.holds.ensures ∙ c.if-holds.false) (c.in_ok-struck.ensures.lists k) (c.release.ensures.lists k),
    )
