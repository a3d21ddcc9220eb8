use Rattle.std.proofs.Common.{◌≡◌, ℕ, Bool, true, cond, not, ◌&&◌, eqb, ⊎_elim, ap, ◌∙◌, arith}
use Rattle.std.proofs.lemmas.Bool.{cases_eq}
use Rattle.std.proofs.lemmas.Bool.Decides.{nat_tests}
use Rattle.locking.specs.Slots.{has, without_bit}
use Rattle.lock_table.proofs.Popping.{fewer_below}
use Rattle.lock_table.proofs.lock_table.LockTable.release_slots.Goals as goal

-- one slot more has left the set, and lost its locks
one_more : (gone rest rest' : ℕ → Bool) (held now after : Bool) (i k : ℕ) → gone i ≡ true → ((j : ℕ) → rest' j ≡ without_bit rest i j) → now ≡ (held && not (gone k && not (rest k))) → after ≡ (now && not (eqb k i)) → after ≡ (held && not (gone k && not (rest' k)))
one_more gone rest rest' held now after i k went out before left =
    let o = out k in
    ⊎_elim (λ (e : k ≡ i). let g : gone k ≡ true = ap gone e ∙ went in grind (arith, nat_tests)) (λ ne. grind (arith, nat_tests)) (cases_eq k i)

-- and its list is empty
one_cleared : {X : Type 0} (gone rest rest' : ℕ → Bool) (none old now after : X) (i k : ℕ) → gone i ≡ true → ((j : ℕ) → rest' j ≡ without_bit rest i j) → now ≡ cond (gone k && not (rest k)) none old → after ≡ cond (eqb k i) none now → after ≡ cond (gone k && not (rest' k)) none old
one_cleared gone rest rest' none old now after i k went out before left =
    let o = out k in
    ⊎_elim (λ (e : k ≡ i). let g : gone k ≡ true = ap gone e ∙ went in grind (arith, nat_tests)) (λ ne. grind (arith, nat_tests)) (cases_eq k i)

fewer : (rest rest' : ℕ → Bool) (i k : ℕ) → ((j : ℕ) → rest' j ≡ without_bit rest i j) → rest' k ≡ true → rest k ≡ true
fewer rest rest' i k out e = let o = out k in grind (arith, nat_tests)

pub loop-slot-preserved : goal.loop-slot-preserved
loop-slot-preserved c =
    let popped = c.in-Some.ensures in
    let inv = c.loop-slot.invariant in
    record {
      left = λ k lock. one_more (has c.args.gone.mask) (has c.loop-slot.rest.mask) (has c.pop_lowest.new.self.mask) _ _ _ c.in-Some.slot.at k (inv.within c.in-Some.slot.at popped.0.0) popped.1 (inv.left k lock) (c.release_slot.ensures.locks k lock);
      lists = λ k. one_cleared (has c.args.gone.mask) (has c.loop-slot.rest.mask) (has c.pop_lowest.new.self.mask) _ _ _ _ c.in-Some.slot.at k (inv.within c.in-Some.slot.at popped.0.0) popped.1 (inv.lists k) (c.release_slot.ensures.lists k);
      within = λ k h. inv.within k (fewer (has c.loop-slot.rest.mask) (has c.pop_lowest.new.self.mask) c.in-Some.slot.at k popped.1 h);
    }

pub loop-slot-smaller : goal.loop-slot-smaller
loop-slot-smaller c =
    let popped = c.in-Some.ensures in
    fewer_below (has c.loop-slot.rest.mask) (has c.pop_lowest.new.self.mask) c.in-Some.slot.at popped.1 16 popped.0.0 c.in-Some.slot.below
