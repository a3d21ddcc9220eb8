use Rattle.std.proofs.Common.{◌≡◌, ℕ, ◌<◌, Bool, false, arith}
use Rattle.std.proofs.lemmas.Bool.Decides.{nat_tests, Decides-like}
use Rattle.locking.specs.Slots.{has, is_holder, without_bit}
use Rattle.locking.specs.Locks.{Beside}
use Rattle.locking.proofs.holder.beside.Goals as goal

module _ (holder slot : ℕ) (p rest : ℕ → Bool) (is : slot ≡ holder) (cleared : (k : ℕ) → rest k ≡ without_bit p slot k) where
  to_beside : ((k : ℕ) → rest k ≡ false) → Beside (is_holder holder) p
  to_beside none j k both = let c = cleared k in let z = none k in grind (arith, nat_tests)

  from_beside : holder < 16 → Beside (is_holder holder) p → (k : ℕ) → rest k ≡ false
  from_beside h alone k = let c = cleared k in let a = alone holder k in grind (arith, nat_tests)

pub returns-in-Some : goal.returns-in-Some
returns-in-Some c =
    let is : c.in-Some.slot.at ≡ c.args.holder = c.in-Some.ensures in
    let h : c.args.holder < 16 = omega (arith, c.in-Some.slot.below) in
    Decides-like c.is_empty.result
    (to_beside c.args.holder c.in-Some.slot.at (has c.args.others.mask) (has c.without.result.mask) is c.without.ensures)
    (from_beside c.args.holder c.in-Some.slot.at (has c.args.others.mask) (has c.without.result.mask) is c.without.ensures h)
    c.is_empty.ensures
