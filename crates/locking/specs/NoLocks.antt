-- Where nobody holds a lock, or one slot alone.
use Rattle.std.proofs.Common.{◌≡◌, ℕ, ◌%◌, ◌^◌, Bool, false, ◌&&◌, eqb, ap, arith}
use Rattle.std.proofs.Math.Nat.{zero-div}
use Rattle.std.proofs.lemmas.Bool.{both_ways}
use Rattle.std.proofs.lemmas.Bool.Decides.{nat_tests}
use Rattle.locking.specs.Slots.{has, is_holder}
use Rattle.locking.specs.Locks.{Beside}

pub has_zero : (k : ℕ) → has 0 k ≡ false
unfolding has
has_zero k = ap (λ n. eqb (n % 2) 1) (zero-div (2 ^ k))

pub nobody : (k : ℕ) → is_holder 16 k ≡ false
nobody k = grind (arith, nat_tests)

-- Nobody is beside nobody.
pub alone : (p q : ℕ → Bool) → ((k : ℕ) → p k ≡ false) → Beside p q
alone p q e j k h = absurd (both_ways (p j && q k) (ap (λ b. b && q k) (e j)) h)

-- A single holder is beside itself.
pub one_is_beside : (holder : ℕ) → Beside (is_holder holder) (is_holder holder)
one_is_beside holder j k both = grind (arith, nat_tests)
