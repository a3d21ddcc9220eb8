-- The laws of the ladder order: the larger of two rungs is a rung, and reaches whatever threshold either reaches.
use Rattle.std.specs.Prelude.{◌≡◌, ℕ, max, true, ◌||◌, nat_le}
use Rattle.std.proofs.Common.{arith}
use Rattle.std.proofs.lemmas.Bool.Decides.{nat_tests}
use Rattle.rights.specs.Orders.{ladder_right, ladder_joined, ladder_allows, threshold}
use Rattle.rights.specs.declared.order.Operation.{Operation}

pub ladder_join_is_right : (a b : ℕ) → ladder_right a ≡ true → ladder_right b ≡ true → ladder_right (ladder_joined a b) ≡ true
ladder_join_is_right a b h k = grind (arith, nat_tests)

larger_reaches : (t a b : ℕ) → (nat_le t a || nat_le t b) ≡ true → nat_le t (max a b) ≡ true
larger_reaches t a b e = grind (arith, nat_tests)

pub ladder_join_permits : (r w s a b : ℕ) (p : Operation) → ladder_right a ≡ true → ladder_right b ≡ true → (ladder_allows r w s a p || ladder_allows r w s b p) ≡ true → ladder_allows r w s (ladder_joined a b) p ≡ true
ladder_join_permits r w s a b p h k e = larger_reaches (threshold r w s p) a b e
