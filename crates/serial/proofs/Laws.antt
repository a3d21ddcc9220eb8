-- The laws of an order give those of its setup, at every code.
use Rattle.std.proofs.Common.{◌≡◌, ℕ, Bool, true, ◌||◌, List, arith}
use Rattle.protocol.specs.declared.policy.Policy.{Policy}
use Rattle.rights.specs.declared.order.Operation.{Operation}
use Rattle.serial.specs.Words.{Laws, setup_of}

module _ (right : ℕ → Bool) (joined : ℕ → ℕ → ℕ) (allows : ℕ → Operation → Bool) (policies : List Policy)
    (join_is_right : (a b : ℕ) → right a ≡ true → right b ≡ true → right (joined a b) ≡ true)
    (join_permits : (a b : ℕ) (p : Operation) → right a ≡ true → right b ≡ true → (allows a p || allows b p) ≡ true → allows (joined a b) p ≡ true) where
  pub setup_laws : Laws (setup_of right joined allows policies)
  setup_laws = record {
    join_is_right = λ a b h k. grind (arith, join_is_right a b h k);
    join_permits = λ a b p h k e. grind (arith, join_is_right a b h k, join_permits a b p h k);
  }
