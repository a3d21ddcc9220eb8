-- The laws of the vector order: the bits of two rights together are a right, and contain whatever weight either contains.
use Rattle.std.specs.Prelude.{◌≡◌, ℕ, true, ◌||◌, bit_and, bit_or}
use Rattle.std.proofs.Common.{arith, ap, ◌∙◌, ⊎_elim}
use Rattle.std.proofs.lemmas.Bool.{leb-true, le-leb, eqb-true, eq-eqb, or_cases}
use Rattle.std.proofs.lemmas.Nat.{or_comm, or_lt}
use Rattle.std.proofs.lemmas.Nat.Bits.{bit_at_and, bit_at_or, same_from_bits}
use Rattle.std.specs.Int.{bit_at}
use Rattle.rights.specs.Orders.{vector_right, vector_joined, vector_allows, weight}
use Rattle.rights.specs.declared.order.Operation.{Operation}

pub vector_join_is_right : (a b : ℕ) → vector_right a ≡ true → vector_right b ≡ true → vector_right (vector_joined a b) ≡ true
vector_join_is_right a b h k =
    let below = or_lt 3 a b (omega (arith, leb-true a 7 h)) (omega (arith, leb-true b 7 k)) in
    le-leb (bit_or a b) 7 (omega arith)

contains : (a b w : ℕ) → bit_and a w ≡ w → bit_and (bit_or a b) w ≡ w
contains a b w h = same_from_bits _ _ (λ i.
    let each = ap (λ n. bit_at n i) h in
    let before = bit_at_and a w i in
    let after = bit_at_and (bit_or a b) w i in
    let both = bit_at_or a b i in
    grind arith)

pub vector_join_permits : (a b : ℕ) (p : Operation) → vector_right a ≡ true → vector_right b ≡ true → (vector_allows a p || vector_allows b p) ≡ true → vector_allows (vector_joined a b) p ≡ true
vector_join_permits a b p h k e = ⊎_elim
    (λ l. eq-eqb _ _ (contains a b (weight p) (eqb-true _ _ l)))
    (λ r. eq-eqb _ _ (ap (λ n. bit_and n (weight p)) (or_comm a b) ∙ contains b a (weight p) (eqb-true _ _ r)))
    (or_cases _ _ e)
