-- A set of slots, as one leaves it.
use Rattle.std.proofs.Common.{◌≡◌, ℕ, ◌+◌, ◌<◌, ◌≤◌, zero, suc, Bool, true, cond, ◌≢◌, refl, ap, ap₂, ◌∙◌, ⊎_elim, arith}
use Rattle.std.proofs.lemmas.Bool.{cases_eq}
use Rattle.std.proofs.lemmas.Bool.Decides.{nat_tests}
use Rattle.locking.specs.Slots.{without_bit, count_below}

module _ (p q : ℕ → Bool) (i : ℕ) (out : (k : ℕ) → q k ≡ without_bit p i k) where
  same_below : (n : ℕ) → n ≤ i → count_below q n ≡ count_below p n
  same_below zero le = refl
  same_below (suc n) le = let o = out n in ap₂ (λ b c. cond b 1 0 + c) (grind (arith, nat_tests)) (same_below n (omega arith))

  -- so a loop that takes one slot after another ends
  pub fewer_below : (n : ℕ) → p i ≡ true → i < n → count_below q n < count_below p n
  fewer_below zero own lt = absurd (omega (arith, lt))
  fewer_below (suc n) own lt =
      let o = out n in
      ⊎_elim
      (λ (e : n ≡ i). let s = same_below n (omega (arith, e)) in let here : p n ≡ true = ap p e ∙ own in grind (arith, nat_tests))
      (λ (ne : n ≢ i). let s = fewer_below n own (omega (arith, lt, ne)) in grind (arith, nat_tests))
      (cases_eq n i)
