-- What a loop does to each element of a list, one after another.
use Rattle.std.proofs.Common.{◌≡◌, ℕ, ◌+◌, ◌<◌, ◌≤◌, ◌≢◌, ◌⊎◌, List, length, get_or, set, sym, ◌∙◌, subst, inl, inr, arith}
use Rattle.std.proofs.lemmas.List.{get_or-set_same, get_or-set_other, get_or_past, get_or_default}
use Rattle.std.proofs.lemmas.Bool.{cases_eq, cases_lt}

module _ {A : Type 0} (R : A → A → Type 0) (d : A) where
  -- The elements below n are changed as R says, and the others stand.
  abbrev pub Front : ℕ → List A → List A → Type 0
  Front n xs ys = ((k : ℕ) → k < n → R (get_or xs k d) (get_or ys k d)) × ((k : ℕ) → n ≤ k → get_or ys k d ≡ get_or xs k d)

  pub front_more : (xs ys : List A) (n : ℕ) (z e : A) → n < length ys → Front n xs ys → R (get_or ys n e) z → Front (n + 1) xs (set ys n z)
  front_more xs ys n z e lt f r = (λ k h. below k h (cases_eq k n), λ k h. get_or-set_other ys n k z d (omega arith) ∙ f.1 k (omega arith))
    where
      below : (k : ℕ) → k < n + 1 → (k ≡ n) ⊎ (k ≢ n) → R (get_or xs k d) (get_or (set ys n z) k d)
      below k h (inl e') =
          let here : R (get_or xs n d) (get_or (set ys n z) n d) =
          subst (λ y. R (get_or xs n d) y) (sym (get_or-set_same ys n z d lt)) (subst (λ y. R y z) (get_or_default ys n e d lt ∙ f.1 n (omega arith)) r) in
          subst (λ j. R (get_or xs j d) (get_or (set ys n z) j d)) (sym e') here
      below k h (inr ne) = subst (R (get_or xs k d)) (sym (get_or-set_other ys n k z d ne)) (f.0 k (omega arith))

  -- at the end, where R holds of the default
  pub front_all : (xs ys : List A) (n : ℕ) → length xs ≤ n → length ys ≡ length xs → R d d → Front n xs ys → (k : ℕ) → R (get_or xs k d) (get_or ys k d)
  front_all xs ys n all same at_default f k = go (cases_lt k n)
    where
      go : (k < n) ⊎ (n ≤ k) → R (get_or xs k d) (get_or ys k d)
      go (inl h) = f.0 k h
      go (inr h) = subst (λ y. R (get_or xs k d) y) (sym (f.1 k h)) (subst (λ y. R y y) (sym (get_or_past xs k d (omega arith))) at_default)
