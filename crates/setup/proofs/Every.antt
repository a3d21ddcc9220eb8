-- A test of each element of a list: over its positions, and what it says of one of them.
use Rattle.std.proofs.Common.{◌≡◌, ℕ, zero, suc, ◌+◌, ◌<◌, Bool, true, List, length, get_or, drop, Some, subst, arith}
use Rattle.std.specs.List.{list_all, range_with_len, slice_get}
use Rattle.std.proofs.lemmas.Bool.{lt-ltb}
use Rattle.std.proofs.lemmas.List.{drop_all, drop_more}
use Rattle.std.proofs.lemmas.List.Elements.{All-get_or}
use Rattle.std.proofs.lemmas.List.Sums.{AllPass-from_list_all}
use Rattle.std.proofs.lemmas.Option.{get_or_from_slice_get, slice_get_within}
use Rattle.setup.specs.Admission.{stored}

module _ (right : ℕ → Bool) (rs : List ℕ) where
  stored_from : (n at : ℕ) → at + n ≡ length rs → list_all (stored right rs) (range_with_len at n) ≡ list_all right (drop at rs)
  stored_from zero at e = let none = drop_all at rs (omega arith) in cc
  stored_from (suc n) at e =
      let here = lt-ltb at (length rs) (omega arith) in
      let rest = stored_from n (at + 1) (omega arith) in
      let split = drop_more rs at 0 (omega arith) in
      cc

  pub every_stored : (n : ℕ) → n ≡ length rs → list_all (stored right rs) (range_with_len 0 n) ≡ list_all right rs
  every_stored n e = stored_from n 0 (omega arith)

module _ {X : Type 0} (p : X → Bool) where
  pub every_at : (xs : List X) (i : ℕ) (d : X) → list_all p xs ≡ true → i < length xs → p (get_or xs i d) ≡ true
  every_at xs i d e h = All-get_or (λ x. p x ≡ true) xs i d h (AllPass-from_list_all p xs e)

  pub every_nth : (xs : List X) (i : ℕ) (x : X) → list_all p xs ≡ true → slice_get xs i ≡ Some x → p x ≡ true
  every_nth xs i x e h = subst (λ y. p y ≡ true) (get_or_from_slice_get xs i x x h) (every_at xs i x e (slice_get_within xs i x h))
