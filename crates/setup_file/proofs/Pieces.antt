-- The words of a text, one after another.
use Rattle.std.proofs.Common.{◌≡◌, ℕ, ◌+◌, ◌-◌, suc, ◌<◌, ◌≤◌, Bool, true, false, not, cond, eqb, ltb, List, [], ◌∷◌, length, get_or, take, take_all, drop, Some, None, Option, sym, refl, ap, ◌∙◌, arith, subst}
use Rattle.std.specs.Option.{unwrap_or}
use Rattle.std.specs.List.{slice_split, onto_first, filter, position_or_len, position}
use Rattle.std.proofs.Math.Numerals.{one-add}
use Rattle.std.proofs.lemmas.Bool.{cond-true, cond-false, cond_both, ltb-false, ne_eqb, not_from_false, not-true}
use Rattle.std.proofs.lemmas.List.{at_drop_more, at_drop_all, length-drop}
use Rattle.std.proofs.lemmas.List.Quantifiers.{position-Some}
use Rattle.std.proofs.lemmas.List.Splits.{slice_split-cons_yes, slice_split-cons_no}
use Rattle.std.proofs.lemmas.List.Sums.{position_or_len_is, prefix_len-le-length}

-- what `position` says as a number
pub position_is : (p : ℕ → Bool) (xs : List ℕ) (i : ℕ) → Some i ≡ position p xs → position_or_len p xs ≡ i
position_is p xs i e =
    let at = position-Some p xs i 0 (sym e) in
    position_or_len_is p xs i 0 (omega (arith, at.0)) at.2 (λ _. at.1)

none_is : (m n : ℕ) (b : Bool) → ltb m n ≡ b → None ≡ cond b (Some m) None → n ≤ m
none_is m n true e h = let said : None ≡ Some m = h in absurd cc
none_is m n false e h = ltb-false m n e

pub no_position : (p : ℕ → Bool) (xs : List ℕ) → None ≡ position p xs → length xs ≤ position_or_len p xs
no_position p xs h = none_is (position_or_len p xs) (length xs) (ltb (position_or_len p xs) (length xs)) refl h

pub or_len_is : (p : ℕ → Bool) (xs : List ℕ) (r : Option ℕ) (n : ℕ) → r ≡ position p xs → n ≡ unwrap_or r (length xs) → n ≡ position_or_len p xs
or_len_is p xs r n found is =
    let m = position_or_len p xs in
    let most : m ≤ length xs = prefix_len-le-length (λ x. not (p x)) xs in
    is ∙ ap (λ o. unwrap_or o (length xs)) found
    ∙ cond_both (ltb m (length xs)) (Some m) None (λ o. unwrap_or o (length xs) ≡ m) (λ _. refl) (λ e. let le = ltb-false m (length xs) e in omega (arith, le, most))

-- ---- p ends a word

module _ (p : ℕ → Bool) where
  -- the words of a text
  abbrev pub pieces : List ℕ → List (List ℕ)
  pieces xs = filter (λ word. not (eqb (length word) 0)) (slice_split p xs)

  -- where the first word begins, and where one that begins at once ends
  abbrev pub begin : List ℕ → ℕ
  begin xs = position_or_len (λ b. not (p b)) xs

  abbrev pub end : List ℕ → ℕ
  end xs = position_or_len p xs

  skip_one : (x : ℕ) (xs : List ℕ) → p x ≡ true → pieces (x ∷ xs) ≡ pieces xs
  skip_one x xs e = ap (filter (λ word. not (eqb (length word) 0))) (slice_split-cons_yes p x xs e)

  not_not : (b c : Bool) → b ≡ c → not (not b) ≡ c
  not_not true c e = e
  not_not false c e = e

  begin_more : (x : ℕ) (xs : List ℕ) → p x ≡ true → begin (x ∷ xs) ≡ suc (begin xs)
  begin_more x xs e = cond-true (not (not (p x))) (1 + begin xs) 0 (not_not (p x) true e) ∙ one-add (begin xs)

  end_more : (x : ℕ) (xs : List ℕ) → p x ≡ false → end (x ∷ xs) ≡ suc (end xs)
  end_more x xs e = cond-true (not (p x)) (1 + end xs) 0 (ap not e) ∙ one-add (end xs)

  skip_from : (x : ℕ) (xs : List ℕ) (b : Bool) → p x ≡ b → pieces xs ≡ pieces (drop (begin xs) xs) → pieces (x ∷ xs) ≡ pieces (drop (begin (x ∷ xs)) (x ∷ xs))
  skip_from x xs true e more =
      skip_one x xs e ∙ more ∙ sym (ap (λ n. pieces (drop n (x ∷ xs))) (begin_more x xs e))
  skip_from x xs false e more = sym (ap (λ n. pieces (drop n (x ∷ xs))) (cond-false (not (not (p x))) (1 + begin xs) 0 (not_not (p x) false e)))

  pub skip : (xs : List ℕ) → pieces xs ≡ pieces (drop (begin xs) xs)
  skip [] = refl
  skip (x ∷ xs) = skip_from x xs (p x) refl (skip xs)

  pub none_left : (xs : List ℕ) → length xs ≤ begin xs → pieces xs ≡ []
  none_left xs h = skip xs ∙ at_drop_all pieces xs (begin xs) h

  -- the first part, and the parts behind it
  record First (xs : List ℕ) : Type 0 where
    parts : List (List ℕ)
    split : slice_split p xs ≡ take (end xs) xs ∷ parts
    left : pieces (drop (end xs) xs) ≡ filter (λ word. not (eqb (length word) 0)) parts

  first_from : (x : ℕ) (xs : List ℕ) (b : Bool) → p x ≡ b → First xs → First (x ∷ xs)
  first_from x xs true e f =
      let n = cond-false (not (p x)) (1 + end xs) 0 (ap not e) in
      record {
        parts = slice_split p xs;
        split = slice_split-cons_yes p x xs e ∙ sym (ap (λ k. take k (x ∷ xs) ∷ slice_split p xs) n);
        left = ap (λ k. pieces (drop k (x ∷ xs))) n ∙ skip_one x xs e;
      }
  first_from x xs false e f =
      let n = end_more x xs e in
      record {
        parts = f.parts;
        split = slice_split-cons_no p x xs e ∙ ap (onto_first x) f.split ∙ sym (ap (λ k. take k (x ∷ xs) ∷ f.parts) n);
        left = ap (λ k. pieces (drop k (x ∷ xs))) n ∙ f.left;
      }

  first : (xs : List ℕ) → First xs
  first [] = record { parts = []; split = refl; left = refl }
  first (x ∷ xs) = first_from x xs (p x) refl (first xs)

  kept : (w : List ℕ) (ws : List (List ℕ)) → 0 < length w → filter (λ word. not (eqb (length word) 0)) (w ∷ ws) ≡ w ∷ filter (λ word. not (eqb (length word) 0)) ws
  kept w ws some = cond-true _ _ _ (not_from_false _ (ne_eqb (length w) 0 (λ e. absurd (omega (arith, some, e)))))

  word : (x : ℕ) (xs : List ℕ) → p x ≡ false → pieces (x ∷ xs) ≡ take (end (x ∷ xs)) (x ∷ xs) ∷ pieces (drop (end (x ∷ xs)) (x ∷ xs))
  word x xs e =
      let n = end_more x xs e in
      let f = first (x ∷ xs) in
      ap (filter (λ word. not (eqb (length word) 0))) (f.split ∙ ap (λ k. take k (x ∷ xs) ∷ f.parts) n)
      ∙ kept (x ∷ take (end xs) xs) f.parts (omega arith)
      ∙ ap (λ ws. (x ∷ take (end xs) xs) ∷ ws) (sym f.left)
      ∙ sym (ap (λ k. take k (x ∷ xs) ∷ pieces (drop (end (x ∷ xs)) (x ∷ xs))) n)

  at_word : (xs : List ℕ) (i n : ℕ) → Some i ≡ position (λ b. not (p b)) xs → n ≡ end (drop i xs) → pieces xs ≡ take n (drop i xs) ∷ pieces (drop n (drop i xs))
  at_word xs i n begins ends =
      let at = position-Some (λ b. not (p b)) xs i 0 (sym begins) in
      let from = λ (ws : List ℕ). pieces ws ≡ take (end ws) ws ∷ pieces (drop (end ws) ws) in
      skip xs ∙ ap (λ k. pieces (drop k xs)) (position_is (λ b. not (p b)) xs i begins)
      ∙ subst from (sym (at_drop_more (λ ws. ws) xs i 0 at.0)) (word (get_or xs i 0) (drop (i + 1) xs) (not-true _ at.1))
      ∙ sym (ap (λ k. take k (drop i xs) ∷ pieces (drop k (drop i xs))) ends)

  -- what stands from a place on, as a slice
  abbrev pub from_place : ℕ → List ℕ → List ℕ
  from_place i xs = take (length xs - i) (drop i xs)

  -- the next word is what stands from its beginning to its end
  pub next_word : (xs : List ℕ) (i n : ℕ) → Some i ≡ position (λ b. not (p b)) xs → n ≡ end (from_place i xs) → pieces xs ≡ take n (from_place i xs) ∷ pieces (drop n (from_place i xs))
  next_word xs i n begins ends =
      let rest = take_all (length xs - i) (drop i xs) (omega (arith, length-drop i xs)) in
      at_word xs i n begins (ends ∙ ap end rest) ∙ sym (ap (λ ws. take n ws ∷ pieces (drop n ws)) rest)
