-- How many places of a log are used, and what the fields make of the numbers.
use Rattle.std.proofs.Common.{◌≡◌, ℕ, zero, suc, ◌+◌, ◌*◌, ◌<◌, ◌≤◌, true, cond, eqb, List, length, get_or, set, sym, refl, ◌∙◌, subst, ⊎_elim, add-one, arith, length-set, get_or-set_other, get_or-set_same}
use Rattle.std.proofs.lemmas.List.FromFn.{length-map-range_with_len, get_or-map-range_with_len}
use Rattle.std.proofs.lemmas.List.{ext_get_or}
use Rattle.std.proofs.lemmas.Bool.{cond-true, cond-false, eq-eqb, ne_eqb, cases_eq, and_from}
use Rattle.protocol.specs.Bytes.{two_at, four_at}
use Rattle.log_store.specs.Log.{all_fields, field_at, used_from, listed, place, used, log_list}
use Rattle.log_store.proofs.Numbers.{four_same, two_same}

module _ (f p : ℕ) (t : List ℕ) where
  used_stops : get_or t p 0 ≡ 0 → used_from (suc f) p t ≡ 0
  used_stops e = cond-true _ _ _ (eq-eqb _ _ e)

  used_goes : (get_or t p 0 ≡ 0 → ⊥) → used_from (suc f) p t ≡ 1 + used_from f (p + 9) t
  used_goes ne = cond-false _ _ _ (ne_eqb _ _ ne)

first_place : (p : ℕ) → p + 9 * 0 ≡ p
first_place p = omega arith

later_place : (p j : ℕ) → p + 9 * suc j ≡ p + 9 + 9 * j
later_place p j = omega arith

-- the number of used places, by their tags
pub used_from_is : (f p k : ℕ) (t : List ℕ) → ((j : ℕ) → j < k → get_or t (p + 9 * j) 0 ≡ 0 → ⊥) → k ≤ f → (k < f → get_or t (p + 9 * k) 0 ≡ 0) → used_from f p t ≡ k
used_from_is zero p k t tags le end = omega arith
used_from_is (suc f) p zero t tags le end = used_stops f p t (rw (first_place p) at (end (omega arith)))
used_from_is (suc f) p (suc k) t tags le end =
    let rest = used_from_is f (p + 9) k t (λ j l. rw (later_place p j) at (tags (suc j) (omega arith))) (omega arith) (λ l. rw (later_place p k) at (end (omega arith))) in
    let go = used_goes f p t (rw (first_place p) at (tags 0 (omega arith))) in
    omega arith

pub used_from_tags : (f p : ℕ) (t : List ℕ) (j : ℕ) → j < used_from f p t → get_or t (p + 9 * j) 0 ≡ 0 → ⊥
used_from_tags zero p t j l e = omega arith
used_from_tags (suc f) p t zero l e = omega (arith, used_stops f p t (rw (first_place p) at e))
used_from_tags (suc f) p t (suc j) l e =
    ⊎_elim
    (λ z. omega (arith, used_stops f p t z))
    (λ ne. let go = used_goes f p t ne in used_from_tags f (p + 9) t j (omega arith) (rw (later_place p j) at e))
    (cases_eq (get_or t p 0) 0)

-- that number depends on no byte before the places
pub used_from_same : (f p : ℕ) (t u : List ℕ) → ((j : ℕ) → p ≤ j → get_or u j 0 ≡ get_or t j 0) → used_from f p u ≡ used_from f p t
used_from_same zero p t u same = refl
used_from_same (suc f) p t u same =
    let tag = same p (omega arith) in
    let rest = used_from_same f (p + 9) t u (λ j l. same j (omega arith)) in
    cc

pub length_listed : (n : ℕ) (t : List ℕ) (k : ℕ) → length (listed n t k) ≡ n
length_listed n t zero = length-map-range_with_len (λ i. four_at t (4 * i)) 0 n
length_listed n t (suc k) = length-set (listed n t k) _ _ ∙ length_listed n t k

pub length_log : (n : ℕ) (t : List ℕ) → length (log_list n t) ≡ n
length_log n t = length_listed n t (used n t)

-- a base number, and a number after one more field
pub listed_none : (n : ℕ) (t : List ℕ) (i : ℕ) → i < n → get_or (listed n t 0) i 0 ≡ four_at t (4 * i)
listed_none n t i h = get_or-map-range_with_len (λ j. four_at t (4 * j)) 0 n i i 0 h (omega arith)

pub listed_more : (n : ℕ) (t : List ℕ) (k i : ℕ) → i < n → get_or (listed n t (suc k)) i 0 ≡ cond (eqb (two_at t (place n k + 3)) i) (four_at t (place n k + 5)) (get_or (listed n t k) i 0)
listed_more n t k i h =
    let ns = listed n t k in
    let q = two_at t (place n k + 3) in
    let v = four_at t (place n k + 5) in
    let size = length_listed n t k in
    ⊎_elim
    (λ (e : q ≡ i). let l : q < length ns = omega arith in subst (λ x. get_or (set ns q v) x 0 ≡ v) e (get_or-set_same ns q v 0 l) ∙ sym (cond-true _ _ _ (eq-eqb q i e)))
    (λ ne. get_or-set_other ns q i v 0 (λ e. ne (sym e)) ∙ sym (cond-false _ _ _ (ne_eqb q i ne)))
    (cases_eq q i)

-- The list depends on the base and the used places alone, and the number at a position on no base number before it.
pub listed_same_at : (n : ℕ) (t u : List ℕ) (k i : ℕ) → i < n → ((j : ℕ) → 4 * i ≤ j → j < place n k → get_or u j 0 ≡ get_or t j 0) → get_or (listed n u k) i 0 ≡ get_or (listed n t k) i 0
listed_same_at n t u zero i h same = listed_none n u i h ∙ four_same t u (4 * i) (λ j a b. same j a (omega arith)) ∙ sym (listed_none n t i h)
listed_same_at n t u (suc k) i h same =
    let two = two_same t u (place n k + 3) (λ j a b. same j (omega arith) (omega arith)) in
    let four = four_same t u (place n k + 5) (λ j a b. same j (omega arith) (omega arith)) in
    let rest = listed_same_at n t u k i h (λ j a b. same j a (omega arith)) in
    let new = listed_more n u k i h in
    let old = listed_more n t k i h in
    cc

pub listed_same : (n : ℕ) (t u : List ℕ) (k : ℕ) → ((j : ℕ) → j < place n k → get_or u j 0 ≡ get_or t j 0) → listed n u k ≡ listed n t k
listed_same n t u k same =
    let a = length_listed n u k in
    let b = length_listed n t k in
    ext_get_or 0 (listed n u k) (listed n t k) (a ∙ sym b) (λ i l. listed_same_at n t u k i (omega arith) (λ j _ h. same j h))

-- fields up to a place, and one more
pub all_fields_more : (n : ℕ) (t : List ℕ) (k : ℕ) → all_fields n t k ≡ true → field_at n t (place n k) ≡ true → all_fields n t (k + 1) ≡ true
all_fields_more n t k all here = rw add-one (and_from _ _ here all)
