-- The places of a log as a list of them, and what the used ones say.
use Rattle.std.proofs.Common.{◌≡◌, ℕ, zero, suc, ◌+◌, ◌*◌, ◌<◌, ◌≤◌, Bool, true, false, not, cond, eqb, ◌&&◌, List, [], ◌∷◌, ◌++◌, length, get_or, reverse, take, drop, Option, Some, None, sym, refl, ap, ap₂, ◌∙◌, add-one, arith}
use Rattle.std.specs.List.{find, list_all, prefix_len}
use Rattle.std.specs.Simd.{first_chunks}
use Rattle.std.proofs.Math.Bool.{and_comm}
use Rattle.std.proofs.lemmas.List.{drop-drop, get_or-drop, get_or-take, reverse-append, take_more}
use Rattle.std.proofs.lemmas.List.Folds.{list_all_more}
use Rattle.std.proofs.lemmas.List.Sums.{prefix_len-le-length}
use Rattle.protocol.specs.Bytes.{two_at, four_at}
use Rattle.log_store.specs.Log.{all_fields, field_at, listed, place, places, place_list, used, used_from}
use Rattle.log_store.proofs.LogLaws.{listed_more, listed_none}

length_chunks : (m : ℕ) (xs : List ℕ) → length (first_chunks 9 m xs) ≡ m
length_chunks zero xs = refl
length_chunks (suc m) xs = ap suc (length_chunks m (drop 9 xs))

pub length_places : (n : ℕ) (t : List ℕ) → length (place_list n t) ≡ places n t
length_places n t = length_chunks (places n t) (drop (4 * n) t)

-- the bytes of one place
chunk_at : (m j i : ℕ) (xs : List ℕ) → j < m → i < 9 → get_or (get_or (first_chunks 9 m xs) j []) i 0 ≡ get_or xs (9 * j + i) 0
chunk_at zero j i xs h l = absurd (omega arith)
chunk_at (suc m) zero i xs h l =
    let on : i ≡ 9 * 0 + i = omega arith in
    get_or-take 9 xs i 0 l ∙ ap (λ p. get_or xs p 0) on
chunk_at (suc m) (suc j) i xs h l =
    let on : 9 * suc j + i ≡ 9 + (9 * j + i) = omega arith in
    chunk_at m j i (drop 9 xs) (omega arith) l ∙ get_or-drop 9 xs (9 * j + i) 0 ∙ ap (λ p. get_or xs p 0) (sym on)

place_at : (n : ℕ) (t : List ℕ) (j i : ℕ) → j < places n t → i < 9 → get_or (get_or (place_list n t) j []) i 0 ≡ get_or t (place n j + i) 0
place_at n t j i h l =
    let on : 4 * n + (9 * j + i) ≡ place n j + i = omega arith in
    chunk_at (places n t) j i (drop (4 * n) t) h l ∙ get_or-drop (4 * n) t (9 * j + i) 0 ∙ ap (λ p. get_or t p 0) on

-- the used places are those before the first whose tag is 0
abbrev pub is_used : List ℕ → Bool
is_used x = not (eqb (get_or x 0 0) 0)

used_step : (b : Bool) (k : ℕ) → cond b 0 (1 + k) ≡ cond (not b) (1 + k) 0
used_step true k = refl
used_step false k = refl

used_from_places : (f p : ℕ) (t : List ℕ) → used_from f p t ≡ prefix_len is_used (first_chunks 9 f (drop p t))
used_from_places zero p t = refl
used_from_places (suc f) p t =
    let here : p + 0 ≡ p = omega arith in
    let tag = get_or-take 9 (drop p t) 0 0 (omega arith) ∙ get_or-drop p t 0 0 ∙ ap (λ q. get_or t q 0) here in
    let later = drop-drop 9 p t in
    let rest = used_from_places f (p + 9) t in
    let step = used_step (eqb (get_or t p 0) 0) (used_from f (p + 9) t) in
    cc

pub used_places : (n : ℕ) (t : List ℕ) → used n t ≡ prefix_len is_used (place_list n t)
used_places n t = used_from_places (places n t) (4 * n) t

pub used_le : (n : ℕ) (t : List ℕ) → used n t ≤ places n t
used_le n t = omega (arith, used_places n t, prefix_len-le-length is_used (place_list n t), length_places n t)

-- all of the first k places are fields
field_place : (n : ℕ) (t : List ℕ) (j : ℕ) → j < places n t → field_at n (get_or (place_list n t) j []) 0 ≡ field_at n t (place n j)
field_place n t j h =
    let a = place_at n t j 0 h (omega arith) in
    let b = place_at n t j 1 h (omega arith) in
    let c = place_at n t j 2 h (omega arith) in
    let d = place_at n t j 3 h (omega arith) in
    let e = place_at n t j 4 h (omega arith) in
    let none : place n j + 0 ≡ place n j = omega arith in
    let two : place n j + 1 + 1 ≡ place n j + 2 = omega arith in
    let four : place n j + 3 + 1 ≡ place n j + 4 = omega arith in
    rw (two, four) (cc)

pub all_fields_places : (n : ℕ) (t : List ℕ) (k : ℕ) → k ≤ places n t → all_fields n t k ≡ list_all (λ x. field_at n x 0) (take k (place_list n t))
all_fields_places n t zero h = refl
all_fields_places n t (suc k) h =
    let p : List ℕ → Bool = λ x. field_at n x 0 in
    let more = list_all_more p (place_list n t) k [] (omega (arith, length_places n t)) in
    let same = ap₂ (λ a b. a && b) (sym (field_place n t k (omega arith))) (all_fields_places n t k (omega arith)) in
    same ∙ and_comm (p (get_or (place_list n t) k [])) (list_all p (take k (place_list n t))) ∙ sym more ∙ ap (λ m. list_all p (take m (place_list n t))) (add-one k)

-- the number at a position, by the last field of the position
abbrev pub value_or : ℕ → Option (List ℕ) → ℕ
value_or base None = base
value_or base (Some x) = four_at x 5

position_place : (n : ℕ) (t : List ℕ) (j : ℕ) → j < places n t → two_at (get_or (place_list n t) j []) 3 ≡ two_at t (place n j + 3)
position_place n t j h =
    let a = place_at n t j 3 h (omega arith) in
    let b = place_at n t j 4 h (omega arith) in
    let next : place n j + 3 + 1 ≡ place n j + 4 = omega arith in
    rw next (cc)

value_place : (n : ℕ) (t : List ℕ) (j : ℕ) → j < places n t → four_at (get_or (place_list n t) j []) 5 ≡ four_at t (place n j + 5)
value_place n t j h =
    let a = place_at n t j 5 h (omega arith) in
    let b = place_at n t j 6 h (omega arith) in
    let c = place_at n t j 7 h (omega arith) in
    let d = place_at n t j 8 h (omega arith) in
    let one : place n j + 5 + 1 ≡ place n j + 6 = omega arith in
    let two : place n j + 5 + 2 ≡ place n j + 7 = omega arith in
    let three : place n j + 5 + 3 ≡ place n j + 8 = omega arith in
    rw (one, two, three) (cc)

value_cond : (b : Bool) (base : ℕ) (x : List ℕ) (o : Option (List ℕ)) → value_or base (cond b (Some x) o) ≡ cond b (four_at x 5) (value_or base o)
value_cond true base x o = refl
value_cond false base x o = refl

listed_found : (n : ℕ) (t : List ℕ) (i k : ℕ) → i < n → k ≤ places n t → get_or (listed n t k) i 0 ≡ value_or (four_at t (4 * i)) (find (λ x. eqb (two_at x 3) i) (reverse (take k (place_list n t))))
listed_found n t i zero low h = listed_none n t i low
listed_found n t i (suc k) low h =
    let test : List ℕ → Bool = λ x. eqb (two_at x 3) i in
    let base = four_at t (4 * i) in
    let xs = place_list n t in
    let x = get_or xs k [] in
    let long = length_places n t in
    let front : take (suc k) xs ≡ take k xs ++ x ∷ [] = ap (λ m. take m xs) (sym (add-one k)) ∙ take_more xs k [] (omega arith) in
    let back : reverse (take (suc k) xs) ≡ x ∷ reverse (take k xs) = ap reverse front ∙ reverse-append (take k xs) (x ∷ []) in
    let last = value_cond (test x) base x (find test (reverse (take k xs))) in
    let position = position_place n t k (omega arith) in
    let value = value_place n t k (omega arith) in
    let rest = listed_found n t i k low (omega arith) in
    let more = listed_more n t k i low in
    cc

pub number_found : (n : ℕ) (t : List ℕ) (i k : ℕ) (xs : List (List ℕ)) (last : Option (List ℕ)) → i < n → k ≤ places n t → xs ≡ place_list n t → last ≡ find (λ x. eqb (two_at x 3) i) (reverse (take k xs)) → value_or (four_at t (4 * i)) last ≡ get_or (listed n t k) i 0
number_found n t i k xs last low h e f =
    ap (value_or (four_at t (4 * i))) (f ∙ ap (λ ys. find (λ x. eqb (two_at x 3) i) (reverse (take k ys))) e) ∙ sym (listed_found n t i k low h)
