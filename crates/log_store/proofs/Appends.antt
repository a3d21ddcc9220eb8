-- What one more field makes of the bytes and of the list.
use Rattle.std.proofs.Common.{◌≡◌, ℕ, suc, ◌+◌, ◌*◌, ◌<◌, ◌≤◌, List, length, get_or, set, sym, refl, ap, ◌∙◌, ap₂, ⊎_elim, arith, length-set, get_or-set_other, get_or-set_same, rules}
use Rattle.std.proofs.lemmas.List.{places as listing}
use Rattle.std.proofs.lemmas.Bool.{cases_eq, cond_both, cond-true, le-leb}
use Rattle.protocol.specs.Bytes.{two_at, four_at}
use Rattle.log_store.specs.Log.{appended, ended, listed, log_end, log_field, log_list, places, spliced, used}
use Rattle.log_store.proofs.LogLaws.{listed_same, used_from_is, used_from_tags}
use Rattle.protocol.proofs.Numbers.{four_back, two_back}

module _ (t : List ℕ) (p : ℕ) (bs : List ℕ) (fits : p + length bs ≤ length t) where
  length_spliced : length (spliced t p bs) ≡ length t
  length_spliced = search (rules, listing)

  spliced_below : (j : ℕ) → j < p → get_or (spliced t p bs) j 0 ≡ get_or t j 0
  spliced_below j h = search (rules, listing)

  spliced_in : (i : ℕ) → i < length bs → get_or (spliced t p bs) (p + i) 0 ≡ get_or bs i 0
  spliced_in i h = search (rules, listing)

module _ (t : List ℕ) (p : ℕ) where
  length_ended : length (ended t p) ≡ length t
  length_ended = cond_both _ _ _ (λ u. length u ≡ length t) (λ _. length-set t p 0) (λ _. refl)

  ended_below : (j : ℕ) → j < p → get_or (ended t p) j 0 ≡ get_or t j 0
  ended_below j h = cond_both _ _ _ (λ u. get_or u j 0 ≡ get_or t j 0) (λ _. get_or-set_other t p j 0 0 (λ e. omega arith)) (λ _. refl)

  ended_tag : p + 9 ≤ length t → get_or (ended t p) p 0 ≡ 0
  ended_tag h = ap (λ u. get_or u p 0) (cond-true _ _ _ (le-leb (p + 9) (length t) h)) ∙ get_or-set_same t p 0 0 (omega arith)

module _ (t : List ℕ) (p at v : ℕ) (fits : p + 9 ≤ length t) where
  pub length_appended : length (appended t p at v) ≡ length t
  length_appended = length_ended (spliced t p (log_field at v)) (p + 9) ∙ length_spliced t p (log_field at v) fits

  pub appended_below : (j : ℕ) → j < p → get_or (appended t p at v) j 0 ≡ get_or t j 0
  appended_below j h = ended_below (spliced t p (log_field at v)) (p + 9) j (omega arith) ∙ spliced_below t p (log_field at v) fits j h

  pub appended_in : (i : ℕ) → i < 9 → get_or (appended t p at v) (p + i) 0 ≡ get_or (log_field at v) i 0
  appended_in i h = ended_below (spliced t p (log_field at v)) (p + 9) (p + i) (omega arith) ∙ spliced_in t p (log_field at v) fits i h

  pub appended_tag : get_or (appended t p at v) p 0 ≡ 67
  appended_tag = let here : p ≡ p + 0 = omega arith in ap (λ j. get_or (appended t p at v) j 0) here ∙ appended_in 0 (omega arith)

  pub appended_next : p + 18 ≤ length t → get_or (appended t p at v) (p + 9) 0 ≡ 0
  appended_next h =
      let size = length_spliced t p (log_field at v) fits in
      ended_tag (spliced t p (log_field at v)) (p + 9) (omega arith)

  pub appended_position : at < 65536 → two_at (appended t p at v) (p + 3) ≡ at
  appended_position h =
      let a = appended_in 3 (omega arith) in
      let b = appended_in 4 (omega arith) in
      let next : p + 3 + 1 ≡ p + 4 = omega arith in
      let back = two_back at h in
      rw next (cc)

  appended_value : v < 4294967296 → four_at (appended t p at v) (p + 5) ≡ v
  appended_value h =
      let a = appended_in 5 (omega arith) in
      let b = appended_in 6 (omega arith) in
      let c = appended_in 7 (omega arith) in
      let d = appended_in 8 (omega arith) in
      let one : p + 5 + 1 ≡ p + 6 = omega arith in
      let two : p + 5 + 2 ≡ p + 7 = omega arith in
      let three : p + 5 + 3 ≡ p + 8 = omega arith in
      let back = four_back v h in
      rw (one, two, three) (cc)

-- one more field at the log's end, by the bytes that it changes
module _ (n : ℕ) (t u : List ℕ) (size : length u ≡ length t) (below : (j : ℕ) → j < log_end n t → get_or u j 0 ≡ get_or t j 0) (tag : get_or u (log_end n t) 0 ≡ 67) (next : log_end n t + 18 ≤ length t → get_or u (log_end n t + 9) 0 ≡ 0) (free : log_end n t + 9 ≤ length t) where
  pub used_grown : used n u ≡ used n t + 1
  used_grown =
      let k = used n t in
      let on : 4 * n + 9 * (k + 1) ≡ log_end n t + 9 = omega arith in
      let tags : (j : ℕ) → j < k + 1 → get_or u (4 * n + 9 * j) 0 ≡ 0 → ⊥ =
      λ j l z. ⊎_elim
      (λ (e : j ≡ k). let here = ap (λ i. get_or u (4 * n + 9 * i) 0) e in omega arith)
      (λ ne. used_from_tags (places n t) (4 * n) t j (omega arith) (sym (below (4 * n + 9 * j) (omega arith)) ∙ z))
      (cases_eq j k) in
      used_from_is (places n u) (4 * n) (k + 1) u tags (omega arith) (λ l. ap (λ p. get_or u p 0) on ∙ next (omega arith))

  list_grown : (at v : ℕ) → two_at u (log_end n t + 3) ≡ at → four_at u (log_end n t + 5) ≡ v → log_list n u ≡ set (log_list n t) at v
  list_grown at v position value =
      let one : used n u ≡ suc (used n t) = omega (arith, used_grown) in
      let old = listed_same n t u (used n t) below in
      ap (listed n u) one ∙ ap₂ (λ a b. set (listed n u (used n t)) a b) position value ∙ ap (λ ns. set ns at v) old

pub log_appended : (n : ℕ) (t : List ℕ) (at v : ℕ) → log_end n t + 9 ≤ length t → at < 65536 → v < 4294967296 → log_list n (appended t (log_end n t) at v) ≡ set (log_list n t) at v
log_appended n t at v free short low =
    let p = log_end n t in
    list_grown n t (appended t p at v) (length_appended t p at v free) (appended_below t p at v free) (appended_tag t p at v free) (appended_next t p at v free) free at v (appended_position t p at v free short) (appended_value t p at v free low)
