-- The bytes while numbers are copied into the base, and what an empty log and a checkpoint mean.
use Rattle.std.proofs.Common.{◌≡◌, ℕ, ◌+◌, ◌-◌, ◌*◌, ◌<◌, ◌≤◌, List, [], ◌∷◌, ◌++◌, length, get_or, take, drop, set, sym, ap, ◌∙◌, append_assoc, arith, length-append, length-drop}
use Rattle.std.specs.List.{flat_map}
use Rattle.std.proofs.lemmas.List.{drop_at, drop-drop, drop_more, ext_get_or, get_or-append_right, get_or_at, get_or-drop, flat_map_more, length-take-le, set_at, take_all, take_at, take_more}
use Rattle.protocol.specs.Bytes.{four_bytes}
use Rattle.log_store.specs.Log.{formatted, listed, log_list, places, spliced, used}
use Rattle.log_store.proofs.LogLaws.{length_listed, length_log, listed_none, listed_same_at, used_from_is}
use Rattle.log_store.proofs.Numbers.{length_numbers, numbers_at}

-- the first i of the numbers copied
abbrev pub copied : List ℕ → List ℕ → ℕ → List ℕ
copied ns t i = flat_map four_bytes (take i ns) ++ drop (4 * i) t

module _ (n : ℕ) (ns t : List ℕ) (size : length ns ≡ n) where
  length_front : (i : ℕ) → i ≤ n → length (flat_map four_bytes (take i ns)) ≡ 4 * i
  length_front i h = length_numbers (take i ns) ∙ ap (λ m. 4 * m) (length-take-le i ns (omega arith))

  copied_rest : (i j : ℕ) → i ≤ n → 4 * i ≤ j → get_or (copied ns t i) j 0 ≡ get_or t j 0
  copied_rest i j h l =
      let e : 4 * i + (j - 4 * i) ≡ j = omega arith in
      get_or-append_right _ (drop (4 * i) t) (4 * i) j 0 (length_front i h) l ∙ get_or-drop (4 * i) t (j - 4 * i) 0 ∙ ap (λ m. get_or t m 0) e

  pub length_copied : (i : ℕ) → i ≤ n → 4 * n ≤ length t → length (copied ns t i) ≡ length t
  length_copied i h l = let front = length_front i h in simp (length-append, length-drop) (omega arith)

  pub copied_more : (i x : ℕ) → i < n → x ≡ get_or ns i 0 → spliced (copied ns t i) (4 * i) (four_bytes x) ≡ copied ns t (i + 1)
  copied_more i x h new =
      let b = copied ns t i in
      let front_size = length_front i (omega arith) in
      let front = take_at (flat_map four_bytes (take i ns)) (drop (4 * i) t) (4 * i) front_size in
      let next : 4 * i + 4 ≡ 4 * (i + 1) = omega arith in
      let rest = sym (drop-drop 4 (4 * i) b) ∙ ap (drop 4) (drop_at (flat_map four_bytes (take i ns)) (drop (4 * i) t) (4 * i) front_size) ∙ drop-drop 4 (4 * i) t ∙ ap (λ m. drop m t) next in
      let more : flat_map four_bytes (take i ns) ++ four_bytes x ≡ flat_map four_bytes (take (i + 1) ns) = flat_map_more four_bytes [] (take i ns) x ∙ ap (flat_map four_bytes) (ap (λ y. take i ns ++ y ∷ []) new ∙ sym (take_more ns i 0 (omega arith))) in
      let split = append_assoc (flat_map four_bytes (take i ns)) (four_bytes x) (drop (4 * (i + 1)) t) in
      cc

  pub copied_all : 4 * n < length t → set (copied ns t n) (4 * n) 0 ≡ formatted n ns t
  copied_all h =
      let all = take_all n ns (omega arith) in
      let first = drop_more t (4 * n) 0 h in
      let new = set_at (flat_map four_bytes (take n ns)) (get_or t (4 * n) 0) (drop (4 * n + 1) t) 0 (4 * n) (length_front n (omega arith)) in
      cc

  -- an empty log
  formatted_tag : get_or (formatted n ns t) (4 * n) 0 ≡ 0
  formatted_tag = get_or_at (flat_map four_bytes ns) 0 (drop (4 * n + 1) t) 0 (4 * n) (length_numbers ns ∙ ap (λ m. 4 * m) size)

  pub formatted_used : used n (formatted n ns t) ≡ 0
  formatted_used =
      let here : 4 * n + 9 * 0 ≡ 4 * n = omega arith in
      used_from_is (places n (formatted n ns t)) (4 * n) 0 (formatted n ns t) (λ j l. absurd (omega arith)) (omega arith) (λ _. ap (λ p. get_or (formatted n ns t) p 0) here ∙ formatted_tag)

  pub length_formatted : 4 * n < length t → length (formatted n ns t) ≡ length t
  length_formatted h =
      let front = length_numbers ns in
      simp (length-append, length-drop) (omega arith)

  -- means the numbers
  pub log_formatted : ((i : ℕ) → i < n → get_or ns i 0 < 4294967296) → log_list n (formatted n ns t) ≡ ns
  log_formatted small =
      let u = formatted n ns t in
      let a = length_listed n u 0 in
      ap (listed n u) formatted_used ∙ ext_get_or 0 (listed n u 0) ns (a ∙ sym size) (λ i l.
      listed_none n u i (omega arith) ∙ numbers_at ns (0 ∷ drop (4 * n + 1) t) i (omega arith) (small i (omega arith)))

module _ (n : ℕ) (t : List ℕ) where
  pub copied_at : (i : ℕ) → i < n → get_or (listed n (copied (log_list n t) t i) (used n t)) i 0 ≡ get_or (log_list n t) i 0
  copied_at i h =
      let ns = log_list n t in
      listed_same_at n t (copied ns t i) (used n t) i h (λ j a _. copied_rest n ns t (length_log n t) i j (omega arith) a)
