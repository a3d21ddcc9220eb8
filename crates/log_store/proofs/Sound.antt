-- A write keeps a log sound: its used places are the earlier fields and the new one, or after a checkpoint the new one alone.
use Rattle.std.proofs.Common.{◌≡◌, ℕ, zero, suc, ◌+◌, ◌*◌, ◌<◌, ◌≤◌, true, ◌||◌, ◌==◌, List, length, get_or, refl, ap, ◌∙◌, arith, ⊎_elim}
use Rattle.std.proofs.lemmas.Bool.{and_from, and_parts, cond_both, cond-true, eq-eqb, eqb-true, or_cases, leb-true, lt-ltb}
use Rattle.std.proofs.lemmas.Bool.Decides.{nat_tests}
use Rattle.protocol.specs.Bytes.{two_at}
use Rattle.log_store.specs.Log.{all_fields, appended, field_at, fits, formatted, holds_log, log_end, log_list, log_of, place, used, with_room, written}
use Rattle.log_store.proofs.Appends.{appended_below, appended_in, appended_next, appended_position, appended_tag, length_appended, used_grown}
use Rattle.log_store.proofs.Checkpoints.{formatted_used, length_formatted, log_formatted}
use Rattle.log_store.proofs.LogLaws.{all_fields_more, length_log}
use Rattle.log_store.proofs.Numbers.{two_same}

-- the two tests of a log: its length is enough, and its used places are fields, which depends on no later byte
fits_room : (n : ℕ) (t : List ℕ) → fits n t ≡ true → (n ≤ 256) × (4 * n + 9 ≤ length t)
fits_room n t h = grind (arith, nat_tests)

fits_same : (n : ℕ) (t u : List ℕ) → length u ≡ length t → fits n t ≡ true → fits n u ≡ true
fits_same n t u e h = cc

all_fields_same : (n : ℕ) (t u : List ℕ) (k : ℕ) → ((j : ℕ) → j < place n k → get_or u j 0 ≡ get_or t j 0) → all_fields n u k ≡ all_fields n t k
all_fields_same n t u zero same = refl
all_fields_same n t u (suc k) same =
    let tag = same (place n k) (omega arith) in
    let size = two_same t u (place n k + 1) (λ j a b. same j (omega arith)) in
    let position = two_same t u (place n k + 3) (λ j a b. same j (omega arith)) in
    let rest = all_fields_same n t u k (λ j l. same j (omega arith)) in
    cc

-- one more field
field_appended : (n : ℕ) (t : List ℕ) (p at v : ℕ) → p + 9 ≤ length t → at < n → n ≤ 256 → field_at n (appended t p at v) p ≡ true
field_appended n t p at v free low few =
    let u = appended t p at v in
    let a = appended_in t p at v free 1 (omega arith) in
    let b = appended_in t p at v free 2 (omega arith) in
    let next : p + 1 + 1 ≡ p + 2 = omega arith in
    let size : two_at u (p + 1) ≡ 6 = rw next (omega arith) in
    let position = appended_position t p at v free (omega arith) in
    and_from _ _ (eq-eqb _ _ (appended_tag t p at v free)) (and_from _ _ (eq-eqb _ _ size) (lt-ltb _ _ (omega arith)))

sound_appended : (n : ℕ) (t : List ℕ) (at v : ℕ) → log_end n t + 9 ≤ length t → at < n → holds_log n t ≡ true → holds_log n (appended t (log_end n t) at v) ≡ true
sound_appended n t at v free low h =
    let p = log_end n t in
    let u = appended t p at v in
    let log = and_parts (fits n t) _ h in
    let size = length_appended t p at v free in
    let below = appended_below t p at v free in
    let grown = used_grown n t u size below (appended_tag t p at v free) (appended_next t p at v free) free in
    let old = all_fields_same n t u (used n t) below ∙ log.1 in
    let new = field_appended n t p at v free low (fits_room n t log.0).0 in
    and_from _ _ (fits_same n t u size log.0) (ap (all_fields n u) grown ∙ all_fields_more n u (used n t) old new)

-- an empty log of the same length is sound
pub sound_formatted : (n : ℕ) (ns t : List ℕ) → length ns ≡ n → fits n t ≡ true → holds_log n (formatted n ns t) ≡ true
sound_formatted n ns t e h =
    let room = fits_room n t h in
    and_from _ _ (fits_same n t (formatted n ns t) (length_formatted n ns t e (omega arith)) h) (ap (all_fields n (formatted n ns t)) (formatted_used n ns t e))

-- and a store on it holds the numbers
pub list_formatted : (ns t : List ℕ) → fits (length ns) t ≡ true → ((i : ℕ) → i < length ns → get_or ns i 0 < 4294967296) → log_of (length ns) (formatted (length ns) ns t) ≡ ns
list_formatted ns t h small = cond-true _ _ _ (sound_formatted (length ns) ns t refl h) ∙ log_formatted (length ns) ns t refl small

-- a free place, which a checkpoint of the same length makes
sound_room : (n : ℕ) (t : List ℕ) → holds_log n t ≡ true → (holds_log n (with_room n t) ≡ true) × (log_end n (with_room n t) + 9 ≤ length (with_room n t))
sound_room n t h =
    let log = and_parts (fits n t) _ h in
    let room = fits_room n t log.0 in
    let size = length_formatted n (log_list n t) t (length_log n t) (omega arith) in
    let none = formatted_used n (log_list n t) t (length_log n t) in
    cond_both _ _ _ (λ u. (holds_log n u ≡ true) × (log_end n u + 9 ≤ length u))
    (λ e. (h, leb-true _ _ e))
    (λ _. (sound_formatted n (log_list n t) t (length_log n t) log.0, omega arith))

pub sound_written : (n : ℕ) (t : List ℕ) (at v : ℕ) → at < n → holds_log n t ≡ true → holds_log n (written n t at v) ≡ true
sound_written n t at v low h =
    let room = sound_room n t h in
    sound_appended n (with_room n t) at v room.1 low room.0

-- What a store keeps of itself over a write
pub sound_set : (n : ℕ) (t : List ℕ) (p at v : ℕ) → (n == 0 || holds_log n t) ≡ true → at < n → p ≡ log_end n t → p + 9 ≤ length t → (n == 0 || holds_log n (appended t p at v)) ≡ true
sound_set n t p at v kept low e free =
    let h : holds_log n t ≡ true = ⊎_elim (λ z. absurd (let none = eqb-true n 0 z in omega arith)) (λ s. s) (or_cases _ _ kept) in
    let all : holds_log n (appended t p at v) ≡ true = ap (λ q. holds_log n (appended t q at v)) e ∙ sound_appended n t at v (omega arith) low h in
    cc
