-- Bytes t that hold n numbers: n base numbers of four bytes, then places of nine bytes, which hold a log. Every number has its high byte first.
-- A used place is one tagged field: tag 67 (0x43), length 6, a position in two bytes, a value in four.
-- The log ends at the first place whose tag is 0, or where fewer than nine bytes are left.
use Rattle.std.specs.Prelude.{ℕ, zero, suc, ◌+◌, ◌-◌, ◌*◌, ◌/◌, Bool, true, cond, ◌&&◌, List, [], ◌∷◌, ◌++◌, map, length, take, drop, ◌==◌, nat_le, nat_lt, slice_index, slice_set}
use Rattle.std.specs.List.{range_with_len, flat_map}
use Rattle.std.specs.Simd.{first_chunks}
use Rattle.protocol.specs.Bytes.{two_bytes, four_bytes, two_at, four_at, field_bytes}
use Rattle.protocol.specs.Refusals.{Outcome, answered, refused}
use Rattle.stores.specs.Lists.{read_at}

-- How many places there are, and where the place number k begins, from 0.
abbrev pub places : ℕ → List ℕ → ℕ
places n t = (length t - 4 * n) / 9

abbrev pub place : ℕ → ℕ → ℕ
place n k = 4 * n + 9 * k

-- The bytes of each place.
abbrev pub place_list : ℕ → List ℕ → List (List ℕ)
place_list n t = first_chunks 9 (places n t) (drop (4 * n) t)

-- How many of f places from p on are used: those before the first whose tag is 0.
abbrev pub used_from : ℕ → ℕ → List ℕ → ℕ
used_from zero p t = 0
used_from (suc f) p t = cond (slice_index t p == 0) 0 (1 + used_from f (p + 9) t)

-- How many places are used, and where the log ends.
abbrev pub used : ℕ → List ℕ → ℕ
used n t = used_from (places n t) (4 * n) t

abbrev pub log_end : ℕ → List ℕ → ℕ
log_end n t = place n (used n t)

-- The numbers after the first k fields: the base numbers, and then each field sets the number at its position.
abbrev pub listed : ℕ → List ℕ → ℕ → List ℕ
listed n t zero = map (λ i. four_at t (4 * i)) (range_with_len 0 n)
listed n t (suc k) = slice_set (listed n t k) (two_at t (place n k + 3)) (four_at t (place n k + 5))

-- The list that the bytes mean.
abbrev pub log_list : ℕ → List ℕ → List ℕ
log_list n t = listed n t (used n t)

-- The bytes bs in place of as many from p on.
abbrev pub spliced : List ℕ → ℕ → List ℕ → List ℕ
spliced t p bs = take p t ++ (bs ++ drop (p + length bs) t)

abbrev pub log_field : ℕ → ℕ → List ℕ
log_field at v = field_bytes 67 (two_bytes at ++ four_bytes v)

-- Tag 0 for the place at p, if there is one: if nine bytes are left for it.
abbrev pub ended : List ℕ → ℕ → List ℕ
ended t p = cond (nat_le (p + 9) (length t)) (slice_set t p 0) t

-- One more field, at the log's end p.
abbrev pub appended : List ℕ → ℕ → ℕ → ℕ → List ℕ
appended t p at v = ended (spliced t p (log_field at v)) (p + 9)

-- The bytes with these n numbers as the base, and tag 0 for the first place: an empty log.
abbrev pub formatted : ℕ → List ℕ → List ℕ → List ℕ
formatted n numbers t = flat_map four_bytes numbers ++ (0 ∷ drop (4 * n + 1) t)

-- Every listed number copied into the base of an empty log.
abbrev pub checkpoint : ℕ → List ℕ → List ℕ
checkpoint n t = formatted n (log_list n t) t

-- Bytes with a free place: their checkpoint where none is free.
abbrev pub with_room : ℕ → List ℕ → List ℕ
with_room n t = cond (nat_le (log_end n t + 9) (length t)) t (checkpoint n t)

-- The bytes after a write of v at a position below n.
abbrev pub written : ℕ → List ℕ → ℕ → ℕ → List ℕ
written n t at v = appended (with_room n t) (log_end n (with_room n t)) at v

-- The bytes after a write; one past the last position is refused, and changes none.
abbrev pub bytes_after : ℕ → List ℕ → ℕ → ℕ → List ℕ
bytes_after n t at v = cond (nat_lt at n) (written n t at v) t

-- The bytes after some writes, each a position and a number
unfoldable pub bytes_after_all : ℕ → List ℕ → List (ℕ × ℕ) → List ℕ
bytes_after_all n t [] = t
bytes_after_all n t ((at, v) ∷ writes) = bytes_after_all n (bytes_after n t at v) writes

-- At most 256 numbers, with bytes for them and for one place.
abbrev pub fits : ℕ → List ℕ → Bool
fits n t = nat_le n 256 && nat_le (4 * n + 9) (length t)

-- A field with a position below n stands at p; such fields fill the first k places.
abbrev pub field_at : ℕ → List ℕ → ℕ → Bool
field_at n t p = slice_index t p == 67 && (two_at t (p + 1) == 6 && nat_lt (two_at t (p + 3)) n)

abbrev pub all_fields : ℕ → List ℕ → ℕ → Bool
all_fields n t zero = true
all_fields n t (suc k) = field_at n t (place n k) && all_fields n t k

-- The bytes hold a log of n numbers: every used place is a field.
abbrev pub holds_log : ℕ → List ℕ → Bool
holds_log n t = fits n t && all_fields n t (used n t)

-- What formatting the bytes with these numbers comes to, and the bytes after it. Refused, it changes none.
abbrev pub format_check : List ℕ → List ℕ → Outcome (Unit {0})
format_check numbers t = cond (fits (length numbers) t) (answered tt) (refused 18)

abbrev pub format_bytes : List ℕ → List ℕ → List ℕ
format_bytes numbers t = cond (fits (length numbers) t) (formatted (length numbers) numbers t) t

abbrev pub log_check : ℕ → List ℕ → Outcome (Unit {0})
log_check n t = cond (holds_log n t) (answered tt) (refused 18)

-- The list of a store that is made for n numbers on bytes t. It is empty where the check refuses.
abbrev pub log_of : ℕ → List ℕ → List ℕ
log_of n t = cond (holds_log n t) (log_list n t) []

-- The number at a position of the log; bytes that hold none are refused first.
abbrev pub log_read : ℕ → List ℕ → ℕ → Outcome ℕ
log_read n t at = cond (holds_log n t) (read_at (log_list n t) at) (refused 18)
