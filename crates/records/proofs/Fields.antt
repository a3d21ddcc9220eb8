-- Fields and the bytes that they are read from.
use Rattle.std.proofs.Common.{◌≡◌, ℕ, ◌<◌, ◌≤◌, List, ◌++◌, length, get_or, take, drop, Some, sym, refl, ap, ◌∙◌, arith}
use Rattle.std.proofs.lemmas.List.{length-append, take_at, drop_at}
use Rattle.std.proofs.lemmas.Bool.{cond-true, le-leb}
use Rattle.protocol.specs.Bytes.{two_at, field_bytes}
use Rattle.records.specs.Records.{field_of}
use Rattle.protocol.proofs.Numbers.{two_back}

field_read : (bs content rest : List ℕ) → 3 ≤ length bs → two_at bs 1 ≤ length (drop 3 bs) → content ≡ take (two_at bs 1) (drop 3 bs) → rest ≡ drop (two_at bs 1) (drop 3 bs) → field_of bs ≡ Some (record { tag = get_or bs 0 0; content = content; rest = rest })
field_read bs content rest a b e f = cond-true _ _ _ (le-leb 3 (length bs) a) ∙ cond-true _ _ _ (le-leb (two_at bs 1) (length (drop 3 bs)) b) ∙ cc

-- reading the bytes of a field gives the field back, and what stands behind it
pub field_back : (tag : ℕ) (content rest : List ℕ) → length content < 65536 → field_of (field_bytes tag content ++ rest) ≡ Some (record { tag = tag; content = content; rest = rest })
field_back tag content rest h =
    let bs = field_bytes tag content ++ rest in
    let len : two_at bs 1 ≡ length content = two_back (length content) h in
    let fits : two_at bs 1 ≤ length (content ++ rest) = simp length-append (omega arith) in
    field_read bs content rest (omega arith) fits (sym (ap (λ n. take n (content ++ rest)) len ∙ take_at content rest _ refl)) (sym (ap (λ n. drop n (content ++ rest)) len ∙ drop_at content rest _ refl))
