-- Numbers in bytes: they depend on their own bytes alone; the bytes of a list of numbers.
use Rattle.std.proofs.Common.{◌≡◌, ℕ, zero, suc, ◌+◌, ◌*◌, ◌<◌, ◌≤◌, List, [], ◌∷◌, ◌++◌, length, get_or, drop, sym, refl, ap, ◌∙◌, add_assoc, arith}
use Rattle.std.specs.List.{flat_map}
use Rattle.std.proofs.lemmas.List.{get_or-drop}
use Rattle.protocol.specs.Bytes.{four_at, four_bytes, two_at}
use Rattle.protocol.proofs.Numbers.{four_back}

pub four_same : (t u : List ℕ) (p : ℕ) → ((j : ℕ) → p ≤ j → j < p + 4 → get_or u j 0 ≡ get_or t j 0) → four_at u p ≡ four_at t p
four_same t u p h =
    let a = h p (omega arith) (omega arith) in
    let b = h (p + 1) (omega arith) (omega arith) in
    let c = h (p + 2) (omega arith) (omega arith) in
    let d = h (p + 3) (omega arith) (omega arith) in
    cc

pub two_same : (t u : List ℕ) (p : ℕ) → ((j : ℕ) → p ≤ j → j < p + 2 → get_or u j 0 ≡ get_or t j 0) → two_at u p ≡ two_at t p
two_same t u p h =
    let a = h p (omega arith) (omega arith) in
    let b = h (p + 1) (omega arith) (omega arith) in
    cc

four_drop : (bs : List ℕ) (p : ℕ) → four_at (drop 4 bs) p ≡ four_at bs (4 + p)
four_drop bs p = simp (get_or-drop, add_assoc)

-- the bytes of a list of numbers
pub length_numbers : (ns : List ℕ) → length (flat_map four_bytes ns) ≡ 4 * length ns
length_numbers [] = refl
length_numbers (x ∷ xs) = omega (arith, length_numbers xs)

pub numbers_at : (ns bs : List ℕ) (i : ℕ) → i < length ns → get_or ns i 0 < 4294967296 → four_at (flat_map four_bytes ns ++ bs) (4 * i) ≡ get_or ns i 0
numbers_at [] bs i h l = absurd (omega arith)
numbers_at (x ∷ xs) bs zero h l = four_back x l
numbers_at (x ∷ xs) bs (suc i) h l =
    let next : 4 * suc i ≡ 4 + 4 * i = omega arith in
    ap (four_at (flat_map four_bytes (x ∷ xs) ++ bs)) next ∙ sym (four_drop (flat_map four_bytes (x ∷ xs) ++ bs) (4 * i)) ∙ numbers_at xs bs i (omega arith) l
