-- The slots that a mask has, after what `|`, `&`, `!` and `1 << i` do to it.
use Rattle.std.proofs.Common.{◌≡◌, ℕ, zero, suc, ◌+◌, ◌-◌, ◌*◌, ◌/◌, ◌%◌, ◌^◌, ◌<◌, ◌≤◌, Bool, true, false, cond, not, ◌&&◌, ◌||◌, eqb, Decides, ◌⊎◌, inl, inr, sym, refl, ap, ◌∙◌, ap₂, ⊎_elim, mod-eq_of_lt, mul_assoc, pow-suc, one-add, arith, w16}
use lib.Bits.{bit_and, bit_or, bit_xor, xor_add_and, and_mask}
use lib.Count.{ones, ones_step, ones_cat, ones-ones}
use Rattle.std.proofs.lemmas.Nat.{pow_pos, one_shl, shr_split, shr_below, field_of, mod_below}
use Rattle.std.proofs.lemmas.Nat.Bits.{bit_at-lt, bit_at_or, bit_at_and, bit_at_xor, bit_at_ones, bit_at-pow_same, bit_at-pow_other, bit_at_above, bit_at-zero, bit_at-trailing_zeros, same_from_bits_below}
use Rattle.std.proofs.lemmas.Bool.{cases_lt, cases_eq, eqb-true, eq-eqb, ne_eqb, both_ways}
use Rattle.std.proofs.lemmas.Bool.Decides.{nat_tests}
use Rattle.std.specs.Int.{bit_at, trailing_zeros}
use Rattle.std.specs.Int.Count.{trailing_of_zero}
use Rattle.locking.specs.NoLocks.{has_zero}
use Rattle.locking.specs.Slots.{has, count_below, IsLowest}

pub has_past : (w n k : ℕ) → n < 2 ^ w → w ≤ k → has n k ≡ false
unfolding has
has_past w n k h le = ap (λ b. eqb b 1) (bit_at_above n w k h le)

-- `1 << i`
pub has_one : (i k : ℕ) → i < 16 → has (1 * 2 ^ i % 2 ^ 16) k ≡ eqb k i
unfolding has
has_one i k lt =
    let shifted = one_shl i 16 lt in
    ⊎_elim
    (λ (e : k ≡ i). let one : bit_at (2 ^ i) k ≡ 1 = ap (bit_at (2 ^ i)) e ∙ bit_at-pow_same i in grind (arith, nat_tests))
    (λ ne. let none = bit_at-pow_other i k ne in grind (arith, nat_tests))
    (cases_eq k i)

-- `a | b`
pub has_or : (a b k : ℕ) → has (bit_or a b) k ≡ (has a k || has b k)
unfolding has
has_or a b k =
    let o = bit_at_or a b k in
    let p = bit_at-lt a k in
    let q = bit_at-lt b k in
    grind (arith, nat_tests)

-- `!x` at w bits
pub bit_not : (w x k : ℕ) → x < 2 ^ w → k < w → bit_at (2 ^ w - 1 - x) k ≡ 1 - bit_at x k
bit_not w x k h lt =
    let m = 2 ^ w - 1 in
    let e : bit_and x m ≡ x = and_mask x w ∙ mod-eq_of_lt h in
    let s = xor_add_and x m in
    let flip : bit_xor x m ≡ m - x = omega (arith, e, s) in
    let b : bit_at (m - x) k ≡ (bit_at x k + bit_at m k) % 2 = ap (λ n. bit_at n k) (sym flip) ∙ bit_at_xor x m k in
    let one = bit_at_ones w k lt in
    omega (arith, bit_at-lt x k)

-- `a & !b` at w bits
pub has_minus : (w a b k : ℕ) → a < 2 ^ w → b < 2 ^ w → has (bit_and a (2 ^ w - 1 - b)) k ≡ (has a k && not (has b k))
unfolding has
has_minus w a b k h l =
    let both = bit_at_and a (2 ^ w - 1 - b) k in
    let p = bit_at-lt a k in
    let q = bit_at-lt b k in
    ⊎_elim
    (λ (inside : k < w). let n = bit_not w b k l inside in grind (arith, nat_tests))
    (λ (past : w ≤ k). let z = bit_at_above a w k h past in grind (arith, nat_tests))
    (cases_lt k w)

-- a number with no bit is 0
pub none_set : (w a : ℕ) → a < 2 ^ w → ((k : ℕ) → k < w → has a k ≡ true → ⊥) → a ≡ 0
unfolding has
none_set w a h clear =
    same_from_bits_below w a 0 h (pow_pos w) (λ k l. let z = bit_at-zero k in let n = clear k l in let lt = bit_at-lt a k in grind (arith, nat_tests))

-- a set is empty exactly if its mask is 0
pub decides_zero : (w a : ℕ) → a < 2 ^ w → Decides (eqb a 0) ((k : ℕ) → has a k ≡ false)
decides_zero w a h = (λ e k. ap (λ n. has n k) (eqb-true a 0 e) ∙ has_zero k, λ clear. eq-eqb a 0 (none_set w a h (λ k l set. both_ways (has a k) (clear k) set)))

-- `trailing_zeros` names the lowest slot of a set, if there is one
zero_or_lowest : (n : ℕ) → n < 2 ^ 16 → (n ≡ 0) ⊎ ((trailing_zeros w16 n < 16) × IsLowest (has n) (trailing_zeros w16 n))
unfolding has
zero_or_lowest n h =
    ⊎_elim
    (λ (pos : 0 < n). let t = bit_at-trailing_zeros w16 n pos h in inr (t.0, (eq-eqb _ 1 t.1, λ k lt. let z = t.2 k lt in ne_eqb _ 1 (omega arith))))
    (λ (z : n ≤ 0). inl (omega arith))
    (cases_lt 0 n)

none_trailing : (n : ℕ) → n ≡ 0 → trailing_zeros w16 n ≡ 16
none_trailing n e = ap (trailing_zeros w16) e ∙ trailing_of_zero 16

pub lowest_in : (n : ℕ) → n < 2 ^ 16 → trailing_zeros w16 n < 16 → IsLowest (has n) (trailing_zeros w16 n)
lowest_in n h lt = ⊎_elim (λ e. absurd (let t = none_trailing n e in omega arith)) (λ t. t.1) (zero_or_lowest n h)

pub no_lowest : (n : ℕ) → n < 2 ^ 16 → 16 ≤ trailing_zeros w16 n → (k : ℕ) → has n k ≡ false
no_lowest n h le k = ⊎_elim (λ e. ap (λ m. has m k) e ∙ has_zero k) (λ t. absurd (let lt = t.0 in omega arith)) (zero_or_lowest n h)

-- a remainder by a power of two keeps the lowest bit
mod_mod_two : (n d : ℕ) → n % 2 ^ suc d % 2 ≡ n % 2
mod_mod_two n d =
    let s = shr_split n (suc d) in
    let p = pow-suc 2 d in
    let q = n / 2 ^ suc d in
    let t : q * 2 ^ suc d ≡ q * 2 ^ d * 2 = ap (λ x. q * x) p ∙ sym (mul_assoc q (2 ^ d) 2) in
    omega arith

ones_small : (n : ℕ) → n < 2 → ones n ≡ cond (eqb (n % 2) 1) 1 0
ones_small n h =
    let step = ones_step n in
    let half : ones (n / 2) ≡ 0 = let z : n / 2 ≡ 0 = omega arith in ap ones z ∙ ones-ones 0 in
    grind (arith, nat_tests)

-- the bits below w of a number and of its remainder by 2 ^ w
pub bit_mod : (n w k : ℕ) → k < w → bit_at (n % 2 ^ w) k ≡ bit_at n k
bit_mod n w k h =
    let d = w - suc k in
    let split : w ≡ suc d + k = omega arith in
    let e : n % 2 ^ w / 2 ^ k ≡ n / 2 ^ k % 2 ^ suc d = ap (λ j. n % 2 ^ j / 2 ^ k) split ∙ field_of n (suc d) k in
    ap (λ m. m % 2) e ∙ mod_mod_two (n / 2 ^ k) d

pub count_same : (p q : ℕ → Bool) (n : ℕ) → ((k : ℕ) → k < n → p k ≡ q k) → count_below p n ≡ count_below q n
count_same p q zero e = refl
count_same p q (suc n) e = ap₂ (λ b m. cond b 1 0 + m) (e n (omega arith)) (count_same p q n (λ k l. e k (omega arith)))

-- what count_ones answers
pub ones_count : (w n : ℕ) → n < 2 ^ w → ones n ≡ count_below (has n) w
unfolding has
ones_count zero n h = let z : n ≡ 0 = omega arith in ap ones z ∙ ones-ones 0
ones_count (suc w) n h =
    let p = pow-suc 2 w in
    let r = n % 2 ^ w in
    let top : n / 2 ^ w < 2 = shr_below n 1 w (omega (arith, ap (λ j. 2 ^ j) (one-add w))) in
    let low : r < 2 ^ w = mod_below n (2 ^ w) (pow_pos w) in
    let cat : ones (n / 2 ^ w * 2 ^ w + r) ≡ ones (n / 2 ^ w) + ones r = ones_cat w (n / 2 ^ w) r low in
    let whole : ones n ≡ ones (n / 2 ^ w) + ones r = ap ones (sym (shr_split n w)) ∙ cat in
    let rest : ones r ≡ count_below (has n) w = ones_count w r low ∙ count_same (has r) (has n) w (λ k l. ap (λ m. eqb m 1) (bit_mod n w k l)) in
    let first : ones (n / 2 ^ w) ≡ cond (has n w) 1 0 = ones_small (n / 2 ^ w) top in
    omega arith
