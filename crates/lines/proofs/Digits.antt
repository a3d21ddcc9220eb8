-- How many digits a number has, and how long lines of numbers are.
use Rattle.std.proofs.Common.{◌≡◌, ℕ, zero, suc, ◌+◌, ◌*◌, ◌/◌, ◌%◌, ◌^◌, ◌<◌, ◌≤◌, List, [], ◌∷◌, length, get_or, drop, sym, ap, arith, length-append}
use Rattle.std.proofs.Math.Nat.{pow-suc, one-le-pow}
use Rattle.std.specs.Fmt.{decimal}
use Rattle.std.proofs.lemmas.Fmt.{decimal_digit, decimal_step, length-decimal-le}
use Rattle.std.proofs.lemmas.List.{at_drop_more}
use Rattle.lines.specs.Lines.{numbers_part}

pub one_digit : (n : ℕ) → n < 10 → 1 ≡ length (decimal n)
one_digit n below = sym (ap length (decimal_digit n below))

-- one digit more for each power of ten
pub digits_by_power : (k n : ℕ) → 10 ^ k ≤ n → n < 10 ^ (suc k) → n < 2 ^ 64 → suc k ≡ length (decimal n)
digits_by_power zero n from below fits = one_digit n below
digits_by_power (suc k) n from below fits =
    let low : 10 ^ k * 10 ≤ n = rw (sym (pow-suc 10 k)) from in
    let high : n < 10 ^ (suc k) * 10 = rw (sym (pow-suc 10 (suc k))) below in
    let some : 1 ≤ 10 ^ k = one-le-pow k 10 (omega arith) in
    let fewer = digits_by_power k (n / 10) (omega arith) (omega arith) (omega arith) in
    omega (arith, fewer, ap length (decimal_step n (omega arith) fits), length-append (decimal (n / 10)) ((48 + n % 10) ∷ []))

pub at_most_ten : (n : ℕ) → n < 2 ^ 32 → length (decimal n) ≤ 10
at_most_ten n fits = length-decimal-le 10 n (omega arith) (omega arith) (omega arith)

-- the length of one number more
pub count_more : (numbers : List ℕ) (i len total : ℕ) → i < length numbers → len + length (numbers_part (drop i numbers)) ≡ total → len + (1 + length (decimal (get_or numbers i 0))) + length (numbers_part (drop (i + 1) numbers)) ≡ total
count_more numbers i len total more so_far =
    omega (arith, so_far, ap length (at_drop_more numbers_part numbers i 0 more), length-append (decimal (get_or numbers i 0)) (numbers_part (drop (i + 1) numbers)))
