-- Numbers and their bytes: each gives the other back.
use Rattle.std.proofs.Common.{◌≡◌, ℕ, ◌+◌, ◌*◌, ◌/◌, ◌%◌, ◌<◌, [], ◌∷◌, arith}
use Rattle.protocol.specs.Bytes.{two_bytes, four_bytes, two_at, four_at}

pub two_bytes_of : (a b : ℕ) → a < 256 → b < 256 → two_bytes (a * 256 + b) ≡ a ∷ b ∷ []
two_bytes_of a b h k =
    let high : (a * 256 + b) / 256 % 256 ≡ a = omega arith in
    let low : (a * 256 + b) % 256 ≡ b = omega arith in
    cc

pub four_bytes_of : (a b c d : ℕ) → a < 256 → b < 256 → c < 256 → d < 256 → four_bytes (a * 16777216 + b * 65536 + c * 256 + d) ≡ a ∷ b ∷ c ∷ d ∷ []
four_bytes_of a b c d h i j k =
    let n = a * 16777216 + b * 65536 + c * 256 + d in
    let first : n / 16777216 % 256 ≡ a = omega arith in
    let second : n / 65536 % 256 ≡ b = omega arith in
    let third : n / 256 % 256 ≡ c = omega arith in
    let fourth : n % 256 ≡ d = omega arith in
    cc

pub two_back : (n : ℕ) → n < 65536 → two_at (two_bytes n) 0 ≡ n
two_back n h = omega arith

pub four_back : (n : ℕ) → n < 4294967296 → four_at (four_bytes n) 0 ≡ n
four_back n h =
    let second : n / 65536 ≡ n / 256 / 256 = omega arith in
    let first : n / 16777216 ≡ n / 65536 / 256 = omega arith in
    let top : n / 16777216 % 256 ≡ n / 16777216 = omega arith in
    let upper : n / 16777216 * 256 + n / 65536 % 256 ≡ n / 65536 = omega arith in
    let middle : n / 65536 * 256 + n / 256 % 256 ≡ n / 256 = omega arith in
    let bottom : n / 256 * 256 + n % 256 ≡ n = omega arith in
    omega arith
