-- Numbers of two and four bytes, the high byte first, and tagged fields.
use Rattle.std.specs.Prelude.{ℕ, ◌+◌, ◌*◌, ◌/◌, ◌%◌, List, [], ◌∷◌, ◌++◌, length, slice_index}

abbrev pub two_bytes : ℕ → List ℕ
two_bytes n = n / 256 % 256 ∷ n % 256 ∷ []

abbrev pub four_bytes : ℕ → List ℕ
four_bytes n = n / 16777216 % 256 ∷ n / 65536 % 256 ∷ n / 256 % 256 ∷ n % 256 ∷ []

-- the number that stands at a place
abbrev pub two_at : List ℕ → ℕ → ℕ
two_at bs p = slice_index bs p * 256 + slice_index bs (p + 1)

abbrev pub four_at : List ℕ → ℕ → ℕ
four_at bs p = slice_index bs p * 16777216 + slice_index bs (p + 1) * 65536 + slice_index bs (p + 2) * 256 + slice_index bs (p + 3)

-- A tagged field: a tag of one byte, the length of the content in two, the content.
abbrev pub field_bytes : ℕ → List ℕ → List ℕ
field_bytes tag content = tag ∷ two_bytes (length content) ++ content
