-- The words of a line, and the numbers that they may be.
use Rattle.std.specs.Prelude.{ℕ, Bool, not, cond, ◌&&◌, ◌||◌, List, length, Option, Some, None, filter, ◌==◌, nat_lt, nat_le}
use Rattle.std.specs.List.{slice_split, before_first}
use Rattle.std.specs.Str.{all_ascii_digits}
use Rattle.std.specs.Str.Parse.{digits_value}

-- a space, a tab or a carriage return
abbrev pub is_blank : ℕ → Bool
is_blank b = b == 32 || b == 9 || b == 13

-- The words of a text: the longest runs of bytes that are no blanks.
abbrev pub words_in : List ℕ → List (List ℕ)
words_in text = filter (λ word. not (length word == 0)) (slice_split is_blank text)

-- The words of a line: of what stands before its first `#`.
abbrev pub words_of : List ℕ → List (List ℕ)
words_of line = words_in (before_first (λ b. b == 35) line)

-- The number that a word is: one or more decimal digits whose value is within the limit.
abbrev pub number_of : ℕ → List ℕ → Option ℕ
number_of limit word = cond (nat_lt 0 (length word) && all_ascii_digits word && nat_le (digits_value 10 word) limit) (Some (digits_value 10 word)) None

-- thresholds and the numbers of stores
abbrev pub long_of : List ℕ → Option ℕ
long_of word = number_of 4294967295 word

-- places, subjects and the numbers of objects
abbrev pub short_of : List ℕ → Option ℕ
short_of word = number_of 65535 word
