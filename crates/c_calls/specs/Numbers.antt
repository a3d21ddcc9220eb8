-- Outcomes as C gets them: a number, and a value beside it.
use Rattle.std.specs.Prelude.{ℕ}
use Rattle.protocol.specs.Refusals.{Outcome, answered, refused}

-- 0 where nothing is refused
abbrev pub number_of : {A : Type 0} → Outcome A → ℕ
number_of (answered value) = 0
number_of (refused number) = number

-- the value, or another where it is refused
abbrev pub value_or : ℕ → Outcome ℕ → ℕ
value_or other (answered value) = value
value_or other (refused number) = other
