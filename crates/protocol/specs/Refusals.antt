-- The number of each refusal, and the promise of a call that may refuse.
use Rattle.std.specs.Prelude.{ℕ, Ok, Err, Result}
use Rattle.protocol.specs.declared.refusal.Refusal.{Refusal}
use Rattle.protocol.specs.declared.refusal.Refusal.TheVariants.{TooManyOpened, NoFreeSlot, NoSuchTransaction, Absent, OtherSubject, NotPermitted, TooManyChanges, NotARight, ExceedsBuffer, TooMany, BadPolicies, BadRights, BadThreshold, BadLog}

abbrev pub refusal_number : Refusal → ℕ
refusal_number TooManyOpened = 1
refusal_number NoFreeSlot = 2
refusal_number NoSuchTransaction = 3
refusal_number Absent = 4
refusal_number OtherSubject = 5
refusal_number NotPermitted = 6
refusal_number TooManyChanges = 7
refusal_number NotARight = 8
refusal_number ExceedsBuffer = 12
refusal_number TooMany = 14
refusal_number BadPolicies = 15
refusal_number BadRights = 16
refusal_number BadThreshold = 17
refusal_number BadLog = 18

-- What a call comes to: its value, or the number of its refusal.
pub data Outcome (A : Type 0) : Type 0 where
  answered : A → Outcome A
  refused : ℕ → Outcome A

abbrev pub outcome_by : {A E : Type 0} → (E → ℕ) → Result A E → Outcome A
outcome_by number (Ok a) = answered a
outcome_by number (Err e) = refused (number e)

abbrev pub outcome : {A : Type 0} → Result A Refusal → Outcome A
outcome r = outcome_by refusal_number r

infixr 5 ◌then◌
-- The first refusal of two checks
abbrev pub ◌then◌ : {A : Type 0} → Outcome (Unit {0}) → Outcome A → Outcome A
answered u then next = next
refused n then next = refused n
