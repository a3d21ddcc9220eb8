-- What the report of a day says.
use Rattle.std.specs.Prelude.{◌≡◌, ℕ, List, ◌++◌, Ok, Err, Result, Vec, codes, vec_items}
use Rattle.std.specs.declared.alloc.Global.{Global}
use Rattle.protocol.specs.Refusals.{Outcome, answered, refused, refusal_number}
use Rattle.protocol.specs.declared.answer.Answer.{Answer}
use Rattle.records.specs.Tapes.{tape_of, ReadsTape}
use Rattle.lines.specs.Lines.{line}
use Rattle.serial.specs.Words.{Setup, Store}
use Rattle.serial.specs.OneDay.{DayDone}
use Rattle.tape.specs.Runs.{tape_lines}
use Rattle.depot_day.specs.declared.error.DayError.{DayError}
use Rattle.depot_day.specs.declared.error.DayError.TheVariants.{OutOfMemory, Refused}

-- The numbers that two stores hold, a line for each.
abbrev pub store_lines : Store → List ℕ
store_lines lists = line (codes "cells") lists.cells ++ line (codes "rights") lists.rights

-- By the set-up, what the stores held in the morning, and the tape
module _ (S : Setup) (morning : Store) (tape : List ℕ) where
  -- The tape's requests up to its fault were worked as a day. The text has the lines of the answers and of the fault, and then what the stores hold in the
  -- evening.
  pub record Reports (text : List ℕ) : Type 0 where
    pub answers : List Answer
    pub evening : Store
    pub records_are_requests : ReadsTape tape (tape_of tape)
    pub day_done : DayDone S morning evening (tape_of tape).requests answers
    pub text_is : text ≡ tape_lines answers (tape_of tape).fault ++ store_lines evening

  -- By what making all of it comes to. Memory is wanting only where nothing is refused.
  abbrev pub ReportsDay : Outcome (Unit {0}) → Result (Vec ℕ Global) DayError → Type 0
  ReportsDay made (Ok text) = (made ≡ answered tt) × Reports (vec_items text)
  ReportsDay made (Err OutOfMemory) = made ≡ answered tt
  ReportsDay made (Err (Refused f)) = made ≡ refused (refusal_number f)
