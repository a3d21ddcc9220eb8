-- What running a day comes to, by the stores' lists before and after it, what it is for changes to have gone into the stores, the requests, and the
-- places for answers before and after it.
use Rattle.std.specs.Prelude.{◌≡◌, ℕ, min, List, [], length, take, drop, Ok, Err, Result}
use Rattle.protocol.specs.Refusals.{answered, refused, refusal_number}
use Rattle.protocol.specs.declared.answer.Answer.{Answer}
use Rattle.protocol.specs.declared.refusal.Refusal.{Refusal}
use Rattle.protocol.specs.declared.request.Request.{Request}
use Rattle.serial.specs.Words.{Setup, Store, Change}
use Rattle.serial.specs.OneDay.{history, DayDone}
use Rattle.serial.specs.Writes.{day_changes}
use Rattle.setup.specs.Admission.{setup_check}

module _ (S : Setup) (before after : Store) (wrote : List Change → Type 0) (requests : List Request) (answers answers' : List Answer) where
  -- Set-up refuses nothing; the first n requests were made, and of their day all is true that is said of every day.
  pub record Done (n : ℕ) : Type 0 where
    pub set_up_accepts : setup_check S.is_right before.cells before.rights S.policies ≡ answered tt
    pub as_many_as_fit : n ≡ min (length requests) (length answers)
    pub day_done : DayDone S before after (take n requests) (take n answers')
    -- each commit wrote the changes of its transaction, and nothing else was written
    pub writes : wrote (day_changes (history (take n requests) (take n answers')))
    pub other_answers_stay : drop n answers' ≡ drop n answers

  -- Set-up refuses: nothing was made, and nothing has changed.
  pub record NotBegun (f : Refusal) : Type 0 where
    pub set_up_refuses : setup_check S.is_right before.cells before.rights S.policies ≡ refused (refusal_number f)
    pub stores_stay : after ≡ before
    pub nothing_written : wrote []
    pub answers_stay : answers' ≡ answers

  abbrev pub RunsDay : Result ℕ Refusal → Type 0
  RunsDay (Ok n) = Done n
  RunsDay (Err f) = NotBegun f
