-- The lines of a tape, what is refused of running it, and what running it comes to.
use Rattle.std.specs.Prelude.{◌≡◌, ℕ, ◌+◌, ◌*◌, ◌/◌, ◌≤◌, cond, List, [], ◌++◌, length, drop, Ok, Err, Option, Result, nat_le}
use Rattle.protocol.specs.Refusals.{Outcome, answered, refused, refusal_number, ◌then◌}
use Rattle.protocol.specs.declared.answer.Answer.{Answer}
use Rattle.protocol.specs.declared.refusal.Refusal.{Refusal}
use Rattle.records.specs.Tapes.{tape_of, ReadsTape}
use Rattle.records.specs.declared.fault.FaultValues.{FaultValues}
use Rattle.records.specs.Faults.{fault_line}
use Rattle.lines.specs.Lines.{answer_lines}
use Rattle.serial.specs.Words.{Setup, Store, Change}
use Rattle.serial.specs.OneDay.{history, DayDone}
use Rattle.serial.specs.Writes.{day_changes}
use Rattle.setup.specs.Admission.{setup_check}

-- A line for each answer, and the line of the fault at which the tape was left
abbrev pub tape_lines : List Answer → Option FaultValues → List ℕ
tape_lines answers fault = answer_lines answers ++ fault_line fault

-- How many bytes the lines of a tape have at most: the line of an answer has at most 14, and a record five or more; the line of a fault has at most 28.
-- A tape of more than 60,000 bytes has no line but its fault's.
abbrev pub longest_lines : List ℕ → ℕ
longest_lines tape = cond (nat_le (length tape) 60000) (14 * (length tape / 5) + 28) 28

-- What is refused of running a tape: what set-up refuses, and then a buffer without room for the longest lines.
abbrev pub room_check : List ℕ → List ℕ → Outcome (Unit {0})
room_check tape buffer = cond (nat_le (longest_lines tape) (length buffer)) (answered tt) (refused 12)

abbrev pub run_check : Setup → Store → List ℕ → List ℕ → Outcome (Unit {0})
run_check S before tape buffer = setup_check S.is_right before.cells before.rights S.policies then room_check tape buffer

-- What running a tape comes to, by the stores' lists before and after, what it is for changes to have gone into the stores, the tape, and the buffer
-- before and after
module _ (S : Setup) (before after : Store) (wrote : List Change → Type 0) (tape buffer buffer' : List ℕ) where
  -- The tape's requests up to its fault were made in turn as a day; the lines of the answers and of the fault, n bytes, stand at the buffer's front.
  pub record Ran (n : ℕ) : Type 0 where
    pub nothing_refused : run_check S before tape buffer ≡ answered tt
    pub records_are_requests : ReadsTape tape (tape_of tape)
    pub answers : List Answer
    pub day_done : DayDone S before after (tape_of tape).requests answers
    -- each commit wrote the changes of its transaction, and nothing else was written
    pub writes : wrote (day_changes (history (tape_of tape).requests answers))
    pub length_answered : n ≡ length (tape_lines answers (tape_of tape).fault)
    pub lines_written : buffer' ≡ tape_lines answers (tape_of tape).fault ++ drop n buffer
    pub lines_bounded : n ≤ longest_lines tape

  -- It is refused, and nothing has changed.
  pub record NotRun (f : Refusal) : Type 0 where
    pub refuses : run_check S before tape buffer ≡ refused (refusal_number f)
    pub stores_stay : after ≡ before
    pub nothing_written : wrote []
    pub buffer_stays : buffer' ≡ buffer

  abbrev pub RunsTape : Result ℕ Refusal → Type 0
  RunsTape (Ok n) = Ran n
  RunsTape (Err f) = NotRun f
