-- What running a tape by thresholds comes to, by the stores' lists before and after, what it is for changes to have gone
-- into the stores, the tape, and the buffer before and after.
use Rattle.std.specs.Prelude.{◌≡◌, ℕ, List, [], Ok, Err, Result}
use Rattle.protocol.specs.Refusals.{Outcome, answered, refused, outcome, refusal_number}
use Rattle.protocol.specs.declared.refusal.Refusal.{Refusal}
use Rattle.log_store.specs.Log.{bytes_after_all, log_list}
use Rattle.serial.specs.Words.{Setup, Store, Change}
use Rattle.serial.specs.Changes.{apply}
use Rattle.serial.specs.Writes.{to_cells, to_rights}
use Rattle.tape.specs.Runs.{RunsTape}
use Rattle.c_calls.specs.Numbers.{number_of, value_or}

-- The lists of cells and of rights
abbrev pub lists : List ℕ → List ℕ → Store
lists cells rights = record { cells = cells; rights = rights }

-- The lists that two logs hold
abbrev pub lists_on_logs : ℕ → List ℕ → ℕ → List ℕ → Store
lists_on_logs cell_count cells right_count rights = lists (log_list cell_count cells) (log_list right_count rights)

-- The changes went into two lists: those after are those before, with the changes applied.
abbrev pub lists_wrote : Store → Store → List Change → Type 0
lists_wrote before after changes = after ≡ apply changes before

-- The changes went into two logs: the bytes of each are those that the writes to it leave, one after another.
abbrev pub logs_wrote : ℕ → List ℕ → List ℕ → ℕ → List ℕ → List ℕ → List Change → Type 0
logs_wrote cell_count cells cells' right_count rights rights' changes =
    (cells' ≡ bytes_after_all cell_count cells (to_cells changes))
    × (rights' ≡ bytes_after_all right_count rights (to_rights changes))

-- No set-up was made, by the number of the refusal, and nothing has changed.
pub record NoSetup (number : ℕ) (before after : Store) (wrote : List Change → Type 0) (buffer buffer' : List ℕ)
    (f : Refusal) : Type 0 where
  pub refuses : refusal_number f ≡ number
  pub stores_stay : after ≡ before
  pub nothing_written : wrote []
  pub buffer_stays : buffer' ≡ buffer

-- By a set-up, the tape is run as a day of which the theorem holds, or refused; where there is none, nothing is run.
abbrev pub RunsBy : Outcome Setup → Store → Store → (List Change → Type 0) → List ℕ → List ℕ → List ℕ
    → Result ℕ Refusal → Type 0
RunsBy (answered S) before after wrote tape buffer buffer' ran = RunsTape S before after wrote tape buffer buffer' ran
RunsBy (refused n) before after wrote tape buffer buffer' (Err f) = NoSetup n before after wrote buffer buffer' f
RunsBy (refused n) before after wrote tape buffer buffer' (Ok used) = ⊥

-- The same, as C is told it: a number, and how many bytes of lines there are.
abbrev pub RunsInC : Outcome Setup → Store → Store → (List Change → Type 0) → List ℕ → List ℕ → List ℕ → ℕ → ℕ → Type 0
RunsInC setup before after wrote tape buffer buffer' number used =
    (ran : Result ℕ Refusal) × RunsBy setup before after wrote tape buffer buffer' ran
    × (number ≡ number_of (outcome ran)) × (used ≡ value_or 0 (outcome ran))
