-- What a day writes into its two stores: each commit the changes of its transaction, and nothing else anything.
use Rattle.std.specs.Prelude.{◌≡◌, ℕ, List, [], ◌∷◌, ◌++◌}
use Rattle.protocol.specs.declared.answer.Answer.{Answer}
use Rattle.protocol.specs.declared.answer.Answer.TheVariants.{Granted}
use Rattle.protocol.specs.declared.policy.Object.{Object}
use Rattle.protocol.specs.declared.policy.Object.TheVariants.{OfCell, OfPolicy}
use Rattle.protocol.specs.declared.request.Request.{Request}
use Rattle.serial.specs.Words.{Setup, Change}
use Rattle.serial.specs.Requests.{Asked, asks_commit, asked}
use Rattle.serial.specs.Model.{State, Slot, free, open_slot, aborted_slot, find, changed, answer, after}
use Rattle.serial.specs.Serial.{Entry, Transcript}
use Rattle.serial.specs.History.{History, effect_of, transcript, committed_with, committed}

-- The changes of a transaction by its granted calls, the newest first: one for each cell or policy, since a later value replaces an earlier one
unfoldable pub workspace : List Entry → List Change
workspace [] = []
workspace (k ∷ l) = changed k.call (workspace l)

-- The changes of some transactions, one transaction after the other; the numbers stand with the last transaction first
unfoldable pub changes_of_all : (ℕ → Transcript) → List ℕ → List Change
changes_of_all transcripts [] = []
changes_of_all transcripts (t ∷ ts) = changes_of_all transcripts ts ++ workspace (transcripts t).calls

-- What a day writes: the changes of the committed transactions, in the order of their commits
abbrev pub day_changes : History → List Change
day_changes h = changes_of_all (transcript h) (committed h)

-- The writes that changes are to the cells, each a position and a number, in their order; and those that they are to the rights
abbrev pub before_cells : Object → ℕ → List (ℕ × ℕ) → List (ℕ × ℕ)
before_cells (OfCell c) v ws = (c, v) ∷ ws
before_cells (OfPolicy p) v ws = ws

abbrev pub before_rights : Object → ℕ → List (ℕ × ℕ) → List (ℕ × ℕ)
before_rights (OfCell c) v ws = ws
before_rights (OfPolicy p) v ws = (p, v) ∷ ws

unfoldable pub to_cells : List Change → List (ℕ × ℕ)
to_cells [] = []
to_cells (k ∷ ks) = before_cells k.object k.value (to_cells ks)

unfoldable pub to_rights : List Change → List (ℕ × ℕ)
to_rights [] = []
to_rights (k ∷ ks) = before_rights k.object k.value (to_rights ks)

abbrev pub slot_changes : Slot → List Change
slot_changes free = []
slot_changes (open_slot x) = x.changes
slot_changes (aborted_slot i b p) = []

-- What a request writes in a state, by its answer: a granted commit the changes of its transaction, and anything else nothing
abbrev pub commit_changes : State → ℕ → Answer → List Change
commit_changes σ t (Granted n) = slot_changes (find t σ.slots)
commit_changes σ t _ = []

abbrev pub changes_by : State → Asked → Answer → List Change
changes_by σ (asks_commit t) a = commit_changes σ t a
changes_by σ _ a = []

-- What some requests write in turn, from a state
unfoldable pub changes_from : Setup → State → List Request → List Change
changes_from S σ [] = []
changes_from S σ (r ∷ rs) = changes_by σ (asked r) (answer S σ r) ++ changes_from S (after S σ r) rs

-- None of the requests is a commit that was granted.
abbrev pub NoneCommitted : List Request → List Answer → Type 0
NoneCommitted (r ∷ rs) (b ∷ bs) = (committed_with (effect_of (asked r) b) [] ≡ []) × NoneCommitted rs bs
NoneCommitted rs bs = Unit {0}

-- The state after them, and their answers
unfoldable pub state_after : Setup → State → List Request → State
state_after S σ [] = σ
state_after S σ (r ∷ rs) = state_after S (after S σ r) rs

unfoldable pub answers_from : Setup → State → List Request → List Answer
answers_from S σ [] = []
answers_from S σ (r ∷ rs) = answer S σ r ∷ answers_from S (after S σ r) rs
