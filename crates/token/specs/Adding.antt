-- What add_to_cell asks of the machine, one request after another.
use Rattle.std.specs.Prelude.{◌≡◌, ℕ, ◌+◌, ◌%◌, ◌^◌, List, [], Ok, Err, Result}
use Rattle.protocol.specs.declared.answer.Answer.{Answer}
use Rattle.protocol.specs.declared.answer.Answer.TheVariants.{Granted, Refused, Wait, Aborted}
use Rattle.protocol.specs.declared.refusal.Refusal.{Refusal}
use Rattle.protocol.specs.declared.request.Request.TheVariants.{Open, Deploy, Read, Write, Commit, GiveUp}
use Rattle.serial.specs.Words.{Setup, Change}
use Rattle.serial.specs.Requests.{asks_commit}
use Rattle.serial.specs.Model.{State, step, answer, after}
use Rattle.serial.specs.Writes.{changes_by}

-- After a grant it goes on; any other answer is the last.
abbrev pub go_on : (ℕ → State → Answer × State) → Answer → State → Answer × State
go_on next (Granted n) σ = next n σ
go_on next (Refused f) σ = (Refused f, σ)
go_on next (Wait t) σ = (Wait t, σ)
go_on next (Aborted t p) σ = (Aborted t p, σ)

abbrev pub if_granted : Answer × State → (ℕ → State → Answer × State) → Answer × State
if_granted x next = go_on next x.0 x.1

-- Transaction t deploys policy p, reads cell c and writes the sum there; the last of these stands first.
abbrev pub writes_sum : ℕ → ℕ → ℕ → Setup → ℕ → State → Answer × State
writes_sum t c n S v σ = step S σ (Write t c ((v + n) % 2 ^ 32))

abbrev pub reads : ℕ → ℕ → ℕ → Setup → ℕ → State → Answer × State
reads t c n S d σ = if_granted (step S σ (Read t c)) (writes_sum t c n S)

abbrev pub adds : ℕ → ℕ → ℕ → ℕ → Setup → State → Answer × State
adds t p c n S σ = if_granted (step S σ (Deploy t p)) (reads t c n S)

-- It commits after a grant, and else gives up and keeps the answer.
abbrev pub ends : ℕ → Setup → Answer → State → Answer × State
ends t S (Granted n) σ = step S σ (Commit t)
ends t S (Refused f) σ = (Refused f, after S σ (GiveUp t))
ends t S (Wait u) σ = (Wait u, after S σ (GiveUp t))
ends t S (Aborted u p) σ = (Aborted u p, after S σ (GiveUp t))

abbrev pub adds_and_ends : ℕ → ℕ → ℕ → ℕ → Setup → State → Answer × State
adds_and_ends t p c n S σ = ends t S (adds t p c n S σ).0 (adds t p c n S σ).1

-- What it writes, by what the last request before the end was answered, the state that this led to, and the answer in the end: a granted
-- commit the changes of the transaction. Where no commit is asked for, it writes nothing.
abbrev pub end_changes : ℕ → Answer → State → Answer → List Change
end_changes t (Granted n) σ a = changes_by σ (asks_commit t) a
end_changes t (Refused f) σ a = []
end_changes t (Wait u) σ a = []
end_changes t (Aborted u p) σ a = []

-- The open was granted and all the rest went on from there; or it was refused, and nothing has changed. What it is for changes to have gone
-- into the stores is said of those that were written.
abbrev pub Added : Setup → State → ℕ → ℕ → ℕ → ℕ → (List Change → Type 0) → Result Answer Refusal → State → Type 0
Added S σ u p c n wrote (Ok a) τ =
    (t : ℕ) × (answer S σ (Open u) ≡ Granted t) × ((a, τ) ≡ adds_and_ends t p c n S (after S σ (Open u)))
    × wrote (end_changes t (adds t p c n S (after S σ (Open u))).0 (adds t p c n S (after S σ (Open u))).1 a)
Added S σ u p c n wrote (Err f) τ = (answer S σ (Open u) ≡ Refused f) × (τ ≡ σ) × wrote []
