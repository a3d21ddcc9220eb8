-- Histories: what was asked and answered, the newest event first; and the runs of the engine.
use Rattle.std.specs.Prelude.{◌≡◌, ℕ, ◌<◌, ◌≤◌, true, cond, List, [], ◌∷◌, length, replicate, Some, None, ◌==◌, slice_index}
use Rattle.std.specs.List.{slice_get}
use Rattle.protocol.specs.declared.policy.Object.{Object}
use Rattle.protocol.specs.declared.policy.Object.TheVariants.{OfCell, OfPolicy}
use Rattle.protocol.specs.declared.policy.Policy.{Policy}
use Rattle.protocol.specs.declared.request.Request.{Request}
use Rattle.protocol.specs.declared.answer.Answer.{Answer}
use Rattle.protocol.specs.declared.answer.Answer.TheVariants.{Granted, Refused, Wait, Aborted}
use Rattle.serial.specs.Words.{Setup, Store, Call, Deploys, Member}
use Rattle.serial.specs.Requests.{Asked, asks_open, asks_call, asks_commit, asks_give_up, asked}
use Rattle.serial.specs.Model.{State, free, answer, after}
use Rattle.serial.specs.Serial.{Transcript}

pub record Event : Type 0 where
  pub request : Request
  pub answer : Answer

abbrev pub History : Type 0
History = List Event

-- What an event did: it opened a transaction for a subject, granted a call with an answer, committed, or ended without a commit.
pub data Effect : Type 0 where
  opens : ℕ → ℕ → Effect
  calls : ℕ → Call → ℕ → Effect
  commits : ℕ → Effect
  leaves : ℕ → Effect
  nothing : Effect

abbrev pub effect_of : Asked → Answer → Effect
effect_of (asks_open u) (Granted n) = opens n u
effect_of (asks_open u) (Refused f) = nothing
effect_of (asks_open u) (Wait w) = nothing
effect_of (asks_open u) (Aborted b p) = nothing
effect_of (asks_call t c) (Granted n) = calls t c n
effect_of (asks_call t c) (Refused f) = nothing
effect_of (asks_call t c) (Wait w) = nothing
effect_of (asks_call t c) (Aborted b p) = nothing
effect_of (asks_commit t) (Granted n) = commits t
effect_of (asks_commit t) (Refused f) = nothing
effect_of (asks_commit t) (Wait w) = nothing
effect_of (asks_commit t) (Aborted b p) = leaves t
effect_of (asks_give_up t) (Granted n) = leaves t
effect_of (asks_give_up t) (Refused f) = nothing
effect_of (asks_give_up t) (Wait w) = nothing
effect_of (asks_give_up t) (Aborted b p) = leaves t

abbrev pub effect : Event → Effect
effect e = effect_of (asked e.request) e.answer

abbrev pub transcript_with : Effect → ℕ → Transcript → Transcript
transcript_with (opens n u) t j = cond (n == t) (record { subject = Some u; calls = j.calls }) j
transcript_with (calls n c a) t j = cond (n == t) (record { subject = j.subject; calls = record { call = c; answer = a } ∷ j.calls }) j
transcript_with (commits n) t j = j
transcript_with (leaves n) t j = j
transcript_with nothing t j = j

abbrev pub no_transcript : Transcript
no_transcript = record { subject = None; calls = [] }

-- The subject of a transaction, by its granted open, and its granted calls
unfoldable pub transcript : History → ℕ → Transcript
transcript [] t = no_transcript
transcript (e ∷ h) t = transcript_with (effect e) t (transcript h t)

abbrev pub committed_with : Effect → List ℕ → List ℕ
committed_with (opens n u) old = old
committed_with (calls n c a) old = old
committed_with (commits n) old = n ∷ old
committed_with (leaves n) old = old
committed_with nothing old = old

-- The committed transactions, the last first
unfoldable pub committed : History → List ℕ
committed [] = []
committed (e ∷ h) = committed_with (effect e) (committed h)

abbrev pub Ends : Effect → ℕ → Type 0
Ends (opens n u) t = ⊥
Ends (calls n c a) t = ⊥
Ends (commits n) t = n ≡ t
Ends (leaves n) t = n ≡ t
Ends nothing t = ⊥

abbrev pub Opens : Effect → ℕ → Type 0
Opens (opens n u) t = n ≡ t
Opens (calls n c a) t = ⊥
Opens (commits n) t = ⊥
Opens (leaves n) t = ⊥
Opens nothing t = ⊥

-- The transaction was granted a deploy of the policy.
abbrev pub HasDeployed : History → ℕ → ℕ → Type 0
HasDeployed h t p = (a : ℕ) × Member (record { call = Deploys p; answer = a }) (transcript h t).calls

-- The runs of the engine from a state: each request is answered, and goes into the history with its answer.
pub data Run (S : Setup) (start_state : State) : History → State → Type 0 where
  start : Run S start_state [] start_state
  then : {h : History} {σ : State} → Run S start_state h σ → (r : Request) → Run S start_state (record { request = r; answer = answer S σ r } ∷ h) (after S σ r)

abbrev pub Present : Setup → Store → Object → Type 0
Present S s (OfCell c) = c < length s.cells
Present S s (OfPolicy p) = p < length S.policies

-- What set-up admits: nothing has been opened, every policy has a right, and every object of a policy is there.
pub record Admitted (S : Setup) (σ : State) : Type 0 where
  pub all_free : σ.slots ≡ replicate 16 free
  pub none_opened : σ.opened ≡ 0
  pub none_committed : σ.commits ≡ 0
  pub as_many_rights : length σ.store.rights ≡ length S.policies
  pub all_rights : (i : ℕ) → i < length σ.store.rights → S.is_right (slice_index σ.store.rights i) ≡ true
  pub few_cells : length σ.store.cells ≤ 256
  pub few_policies : length S.policies ≤ 64
  pub objects_present : (i : ℕ) (pol : Policy) → slice_get S.policies i ≡ Some pol → Present S σ.store pol.object
