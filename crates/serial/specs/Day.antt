-- The theorem about a whole day of the engine.
use Rattle.std.specs.Prelude.{◌≡◌, ℕ, ◌≢◌, ◌⊎◌, ◌↔◌, List, [], ◌∷◌, length, slice_index}
use Rattle.protocol.specs.declared.request.Request.{Request}
use Rattle.protocol.specs.declared.answer.Answer.TheVariants.{Granted, Aborted}
use Rattle.rights.specs.declared.change.ChangeKind.TheVariants.{Restriction}
use Rattle.serial.specs.Words.{Setup, Laws, change_kind, Deploys, Sets, Member}
use Rattle.serial.specs.Requests.{Asked, asks_open, asks_call, asks_commit, asks_give_up, asked}
use Rattle.serial.specs.Model.{State, answer, after}
use Rattle.serial.specs.Serial.{Replays, serial_store, SerialGrants}
use Rattle.serial.specs.History.{History, Effect, effect_of, Ends, Opens, HasDeployed, transcript, committed, Run, start, then, Admitted}

-- The request names that transaction.
abbrev pub Names : Asked → ℕ → Type 0
Names (asks_open u) t = ⊥
Names (asks_call n c) t = n ≡ t
Names (asks_commit n) t = n ≡ t
Names (asks_give_up n) t = n ≡ t

-- Every request that names the transaction is answered aborted.
unfoldable pub AnswersAborted : Setup → State → ℕ → Type 0
AnswersAborted S σ t = (r : Request) → Names (asked r) t → (b : ℕ) × (p : ℕ) × (answer S σ r ≡ Aborted b p)

-- A request strikes a transaction: just after it, and not just before, each request that names the transaction is answered aborted.
unfoldable pub Strikes : Setup → State → Request → ℕ → Type 0
Strikes S σ r t = AnswersAborted S (after S σ r) t × (AnswersAborted S σ t → ⊥)

-- What a request does
abbrev pub does : Setup → State → Request → Effect
does S σ r = effect_of (asked r) (answer S σ r)

-- Open in a run: from the granted open until it ends or is struck
unfoldable pub OpenIn : {S : Setup} {σ₀ : State} {h : History} {σ : State} → Run S σ₀ h σ → ℕ → Type 0
OpenIn start t = ⊥
OpenIn {S} (then {σ = σ} run r) t =
    Opens (does S σ r) t ⊎ (OpenIn run t × (Ends (does S σ r) t → ⊥) × (Strikes S σ r t → ⊥))

unfoldable pub StruckIn : {S : Setup} {σ₀ : State} {h : History} {σ : State} → Run S σ₀ h σ → ℕ → Type 0
StruckIn start t = ⊥
StruckIn {S} (then {σ = σ} run r) t = StruckIn run t ⊎ Strikes S σ r t

-- After the run, the request restricts the policy p for the transaction t, with the answer n: a granted set, which is a restriction of the
-- right that the serial executor has after the transactions committed so far.
abbrev pub Restricts : {S : Setup} {σ₀ : State} {h : History} {σ : State} → Run S σ₀ h σ → Request → ℕ → ℕ → ℕ → Type 0
Restricts {S} {σ₀} {h} {σ} run r t p n =
    (v : ℕ) × (asked r ≡ asks_call t (Sets p v)) × (answer S σ r ≡ Granted n)
    × (change_kind S (slice_index (serial_store S σ₀.store (transcript h) (committed h)).rights p) v ≡ Restriction)

-- The transaction has restricted the policy, and has since neither ended nor been struck.
unfoldable pub Restricting : {S : Setup} {σ₀ : State} {h : History} {σ : State} → Run S σ₀ h σ → ℕ → ℕ → Type 0
Restricting start t p = ⊥
Restricting {S} (then {σ = σ} run r) t p =
    ((n : ℕ) × Restricts run r t p n) ⊎ (Restricting run t p × (Ends (does S σ r) t → ⊥) × (Strikes S σ r t → ⊥))

-- The open transactions besides t that have deployed the policy
abbrev pub Deployers : {S : Setup} {σ₀ : State} {h : History} {σ : State} → Run S σ₀ h σ → ℕ → ℕ → ℕ → Type 0
Deployers {h = h} run t p u = (u ≢ t) × OpenIn run u × HasDeployed h u p

abbrev pub NoDuplicate : List ℕ → Type 0
NoDuplicate [] = Unit {0}
NoDuplicate (x ∷ xs) = (Member x xs → ⊥) × NoDuplicate xs

-- What holds of every run from a state
pub record RunsAreSerial (S : Setup) (σ₀ : State) : Type 0 where
  -- the serial executor, given the committed transactions in the order of their commits, grants each of their granted calls, with the same
  -- answers to reads and shows, and leaves the same lists
  pub serial_executor_grants : {h : History} {σ : State} → Run S σ₀ h σ → SerialGrants S σ₀.store (transcript h) (committed h)
  pub serial_executor_ends_equal : {h : History} {σ : State} → Run S σ₀ h σ → serial_store S σ₀.store (transcript h) (committed h) ≡ σ.store
  -- it would grant an open transaction's calls so far on the lists of now
  pub open_transactions_replay : {h : History} {σ : State} (run : Run S σ₀ h σ) (t : ℕ) → OpenIn run t
      → Replays S σ.store (transcript h t).subject (transcript h t).calls
  -- a granted restriction strikes each other open transaction that has deployed the policy, and answers how many they are
  pub restriction_strikes_deployers : {h : History} {σ : State} (run : Run S σ₀ h σ) (r : Request) (t p n : ℕ) → Restricts run r t p n
      → (u : ℕ) → Deployers run t p u → Strikes S σ r u
  pub restriction_counts_struck : {h : History} {σ : State} (run : Run S σ₀ h σ) (r : Request) (t p n : ℕ) → Restricts run r t p n
      → (us : List ℕ) × NoDuplicate us × ((u : ℕ) → Member u us ↔ Deployers run t p u) × (length us ≡ n)
  -- what was struck never commits
  pub struck_never_commit : {h : History} {σ : State} (run : Run S σ₀ h σ) (t : ℕ) → StruckIn run t → Member t (committed h) → ⊥
  -- while a transaction restricts a policy, no other is granted a deploy of it
  pub no_deploy_while_restricting : {h : History} {σ : State} (run : Run S σ₀ h σ) (r : Request) (t p u n : ℕ) → Restricting run t p → u ≢ t
      → asked r ≡ asks_call u (Deploys p) → answer S σ r ≢ Granted n
  -- only a granted restriction strikes, and only those that have deployed its policy
  pub nothing_else_strikes : {h : History} {σ : State} (run : Run S σ₀ h σ) (r : Request) (t : ℕ) → Strikes S σ r t
      → (u : ℕ) × (p : ℕ) × (n : ℕ) × Restricts run r u p n × Deployers run u p t

-- Whatever the order of rights, the policies and the first lists, if set-up admits them
abbrev pub DayIsSerial : Type 0
DayIsSerial = (S : Setup) → Laws S → (σ₀ : State) → Admitted S σ₀ → RunsAreSerial S σ₀
