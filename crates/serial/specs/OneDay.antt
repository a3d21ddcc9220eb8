-- The theorem about one worked day, by the two lists in the morning, the requests, their answers, and the two lists in the evening.
use Rattle.std.specs.Prelude.{◌≡◌, ℕ, ◌≢◌, ◌↔◌, List, [], ◌∷◌, ◌++◌, length, replicate}
use Rattle.protocol.specs.declared.request.Request.{Request}
use Rattle.protocol.specs.declared.answer.Answer.{Answer}
use Rattle.protocol.specs.declared.answer.Answer.TheVariants.{Granted}
use Rattle.serial.specs.Words.{Setup, Laws, Store, Deploys, Member}
use Rattle.serial.specs.Requests.{asks_call, asked}
use Rattle.serial.specs.Model.{State, free, answer}
use Rattle.serial.specs.Serial.{Replays, serial_store, SerialGrants}
use Rattle.serial.specs.History.{Event, History, transcript, committed, Run, Admitted}
use Rattle.serial.specs.Writes.{answers_from, state_after, changes_from, day_changes}
use Rattle.serial.specs.Day.{Strikes, OpenIn, StruckIn, Restricts, Restricting, Deployers, NoDuplicate}

-- The history with the events of some requests and their answers laid on it. Both lists have the oldest first, the history the newest.
abbrev pub recorded : List Request → List Answer → History → History
recorded [] answers h = h
recorded (r ∷ requests) [] h = h
recorded (r ∷ requests) (a ∷ answers) h = recorded requests answers (record { request = r; answer = a } ∷ h)

-- The day of some requests and their answers
abbrev pub history : List Request → List Answer → History
history requests answers = recorded requests answers []

-- The state in which a day begins: all slots are free, nothing has been opened and nothing committed.
abbrev pub morning : Store → State
morning s = record { store = s; slots = replicate 16 free; opened = 0; commits = 0 }

-- A moment of a day: what had happened, the state that this led to, and the request that was made then. Its event, the request with the
-- answer that this state gives, stands in the day between the earlier events and the later ones.
pub record Moment (S : Setup) (σ₀ : State) (day : History) : Type 0 where
  pub earlier : History
  pub state : State
  pub run : Run S σ₀ earlier state
  pub request : Request
  pub later : History
  pub in_day : day ≡ later ++ (record { request = request; answer = answer S state request } ∷ earlier)

-- The moment is that of the event between those earlier and later events.
pub record IsMomentOf {S : Setup} {σ₀ : State} {day : History} (m : Moment S σ₀ day) (later : History) (e : Event) (earlier : History) : Type 0 where
  pub same_earlier : m.earlier ≡ earlier
  pub same_request : m.request ≡ e.request
  pub same_answer : answer S m.state m.request ≡ e.answer
  pub same_later : m.later ≡ later

-- What holds of a day that began with the lists before, got these answers to these requests, and ended with the lists after.
pub record DayDone (S : Setup) (before after : Store) (requests : List Request) (answers : List Answer) : Type 0 where
  -- each request has its answer
  pub every_request_answered : length answers ≡ length requests
  -- the day is a run of the engine's rules from the morning, and in the evening the stores hold the lists after
  pub evening : State
  pub run : Run S (morning before) (history requests answers) evening
  pub stores_at_evening : evening.store ≡ after
  -- the serial executor, given the committed transactions in the order of their commits, grants each of their granted calls, with the same
  -- answers to reads and shows
  pub serial_executor_grants : SerialGrants S before (transcript (history requests answers)) (committed (history requests answers))
  -- and it leaves the same lists
  pub serial_executor_ends_equal : serial_store S before (transcript (history requests answers)) (committed (history requests answers)) ≡ after
  -- it would grant the calls of a transaction that is still open in the evening, on the lists after
  pub open_transactions_replay : (t : ℕ) → OpenIn run t
      → Replays S after (transcript (history requests answers) t).subject (transcript (history requests answers) t).calls
  -- each event of the day has its moment, so what is said below of every moment is said of every request of the day
  pub each_event_has_its_moment : (later : History) (e : Event) (earlier : History) → history requests answers ≡ later ++ (e ∷ earlier)
      → (m : Moment S (morning before) (history requests answers)) × IsMomentOf m later e earlier
  -- a granted restriction strikes each other open transaction that has deployed the policy
  pub restriction_strikes_deployers : (m : Moment S (morning before) (history requests answers)) (t p n : ℕ) → Restricts m.run m.request t p n
      → (u : ℕ) → Deployers m.run t p u → Strikes S m.state m.request u
  -- and answers how many they are
  pub restriction_counts_struck : (m : Moment S (morning before) (history requests answers)) (t p n : ℕ) → Restricts m.run m.request t p n
      → (us : List ℕ) × NoDuplicate us × ((u : ℕ) → Member u us ↔ Deployers m.run t p u) × (length us ≡ n)
  -- while a transaction restricts a policy, no other is granted a deploy of it
  pub no_deploy_while_restricting : (m : Moment S (morning before) (history requests answers)) (t p u n : ℕ) → Restricting m.run t p → u ≢ t
      → asked m.request ≡ asks_call u (Deploys p) → answer S m.state m.request ≢ Granted n
  -- only a granted restriction strikes, and only those that have deployed its policy
  pub nothing_else_strikes : (m : Moment S (morning before) (history requests answers)) (t : ℕ) → Strikes S m.state m.request t
      → (u : ℕ) × (p : ℕ) × (n : ℕ) × Restricts m.run m.request u p n × Deployers m.run u p t
  -- whom a request of the day strikes is struck in the day
  pub struck_at_a_moment_is_struck : (m : Moment S (morning before) (history requests answers)) (t : ℕ) → Strikes S m.state m.request t → StruckIn run t
  -- what was struck never commits
  pub struck_never_commit : (t : ℕ) → StruckIn run t → Member t (committed (history requests answers)) → ⊥

-- The requests in turn, from the one state, get these answers and lead to the other state: every run that led to the one goes on over them
-- to the other.
pub record Worked (S : Setup) (σ : State) (requests : List Request) (answers : List Answer) (σ' : State) : Type 0 where
  pub all_answered : length answers ≡ length requests
  pub goes_on : {σ₀ : State} {h : History} → Run S σ₀ h σ → Run S σ₀ (recorded requests answers h) σ'

-- The same request by request: these are their answers in turn, and the state that they lead to.
pub record WorkedInTurn (S : Setup) (σ : State) (requests : List Request) (answers : List Answer)
    (σ' : State) : Type 0 where
  pub answered_in_turn : answers ≡ answers_from S σ requests
  pub leads_to : σ' ≡ state_after S σ requests

-- Whatever the order of rights, the policies and the lists in the morning, if set-up admits them, and whatever is asked
abbrev pub EveryDayIsDone : Type 0
EveryDayIsDone = (S : Setup) → Laws S → (before : Store) → Admitted S (morning before)
    → (requests : List Request) (answers : List Answer) (evening : State) → Worked S (morning before) requests answers evening
    → DayDone S before evening.store requests answers

-- And it writes the changes of its committed transactions, in the order of their commits.
abbrev pub DayIsWritten : Type 0
DayIsWritten = (S : Setup) → Laws S → (before : Store) → Admitted S (morning before)
    → (requests : List Request) (answers : List Answer) (evening : State)
    → Worked S (morning before) requests answers evening
    → changes_from S (morning before) requests ≡ day_changes (history requests answers)
