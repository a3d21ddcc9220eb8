-- The theorem about one worked day, and the steps of a loop that makes one call after the other.
use Rattle.std.proofs.Common.{◌≡◌, ℕ, ◌+◌, ◌<◌, List, [], ◌∷◌, ◌++◌, length, get_or, take, set, sym, refl, ap, ◌∙◌, subst, ap₂, inl, inr, arith}
use Rattle.std.proofs.lemmas.List.{take_more, take_more_set, length-append, append_assoc, append-nil}
use Rattle.protocol.specs.declared.request.Request.{Request}
use Rattle.protocol.specs.declared.answer.Answer.{Answer}
use Rattle.protocol.specs.declared.answer.Answer.TheVariants.{Granted, Refused, Wait, Aborted}
use Rattle.serial.specs.Words.{Setup, Laws, Store}
use Rattle.serial.specs.Model.{State, step, answer, after}
use Rattle.serial.specs.History.{Event, History, effect_of, committed_with, Run, start, then, Admitted}
use Rattle.serial.specs.Requests.{Asked, asks_open, asks_call, asks_commit, asks_give_up, asked}
use Rattle.serial.specs.Writes.{NoneCommitted, changes_by, changes_from, state_after, answers_from}
use Rattle.serial.specs.Day.{Strikes, StruckIn, RunsAreSerial}
use Rattle.serial.specs.OneDay.{recorded, history, morning, Moment, IsMomentOf, DayDone, Worked, WorkedInTurn, EveryDayIsDone}
use Rattle.serial.proofs.Main.{day_is_serial}

-- no event is in the empty history
empty : {A : Type 0} (later : History) (e : Event) (earlier : History) → [] ≡ later ++ (e ∷ earlier) → A
empty [] e earlier q = cc
empty (l ∷ later) e earlier q = cc

-- the moments of a day

record Found (S : Setup) (σ₀ : State) (e : Event) (earlier : History) : Type 0 where
  pub state : State
  pub run : Run S σ₀ earlier state
  pub answered : answer S state e.request ≡ e.answer

found : (S : Setup) (σ₀ : State) {h : History} {σ : State} → Run S σ₀ h σ → (later : History) (e : Event) (earlier : History) → h ≡ later ++ (e ∷ earlier) → Found S σ₀ e earlier
found S σ₀ start later e earlier q = empty later e earlier q
found S σ₀ (then {h = h} {σ = σ} run r) [] e earlier q =
    let tail : h ≡ earlier = cc in
    record { state = σ; run = rw tail at run; answered = cc }
found S σ₀ (then {h = h} run r) (l ∷ later) e earlier q =
    found S σ₀ run later e earlier (cc)

pub moment_of : (S : Setup) (σ₀ : State) {h : History} {σ : State} → Run S σ₀ h σ → (later : History) (e : Event) (earlier : History) → h ≡ later ++ (e ∷ earlier)
    → (m : Moment S σ₀ h) × IsMomentOf m later e earlier
moment_of S σ₀ run later e earlier q =
    let w = found S σ₀ run later e earlier q in (
      record {
        earlier = earlier;
        state = w.state;
        run = w.run;
        request = e.request;
        later = later;
        in_day = q ∙ ap (λ a. later ++ (record { request = e.request; answer = a } ∷ earlier)) (sym w.answered);
      },
      record { same_earlier = refl; same_request = refl; same_answer = w.answered; same_later = refl },
    )

-- a history leads to one state only
pub run_ends : (S : Setup) (σ₀ : State) {h k : History} {σ τ : State} → h ≡ k → Run S σ₀ h σ → Run S σ₀ k τ → σ ≡ τ
run_ends S σ₀ q start start = refl
run_ends S σ₀ q start (then run r) = cc
run_ends S σ₀ q (then run r) start = cc
run_ends S σ₀ q (then {h = h} {σ = σ} run r) (then {h = k} {σ = τ} other o) =
    let asked : r ≡ o = grind arith in
    ap₂ (after S) (run_ends S σ₀ (cc) run other) asked

struck_in : (S : Setup) (σ₀ : State) {h : History} {σ : State} (run : Run S σ₀ h σ) (m : Moment S σ₀ h) (t : ℕ) → Strikes S m.state m.request t
    → StruckIn run t
unfolding StruckIn
struck_in S σ₀ run m t s = go run m.later m.in_day
  where
    go : {h : History} {σ : State} (run : Run S σ₀ h σ) (later : History)
        → h ≡ later ++ (record { request = m.request; answer = answer S m.state m.request } ∷ m.earlier) → StruckIn run t
    go start later q = empty later _ _ q
    go (then {h = h} {σ = σ} run r) [] q =
        let asked : r ≡ m.request = grind arith in
        inr (rw (asked, run_ends S σ₀ (cc) run m.run) s)
    go (then {h = h} run r) (l ∷ later) q = inl (go run later (cc))

pub day_done : (S : Setup) → Laws S → (before after : Store) → Admitted S (morning before) → (rs : List Request) (bs : List Answer) (σ : State)
    → length bs ≡ length rs → Run S (morning before) (history rs bs) σ → σ.store ≡ after → DayDone S before after rs bs
day_done S laws before after adm rs bs σ long run ends = record {
  every_request_answered = long;
  evening = σ;
  run = run;
  stores_at_evening = ends;
  serial_executor_grants = all.serial_executor_grants run;
  serial_executor_ends_equal = all.serial_executor_ends_equal run ∙ ends;
  open_transactions_replay = λ t o. rw ends at (all.open_transactions_replay run t o);
  each_event_has_its_moment = moment_of S (morning before) run;
  restriction_strikes_deployers = λ m. all.restriction_strikes_deployers m.run m.request;
  restriction_counts_struck = λ m. all.restriction_counts_struck m.run m.request;
  no_deploy_while_restricting = λ m. all.no_deploy_while_restricting m.run m.request;
  nothing_else_strikes = λ m. all.nothing_else_strikes m.run m.request;
  struck_at_a_moment_is_struck = struck_in S (morning before) run;
  struck_never_commit = all.struck_never_commit run;
}
  where
    all : RunsAreSerial S (morning before)
    all = day_is_serial S laws (morning before) adm

-- the steps of a loop that makes one call after the other

-- laid on a history with something below it
recorded_above : (rs : List Request) (bs : List Answer) (k h : History) → recorded rs bs (k ++ h) ≡ recorded rs bs k ++ h
recorded_above [] bs k h = refl
recorded_above (r ∷ rs) [] k h = refl
recorded_above (r ∷ rs) (b ∷ bs) k h = recorded_above rs bs (record { request = r; answer = b } ∷ k) h

run_on : {S : Setup} {σ₀ σ τ : State} {h k : History} → Run S σ₀ h σ → Run S σ k τ → Run S σ₀ (k ++ h) τ
run_on run start = run
run_on run (then more r) = then (run_on run more) r

-- a run that goes on over some requests with some answers has answered them in turn
pub run_in_turn : {S : Setup} {σ₀ τ : State} (rs : List Request) (bs : List Answer) {σ : State} {h : History} → length bs ≡ length rs
    → Run S σ₀ h σ → Run S σ₀ (recorded rs bs h) τ → WorkedInTurn S σ rs bs τ
unfolding answers_from state_after
run_in_turn {S} {σ₀} [] [] long run more =
    record { answered_in_turn = refl; leads_to = run_ends S σ₀ refl more run }
run_in_turn [] (b ∷ bs) long run more = cc
run_in_turn (r ∷ rs) [] long run more = cc
run_in_turn {S} {σ₀} (r ∷ rs) (b ∷ bs) {σ} {h} long run more =
    let w = found S σ₀ more (recorded rs bs []) (record { request = r; answer = b }) h (recorded_above rs bs [] _) in
    let told : b ≡ answer S σ r = rw (run_ends S σ₀ refl run w.run) (sym w.answered) in
    let rest = run_in_turn rs bs (omega arith) (then run r) (rw told at more) in
    record { answered_in_turn = ap₂ (λ c cs. c ∷ cs) told rest.answered_in_turn; leads_to = rest.leads_to }

recorded_both : (rs : List Request) (bs : List Answer) (rs' : List Request) (bs' : List Answer) (h : History) → length bs ≡ length rs
    → recorded (rs ++ rs') (bs ++ bs') h ≡ recorded rs' bs' (recorded rs bs h)
recorded_both [] [] rs' bs' h e = refl
recorded_both [] (b ∷ bs) rs' bs' h e = cc
recorded_both (r ∷ rs) [] rs' bs' h e = cc
recorded_both (r ∷ rs) (b ∷ bs) rs' bs' h e =
    recorded_both rs bs rs' bs' (record { request = r; answer = b } ∷ h) (omega arith)

-- the changes over some requests and then some more
changes_both : (S : Setup) (σ : State) (rs rs' : List Request)
    → changes_from S σ (rs ++ rs') ≡ changes_from S σ rs ++ changes_from S (state_after S σ rs) rs'
unfolding changes_from state_after
changes_both S σ [] rs' = refl
changes_both S σ (r ∷ rs) rs' =
    ap (λ ks. changes_by σ (asked r) (answer S σ r) ++ ks) (changes_both S (after S σ r) rs rs')
    ∙ sym (append_assoc (changes_by σ (asked r) (answer S σ r)) (changes_from S (after S σ r) rs) (changes_from S (state_after S (after S σ r) rs) rs'))

changes_one : (S : Setup) (σ : State) (r : Request) → changes_from S σ (r ∷ []) ≡ changes_by σ (asked r) (answer S σ r)
unfolding changes_from
changes_one S σ r = append-nil (changes_by σ (asked r) (answer S σ r))

module _ {S : Setup} {σ : State} where
  pub worked_none : Worked S σ [] [] σ
  worked_none = record { all_answered = refl; goes_on = λ run. run }

  -- some requests and then some more
  pub worked_on : {rs rs' : List Request} {bs bs' : List Answer} {τ υ : State} → Worked S σ rs bs τ → Worked S τ rs' bs' υ
      → Worked S σ (rs ++ rs') (bs ++ bs') υ
  worked_on {rs} {rs'} {bs} {bs'} {υ = υ} w v = record {
    all_answered = simp (length-append, w.all_answered, v.all_answered);
    goes_on = λ {σ₀} {h} run. rw (recorded_both rs bs rs' bs' h w.all_answered) (v.goes_on (w.goes_on run));
  }

  pub worked_one : {τ : State} {a : Answer} (r : Request) → (a, τ) ≡ step S σ r → Worked S σ (r ∷ []) (a ∷ []) τ
  worked_one r e = record {
    all_answered = refl;
    goes_on = λ {σ₀} {h} run. subst (λ (z : Answer × State). Run S σ₀ (record { request = r; answer = z.0 } ∷ h) z.1) (sym e) (then run r);
  }

  -- the same in plain words: the requests with their answers are a run from the state
  pub run_worked : {rs : List Request} {bs : List Answer} {τ : State} → length bs ≡ length rs → Run S σ (history rs bs) τ → Worked S σ rs bs τ
  run_worked {rs} {bs} {τ} long more = record {
    all_answered = long;
    goes_on = λ {σ₀} {h} run. rw (recorded_above rs bs [] h) (run_on run more);
  }

  pub worked_run : {rs : List Request} {bs : List Answer} {τ : State} → Worked S σ rs bs τ → Run S σ (history rs bs) τ
  worked_run w = w.goes_on start

  pub worked_in_turn : {rs : List Request} {bs : List Answer} {τ : State} → Worked S σ rs bs τ → WorkedInTurn S σ rs bs τ
  worked_in_turn {rs} {bs} w = run_in_turn rs bs w.all_answered start (w.goes_on start)

pub worked_push : {S : Setup} {σ τ τ' : State} {rs : List Request} {bs : List Answer} {a : Answer} → Worked S σ rs bs τ → (r : Request) → (a, τ') ≡ step S τ r
    → Worked S σ (rs ++ r ∷ []) (bs ++ a ∷ []) τ'
worked_push w r e = worked_on w (worked_one r e)

-- the requests and the answers are slices; the answers so far stand before the index
pub worked_more : {S : Setup} {σ τ τ' : State} {a : Answer} (rs : List Request) (bs : List Answer) (k : ℕ) (d : Request)
    → Worked S σ (take k rs) (take k bs) τ → k < length rs → k < length bs → (a, τ') ≡ step S τ (get_or rs k d)
    → Worked S σ (take (k + 1) rs) (take (k + 1) (set bs k a)) τ'
worked_more {a = a} rs bs k d w lr lb e = rw (take_more rs k d lr, take_more_set bs k a lb) (worked_push w (get_or rs k d) e)

-- what they write, by the state that the requests so far led to
pub written_push : {S : Setup} {σ τ : State} {rs : List Request} {bs : List Answer} → Worked S σ rs bs τ → (r : Request)
    → changes_from S σ (rs ++ r ∷ []) ≡ changes_from S σ rs ++ changes_by τ (asked r) (answer S τ r)
written_push {S} {σ} {rs = rs} w r = rw (changes_both S σ rs (r ∷ []), ← (worked_in_turn w).leads_to, changes_one S _ r) refl

pub written_more : {S : Setup} {σ τ : State} (rs : List Request) (bs : List Answer) (k : ℕ) (d : Request)
    → Worked S σ (take k rs) (take k bs) τ → k < length rs
    → changes_from S σ (take (k + 1) rs) ≡ changes_from S σ (take k rs) ++ changes_by τ (asked (get_or rs k d)) (answer S τ (get_or rs k d))
written_more rs bs k d w lr = rw (take_more rs k d lr) (written_push w (get_or rs k d))

pub worked_day : {S : Setup} → Laws S → {before after : Store} {rs : List Request} {bs : List Answer} {σ : State} → Worked S (morning before) rs bs σ → σ.store ≡ after
    → Admitted S (morning before) → DayDone S before after rs bs
worked_day {S} laws {before} {after} {rs} {bs} {σ} w ends adm = day_done S laws before after adm rs bs σ w.all_answered (w.goes_on start) ends

pub every_day_is_done : EveryDayIsDone
every_day_is_done S laws before adm requests answers evening w = worked_day laws w refl adm

-- where none of them is a commit that was granted, they write nothing
one_writes_nothing : (σ : State) (k : Asked) (a : Answer) → committed_with (effect_of k a) [] ≡ [] → changes_by σ k a ≡ []
one_writes_nothing σ (asks_open u) a none = refl
one_writes_nothing σ (asks_call t c) a none = refl
one_writes_nothing σ (asks_give_up t) a none = refl
one_writes_nothing σ (asks_commit t) (Granted n) none = cc
one_writes_nothing σ (asks_commit t) (Refused f) none = refl
one_writes_nothing σ (asks_commit t) (Wait u) none = refl
one_writes_nothing σ (asks_commit t) (Aborted b p) none = refl

pub nothing_written : (S : Setup) (σ : State) (rs : List Request) (bs : List Answer) → bs ≡ answers_from S σ rs → NoneCommitted rs bs → changes_from S σ rs ≡ []
unfolding changes_from answers_from
nothing_written S σ [] bs told none = refl
nothing_written S σ (r ∷ rs) [] told none = cc
nothing_written S σ (r ∷ rs) (b ∷ bs) told none =
    let first : answer S σ r ≡ b = cc in
    let rest : bs ≡ answers_from S (after S σ r) rs = cc in
    ap₂ (λ ks ls. ks ++ ls) (ap (changes_by σ (asked r)) first ∙ one_writes_nothing σ (asked r) b none.0) (nothing_written S (after S σ r) rs bs rest none.1)
