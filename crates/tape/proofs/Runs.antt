-- Records that are run one after another, and the day that they are.
use Rattle.std.proofs.Common.{◌≡◌, ℕ, ◌+◌, ◌≤◌, List, [], ◌∷◌, ◌++◌, length, take, drop, Ok, Err, Result, None, Some, sym, refl, ap, ap₂, ◌∙◌, subst, append_assoc}
use Rattle.std.proofs.lemmas.List.{append-nil}
use Rattle.protocol.specs.declared.answer.Answer.{Answer}
use Rattle.protocol.specs.declared.refusal.Refusal.{Refusal}
use Rattle.protocol.specs.declared.request.Request.{Request}
use Rattle.records.specs.declared.fault.FaultValues.{FaultValues}
use Rattle.records.specs.Faults.{values_line}
use Rattle.records.specs.Tapes.{TapeReading, at_end, at_fault, behind}
use Rattle.records.proofs.Tapes.{ahead}
use Rattle.stores.specs.declared.store.Store as store
use Rattle.rights.specs.declared.order.RightsOrder as order
use Rattle.protocol.specs.Refusals.{answered}
use Rattle.records.specs.Tapes.{tape_of, ReadsTape}
use Rattle.serial.specs.Words.{Setup, Store, Change, Laws}
use Rattle.serial.specs.History.{Admitted}
use Rattle.serial.specs.OneDay.{morning}
use Rattle.engine.specs.Stores.{lists_of, Wrote}
use Rattle.day.proofs.Whole.{day_of, day_wrote, day_back, wrote_back}
use Rattle.lines.specs.Lines.{answer_line, answer_lines}
use Rattle.engine.specs.declared.engine.Engine.{Engine}
use Rattle.engine.specs.Engines.{setup_of, state_of, Works, Steps}
use Rattle.engine.proofs.Working.{works_none, works_push}
use Rattle.tape.specs.Records.{RanRecords}
use Rattle.tape.specs.Runs.{longest_lines, run_check, Ran, RunsTape}
use Rattle.tape.proofs.Pushed.{Front, front_none, front_answer, front_more}

ahead_behind : (rs : List Request) (q : Request) (records : TapeReading) → ahead rs (behind q records) ≡ ahead (rs ++ q ∷ []) records
ahead_behind rs q records = ap (λ qs. record { requests = qs; fault = records.fault }) (sym (append_assoc rs (q ∷ []) records.requests))

module _ {C R O : Type 0} (c : store.Ghosts C) (r : store.Ghosts R) (o : order.Ghosts O) (e : Engine C R O) (all : TapeReading) (whole : List ℕ) where
  -- The first of the requests were made, and the lines of their answers stand at the buffer's front.
  pub record SoFar (m : Engine C R O) (left : TapeReading) (buffer : List ℕ) (end : ℕ) : Type 0 where
    pub requests : List Request
    pub answers : List Answer
    pub in_order : all ≡ ahead requests left
    pub works : Works c r o e requests answers m
    pub front : Front (answer_lines answers) whole end buffer

  pub so_far_more : {m f : Engine C R O} {left next : TapeReading} {buffer : List ℕ} {end : ℕ} → SoFar m left buffer end
      → (q : Request) (a : Answer) → left ≡ behind q next → Steps c r o m q a f
      → (last : List ℕ) (to : ℕ) → to ≡ end + length (answer_line a) → last ≡ take end buffer ++ answer_line a ++ drop to buffer → SoFar f next last to
  so_far_more {next = next} s q a is went last to ends written = record {
    requests = s.requests ++ q ∷ [];
    answers = s.answers ++ a ∷ [];
    in_order = s.in_order ∙ ap (ahead s.requests) is ∙ ahead_behind s.requests q next;
    works = works_push s.works q went;
    front = front_answer s.answers s.front a last to ends written;
  }

  pub so_far_ends : {m : Engine C R O} {left : TapeReading} {buffer : List ℕ} {end : ℕ} → SoFar m left buffer end → left ≡ at_end → RanRecords c r o e m all whole buffer end
  so_far_ends {m} {buffer = buffer} {end} s is =
      let same : all ≡ record { requests = s.requests; fault = None } =
      s.in_order ∙ ap (ahead s.requests) is ∙ ap (λ qs. record { requests = qs; fault = None }) (append-nil s.requests) in
      subst (λ x. RanRecords c r o e m x whole buffer end) (sym same) (record {
        answers = s.answers;
        works = s.works;
        length_answered = s.front.size ∙ ap length (sym (append-nil (answer_lines s.answers)));
        lines_written = s.front.text ∙ ap (λ ls. ls ++ drop end whole) (sym (append-nil (answer_lines s.answers)));
      })

  pub so_far_stops : {m : Engine C R O} {left : TapeReading} {buffer : List ℕ} {end : ℕ} → SoFar m left buffer end → (f : FaultValues) → left ≡ at_fault f
      → (last : List ℕ) (to : ℕ) → to ≡ end + length (values_line f) → last ≡ take end buffer ++ values_line f ++ drop to buffer → RanRecords c r o e m all whole last to
  so_far_stops {m} {buffer = buffer} {end} s f is last to ends written =
      let same : all ≡ record { requests = s.requests; fault = Some f } =
      s.in_order ∙ ap (ahead s.requests) is ∙ ap (λ qs. record { requests = qs; fault = Some f }) (append-nil s.requests) in
      let front = front_more s.front (values_line f) last to ends written in
      subst (λ x. RanRecords c r o e m x whole last to) (sym same) (record {
        answers = s.answers;
        works = s.works;
        length_answered = front.size;
        lines_written = front.text;
      })

-- at first
pub so_far_none : {C R O : Type 0} (c : store.Ghosts C) (r : store.Ghosts R) (o : order.Ghosts O) (e : Engine C R O) (all : TapeReading) (whole : List ℕ) → SoFar c r o e all whole e all whole 0
unfolding answer_lines
so_far_none c r o e all whole = record { requests = []; answers = []; in_order = refl; works = works_none e; front = front_none whole }

-- The same run by what follows of the changes that went into the stores
module _ (S : Setup) (before after : Store) (wrote wrote' : List Change → Type 0) (tape buffer buffer' : List ℕ) (follows : (ks : List Change) → wrote ks → wrote' ks) where
  pub runs_as : (ran : Result ℕ Refusal) → RunsTape S before after wrote tape buffer buffer' ran → RunsTape S before after wrote' tape buffer buffer' ran
  runs_as (Ok n) w = record {
    nothing_refused = w.nothing_refused;
    records_are_requests = w.records_are_requests;
    answers = w.answers;
    day_done = w.day_done;
    writes = follows _ w.writes;
    length_answered = w.length_answered;
    lines_written = w.lines_written;
    lines_bounded = w.lines_bounded;
  }
  runs_as (Err f) w = record {
    refuses = w.refuses;
    stores_stay = w.stores_stay;
    nothing_written = follows [] w.nothing_written;
    buffer_stays = w.buffer_stays;
  }

-- An engine that was made for a day, and what the records of a tape made of it
module _ {C R O : Type 0} (c : store.Ghosts C) (r : store.Ghosts R) (o : order.Ghosts O) (S : Setup) (laws : Laws S) (cells cells' : C) (rights rights' : R)
    (admitted : Admitted S (morning (lists_of c r cells rights))) (e f : Engine C R O) (setup : setup_of o e ≡ S)
    (state : state_of c r e ≡ morning (lists_of c r cells rights)) (same_cells : e.cells.now ≡ cells) (same_rights : e.rights.now ≡ rights)
    (cells_back : cells' ≡ f.cells.now) (rights_back : rights' ≡ f.rights.now) where
  pub ran_of : (tape buffer buffer' : List ℕ) (n : ℕ) → run_check S (lists_of c r cells rights) tape buffer ≡ answered tt → ReadsTape tape (tape_of tape)
      → RanRecords c r o e f (tape_of tape) buffer buffer' n → n ≤ longest_lines tape
      → Ran S (lists_of c r cells rights) (lists_of c r cells' rights') (Wrote c r cells rights cells' rights') tape buffer buffer' n
  ran_of tape buffer buffer' n checked reads ran short =
      let before = lists_of c r cells rights in
      let lists : lists_of c r e.cells.now e.rights.now ≡ before = ap₂ (lists_of c r) same_cells same_rights in
      let requests = (tape_of tape).requests in
      record {
        nothing_refused = checked;
        records_are_requests = reads;
        answers = ran.answers;
        day_done = day_back c r cells_back rights_back (day_of c r o S laws before admitted e f setup state lists requests ran.answers ran.works);
        writes = wrote_back c r same_cells same_rights cells_back rights_back (day_wrote c r o S laws before admitted e f setup state lists requests ran.answers ran.works);
        length_answered = ran.length_answered;
        lines_written = ran.lines_written;
        lines_bounded = short;
      }
