-- What a transaction is asked for comes to in the machine, by how it stands.
use Rattle.std.proofs.Common.{◌≡◌, ℕ, ◌⊎◌, List, [], inl, inr, refl, ap}
use Rattle.protocol.specs.declared.answer.Answer.{Answer}
use Rattle.protocol.specs.declared.answer.Answer.TheVariants as answer
use Rattle.stores.specs.declared.store.Store as store
use Rattle.rights.specs.declared.order.RightsOrder as order
use Rattle.protocol.specs.declared.refusal.Refusal.{Refusal}
use Rattle.protocol.specs.declared.refusal.Refusal.TheVariants.{NoSuchTransaction}
use Rattle.serial.specs.Words.{Setup, Call, Change}
use Rattle.serial.specs.Writes.{changes_by}
use Rattle.serial.specs.Model.{State, Transaction as ModelTransaction, free, open_slot, aborted_slot, find, end, with_slots, call_in, commit_in, give_up_in, perform}
use Rattle.engine.specs.declared.action.Action.{Action}
use Rattle.engine.specs.declared.action.Action.TheVariants.{Calls, Commits, GivesUp}
use Rattle.engine.specs.declared.engine.Engine.{Engine}
use Rattle.engine.specs.Actions.{asks}
use Rattle.engine.specs.Engines.{Goes, state_of}
use Rattle.engine.proofs.Working.{keeps_none}
use Rattle.engine.proofs.Writing.{wrote_none}

module _ {C R O : Type 0} {c : store.Ghosts C} {r : store.Ghosts R} {o : order.Ghosts O} where
  pub goes_as : {before : Engine C R O} {came : Answer × Engine C R O} {to to' : Answer × State} {ks ks' : List Change}
      → Goes c r o before came to ks → to ≡ to' → ks ≡ ks' → Goes c r o before came to' ks'
  goes_as went same as_many = rw (← same, ← as_many) went

  -- an engine that stays as it is
  pub goes_nowhere : (e : Engine C R O) {a : Answer} {to : Answer × State} {ks : List Change} → (a, state_of c r e) ≡ to → [] ≡ ks → Goes c r o e (a, e) to ks
  goes_nowhere e same none = rw (← none) (record {
    answered = same;
    same_setup = refl;
    keeps_stores = keeps_none e;
    writes = wrote_none c r _ _;
  })

module _ (S : Setup) (σ : State) (t : ℕ) where
  pub nobody_acts : (a : Action) → find t σ.slots ≡ free → (answer.Refused NoSuchTransaction, σ) ≡ perform S σ (asks t a)
  unfolding perform call_in commit_in give_up_in
  nobody_acts (Calls c) e = rw e
  nobody_acts Commits e = rw e
  nobody_acts GivesUp e = rw e

  pub calls : (x : ModelTransaction) (a : Action) (c : Call) → a ≡ Calls c → find t σ.slots ≡ open_slot x → call_in S σ c (open_slot x) ≡ perform S σ (asks t a)
  unfolding perform
  calls x a c is e = rw (is, e)

  pub commits : (x : ModelTransaction) (a : Action) → a ≡ Commits → find t σ.slots ≡ open_slot x → x.number ≡ t → commit_in σ x.number (open_slot x) ≡ perform S σ (asks t a)
  unfolding perform
  commits x a is e n = rw (is, e, n)

  pub gives_up : (x : ModelTransaction) (a : Action) → a ≡ GivesUp → find t σ.slots ≡ open_slot x → (answer.Granted 0, with_slots σ (end t σ.slots)) ≡ perform S σ (asks t a)
  unfolding perform give_up_in
  gives_up x a is e = rw (is, e)

  pub stays_aborted : (b p : ℕ) (a : Action) (c : Call) → a ≡ Calls c → find t σ.slots ≡ aborted_slot t b p → (answer.Aborted b p, σ) ≡ perform S σ (asks t a)
  unfolding perform call_in
  stays_aborted b p a c is e = rw (is, e)

  pub ends_aborted : (b p : ℕ) (a : Action) → (a ≡ Commits) ⊎ (a ≡ GivesUp) → find t σ.slots ≡ aborted_slot t b p → (answer.Aborted b p, with_slots σ (end t σ.slots)) ≡ perform S σ (asks t a)
  unfolding perform commit_in give_up_in
  ends_aborted b p a (inl is) e = rw (is, e)
  ends_aborted b p a (inr is) e = rw (is, e)

-- What each of them writes
module _ (σ : State) (t : ℕ) where
  pub refused_writes : (a : Action) (f : Refusal) → [] ≡ changes_by σ (asks t a) (answer.Refused f)
  refused_writes (Calls c) f = refl
  refused_writes Commits f = refl
  refused_writes GivesUp f = refl

  pub aborted_writes : (a : Action) (b p : ℕ) (z : Answer) → z ≡ answer.Aborted b p → [] ≡ changes_by σ (asks t a) z
  aborted_writes (Calls c) b p z is = refl
  aborted_writes Commits b p z is = rw is refl
  aborted_writes GivesUp b p z is = refl

  pub call_writes : (a : Action) (c : Call) (z : Answer) → a ≡ Calls c → [] ≡ changes_by σ (asks t a) z
  call_writes a c z is = rw is refl

  pub give_up_writes : (a : Action) (z : Answer) → a ≡ GivesUp → [] ≡ changes_by σ (asks t a) z
  give_up_writes a z is = rw is refl

  pub commit_writes : (x : ModelTransaction) (a : Action) (n : ℕ) (z : Answer) (τ : State) → a ≡ Commits → find t σ.slots ≡ open_slot x
      → (z, τ) ≡ commit_in σ n (open_slot x) → x.changes ≡ changes_by σ (asks t a) z
  unfolding commit_in
  commit_writes x a n z τ is e went = rw (is, ap (λ (y : Answer × State). y.0) went, e) refl
