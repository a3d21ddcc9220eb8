-- The parts of the theorem.
use Rattle.std.proofs.Common.{◌≡◌, ℕ, suc, ◌≤◌, true, ◌≢◌, ◌⊎◌, ◌↔◌, List, [], ◌∷◌, length, get_or, None, Option, sym, ap, ◌∙◌, inl, inr, ⊎_elim, arith}
use Rattle.protocol.specs.declared.request.Request.{Request}
use Rattle.protocol.specs.declared.answer.Answer.TheVariants.{Granted}
use Rattle.rights.specs.declared.change.ChangeKind.TheVariants.{Restriction}
use Rattle.locking.specs.declared.mode.PolicyMode.TheVariants.{Restrict, Deploy}
use Rattle.serial.specs.Words.{Setup, Laws, Store, Call, Deploys, Sets, Member, change_kind}
use Rattle.serial.specs.Locks.{Lock, OnPolicy, lock_number}
use Rattle.serial.specs.Requests.{Asked, asks_call, asked}
use Rattle.serial.specs.Model.{State, Slot, open_slot, Transaction, find, verdict, is_signal, lock_for, call_answer, call_in, call_judged, call_unblocked, call_granted, open_in, commit_in, give_up_in, perform, answer, after, advance, signalled, blocker}
use Rattle.serial.specs.Serial.{Entry, note_call, Session, Replays, serial_store}
use Rattle.serial.specs.History.{History, effect_of, Ends, Opens, HasDeployed, transcript, committed, committed_with, Run, start, then, Admitted}
use Rattle.serial.specs.Day.{Strikes, does, OpenIn, StruckIn, Restricts, Restricting, Deployers, NoDuplicate}
use Rattle.serial.proofs.Slots.{find_number}
use Rattle.serial.proofs.Locks.{Coexist, restrict_deploy, verdict_ok, neither, unblocked, signalled_if, signal_means}
use Rattle.serial.proofs.Replay.{session, follows_replays}
use Rattle.serial.proofs.Fits.{LockedAll}
use Rattle.serial.proofs.Advance.{advance_new, set_lock_restrict}
use Rattle.serial.proofs.Granted.{called_same}
use Rattle.serial.proofs.Steps.{WasGranted, granted_call, count}
use Rattle.serial.proofs.Kept.{Holds, run_holds}
use Rattle.serial.proofs.Fate.{Fate, fate, struck_after}
use Rattle.serial.proofs.Counts.{signalled_found, signalled_there, signalled_once}
use Rattle.serial.proofs.Struck.{IsOpen, answers_aborted, struck_strikes, strikes_struck, open_step_back, next_free, open_in_slot, slot_open_in}

-- a deployed policy has a granted deploy among the calls
deployed_before : (c : Call) (e : Session) (p : ℕ) → Member p (note_call e c).deployed → (c ≡ Deploys p) ⊎ Member p e.deployed
deployed_before c e p i = grind arith

deployed_entry : (u : Option ℕ) (l : List Entry) (p : ℕ) → Member p (session u l).deployed → (a : ℕ) × Member (record { call = Deploys p; answer = a }) l
unfolding session
deployed_entry u [] p i = absurd i
deployed_entry u (k ∷ l) p i =
    ⊎_elim
    (λ q. (k.answer, inl (ap (λ z. record { call = z; answer = k.answer }) (sym q))))
    (λ m. let w = deployed_entry u l p m in (w.0, inr w.1))
    (deployed_before k.call (session u l) p i)

entry_held : (x : Transaction) (l : List Entry) (p a : ℕ) → LockedAll x l → Member (record { call = Deploys p; answer = a }) l → x.holds (OnPolicy Deploy p) ≡ true
entry_held x [] p a k i = absurd i
entry_held x (e ∷ l) p a k i = grind (arith, entry_held x l p a)

-- only a restricting set takes a restrict lock
lock_restrict : (S : Setup) (s : Store) (c : Call) (p : ℕ) → lock_for S s c ≡ OnPolicy Restrict p → (v : ℕ) × (c ≡ Sets p v) × (change_kind S (get_or s.rights p 0) v ≡ Restriction)
unfolding lock_for
lock_restrict S s c p e = grind arith

-- only what is open commits
commits_step : (S : Setup) (σ : State) (k : Asked) (ts : List ℕ) (t : ℕ) → ((x : Transaction) → find t σ.slots ≡ open_slot x → ⊥) → Member t (committed_with (effect_of k (perform S σ k).0) ts) → Member t ts
unfolding perform call_in call_judged call_unblocked call_granted open_in commit_in give_up_in
commits_step S σ k ts t shut m = grind arith

opened_grows : (S : Setup) (σ : State) (k : Asked) → σ.opened ≤ (perform S σ k).1.opened
unfolding perform call_in call_judged call_unblocked call_granted open_in commit_in give_up_in
opened_grows S σ k = grind arith

opens_new : (S : Setup) (σ : State) (k : Asked) (t : ℕ) → Opens (effect_of k (perform S σ k).0) t → t ≡ suc σ.opened
unfolding perform call_in call_judged call_unblocked call_granted open_in commit_in give_up_in
opens_new S σ k t o = grind arith

module _ (S : Setup) (laws : Laws S) (σ₀ : State) (adm : Admitted S σ₀) where
  inv_of : {h : History} {σ : State} → Run S σ₀ h σ → Holds S σ₀ h σ
  inv_of run = run_holds S laws σ₀ adm run

  -- the executor's right is the stored one
  same_kind : {h : History} {σ : State} → Run S σ₀ h σ → (p v : ℕ)
      → change_kind S (get_or (serial_store S σ₀.store (transcript h) (committed h)).rights p 0) v ≡ change_kind S (get_or σ.store.rights p 0) v
  same_kind run p v = ap (λ (z : Store). change_kind S (get_or z.rights p 0) v) (inv_of run).ends

  -- who has deployed a policy holds its deploy lock, and the other way round
  deployer_holds : {h : History} {σ : State} (run : Run S σ₀ h σ) (u p : ℕ) (z : Transaction) → find u σ.slots ≡ open_slot z → HasDeployed h u p → z.holds (OnPolicy Deploy p) ≡ true
  deployer_holds {h = h} run u p z e (a, m) = entry_held z (transcript h u).calls p a ((inv_of run).fits u z e).locked m

  holds_deployed : {h : History} {σ : State} (run : Run S σ₀ h σ) (u p : ℕ) (z : Transaction) → find u σ.slots ≡ open_slot z → z.holds (OnPolicy Deploy p) ≡ true → HasDeployed h u p
  holds_deployed {h = h} run u p z e k = deployed_entry (transcript h u).subject (transcript h u).calls p (((inv_of run).fits u z e).held_deployed p k)

  -- an unblocked restriction signals each other deployer
  restriction_signals : {h : History} {σ : State} (run : Run S σ₀ h σ) (t p u : ℕ) (l : Lock) (x z : Transaction)
      → find t σ.slots ≡ open_slot x → blocker x l σ.slots ≡ None → l ≡ OnPolicy Restrict p
      → (u ≡ t → ⊥) → find u σ.slots ≡ open_slot z → z.holds (OnPolicy Deploy p) ≡ true → is_signal (verdict x l z) ≡ true
  restriction_signals {σ = σ} run t p u l x z e b q d f k =
      let apart : Coexist (OnPolicy Restrict p) (OnPolicy Deploy p) → ⊥ = restrict_deploy p in
      let both = (inv_of run).coexist t u x z e f (λ i. d (sym i)) (OnPolicy Restrict p) (OnPolicy Deploy p) in
      grind (arith, signalled_if x z p, both, unblocked x l σ.slots b u z f, find_number u σ.slots z f, find_number t σ.slots x e)

  -- the lock of a restriction
  restrict_lock : {h : History} {σ : State} (run : Run S σ₀ h σ) (p v : ℕ)
      → change_kind S (get_or (serial_store S σ₀.store (transcript h) (committed h)).rights p 0) v ≡ Restriction → lock_for S σ.store (Sets p v) ≡ OnPolicy Restrict p
  restrict_lock {σ = σ} run p v q = set_lock_restrict S σ.store p v (sym (same_kind run p v) ∙ q)

  pub strikes_deployers : {h : History} {σ : State} (run : Run S σ₀ h σ) (r : Request) (t p n : ℕ) → Restricts run r t p n → (u : ℕ) → Deployers run t p u → Strikes S σ r u
  strikes_deployers {h = h} {σ = σ} run r t p n (v, k, a, q) u (d, o, y) =
      let l : Lock = lock_for S σ.store (Sets p v) in
      let z = open_in_slot S laws σ₀ adm run u o in
      let g = granted_call S σ r t (Sets p v) n k a in
      let signal = restriction_signals run t p u l g.caller z.0 g.found g.unblocked (restrict_lock run p v q) d z.1 (deployer_holds run u p z.0 z.1 y) in
      struck_strikes S σ r u z.0 z.1
      (z.0.number, g.caller.number, lock_number l, rw g.leaves (struck_after g.caller z.0 l (Sets p v) σ.slots t u g.found z.1 d signal))

  pub counts_struck : {h : History} {σ : State} (run : Run S σ₀ h σ) (r : Request) (t p n : ℕ) → Restricts run r t p n
      → (us : List ℕ) × NoDuplicate us × ((u : ℕ) → Member u us ↔ Deployers run t p u) × (length us ≡ n)
  unfolding call_answer
  counts_struck {h = h} {σ = σ} run r t p n (v, k, a, q) =
      (signalled g.caller l σ.slots, signalled_once g.caller l σ.slots (inv_of run).distinct, (λ u. (to u, from u)), g.told)
    where
      l : Lock
      l = lock_for S σ.store (Sets p v)

      g : WasGranted S σ t (Sets p v) n (after S σ r)
      g = granted_call S σ r t (Sets p v) n k a

      to : (u : ℕ) → Member u (signalled g.caller l σ.slots) → Deployers run t p u
      to u m =
          let w = signalled_found g.caller l σ.slots (inv_of run).distinct u m in
          let s = signal_means g.caller w.0 l w.2 in
          let same : s.policy ≡ p = ap lock_number (sym s.asked ∙ restrict_lock run p v q) in (
            (λ i. s.other (find_number t σ.slots g.caller g.found ∙ (sym i ∙ sym (find_number u σ.slots w.0 w.1)))),
            slot_open_in S laws σ₀ adm run u (w.0, w.1),
            holds_deployed run u p w.0 w.1 (rw same at s.deployed),
          )

      from : (u : ℕ) → Deployers run t p u → Member u (signalled g.caller l σ.slots)
      from u (d, o, y) =
          let z = open_in_slot S laws σ₀ adm run u o in
          signalled_there g.caller l σ.slots u
          (z.0, z.1, restriction_signals run t p u l g.caller z.0 g.found g.unblocked (restrict_lock run p v q) d z.1 (deployer_holds run u p z.0 z.1 y))

  pub nothing_else : {h : History} {σ : State} (run : Run S σ₀ h σ) (r : Request) (t : ℕ) → Strikes S σ r t
      → (u : ℕ) × (p : ℕ) × (n : ℕ) × Restricts run r u p n × Deployers run u p t
  nothing_else {h = h} {σ = σ} run r t s =
      let w = strikes_struck S σ (next_free S laws σ₀ adm run) r t s in
      let m = signal_means w.striker w.victim (lock_for S σ.store w.call) w.signal in
      let c = lock_restrict S σ.store w.call m.policy m.asked in (
        w.by,
        m.policy,
        call_answer σ.store w.striker w.call (count S σ w.striker w.call),
        (c.0, w.asked ∙ ap (asks_call w.by) c.1, w.granted, same_kind run m.policy c.0 ∙ c.2),
        (w.other, slot_open_in S laws σ₀ adm run t (w.victim, w.victim_open), holds_deployed run t m.policy w.victim w.victim_open m.deployed),
      )

  struck_gone : {h : History} {σ : State} (run : Run S σ₀ h σ) (t : ℕ) → StruckIn run t → (IsOpen σ.slots t → ⊥) × (t ≤ σ.opened) × (Member t (committed h) → ⊥)
  unfolding StruckIn committed Strikes
  struck_gone start t s = absurd s
  struck_gone (then {h = h} {σ = σ} run r) t (inl s) =
      let w = struck_gone run t s in
      let low : t ≤ σ.opened = w.1 in
      let grow : σ.opened ≤ (perform S σ (asked r)).1.opened = opened_grows S σ (asked r) in (
        (λ o. ⊎_elim
            (λ k. let i = opens_new S σ (asked r) t k in omega arith)
            (λ k. w.0 k.0)
            (open_step_back S σ r t (fate S σ (next_free S laws σ₀ adm run) (asked r) t) o)),
        omega arith,
        (λ m. w.2 (commits_step S σ (asked r) (committed h) t (λ x e. w.0 (x, e)) m)),
      )
  struck_gone (then {h = h} {σ = σ} run r) t (inr s) =
      let a = answers_aborted S (after S σ r) t s.0 in
      let i = inv_of (then run r) in (
        (λ o. cc),
        grind (arith, i.known t),
        (λ m. let z = i.done t m in cc),
      )

  pub never_commits : {h : History} {σ : State} (run : Run S σ₀ h σ) (t : ℕ) → StruckIn run t → Member t (committed h) → ⊥
  never_commits run t s = (struck_gone run t s).2

  abbrev Restrictor : List Slot → ℕ → ℕ → Type 0
  Restrictor slots t p = (x : Transaction) × (find t slots ≡ open_slot x) × (x.holds (OnPolicy Restrict p) ≡ true)

  restrictor_stays : (σ : State) (r : Request) (t p : ℕ) → Fate S σ (asked r) (perform S σ (asked r)) t → (Ends (does S σ r) t → ⊥) → (Strikes S σ r t → ⊥)
      → Restrictor σ.slots t p → Restrictor (after S σ r).slots t p
  restrictor_stays σ r t p f a b w = grind (arith, struck_strikes S σ r t)

  restricting_holds : {h : History} {σ : State} (run : Run S σ₀ h σ) (t p : ℕ) → Restricting run t p → Restrictor σ.slots t p
  unfolding Restricting
  restricting_holds start t p s = absurd s
  restricting_holds (then {h = h} {σ = σ} run r) t p (inl (n, (v, k, a, q))) =
      let l : Lock = lock_for S σ.store (Sets p v) in
      let g = granted_call S σ r t (Sets p v) n k a in (
        advance g.caller l (Sets p v),
        rw g.leaves (called_same g.caller l (Sets p v) σ.slots t g.found),
        rw (← restrict_lock run p v q) (advance_new g.caller l (Sets p v)),
      )
  restricting_holds (then {h = h} {σ = σ} run r) t p (inr (s, a, b)) =
      restrictor_stays σ r t p (fate S σ (next_free S laws σ₀ adm run) (asked r) t) a b (restricting_holds run t p s)

  pub no_deploy : {h : History} {σ : State} (run : Run S σ₀ h σ) (r : Request) (t p u n : ℕ) → Restricting run t p → u ≢ t
      → asked r ≡ asks_call u (Deploys p) → answer S σ r ≡ Granted n → ⊥
  unfolding lock_for
  no_deploy {h = h} {σ = σ} run r t p u n s d k a =
      let w = restricting_holds run t p s in
      let g = granted_call S σ r u (Deploys p) n k a in
      let apart : Coexist (OnPolicy Restrict p) (OnPolicy Deploy p) → ⊥ = restrict_deploy p in
      let both = (inv_of run).coexist t u w.0 g.caller w.1 g.found (λ i. d (sym i)) (OnPolicy Restrict p) (OnPolicy Deploy p) w.2 in
      let signal = signal_means g.caller w.0 (OnPolicy Deploy p) in
      grind (
        arith,
        both,
        signal,
        neither,
        verdict_ok g.caller w.0 (OnPolicy Deploy p) (OnPolicy Restrict p),
        unblocked g.caller (OnPolicy Deploy p) σ.slots g.unblocked t w.0 w.1,
        find_number u σ.slots g.caller g.found,
        find_number t σ.slots w.0 w.1,
      )

  pub open_replays : {h : History} {σ : State} (run : Run S σ₀ h σ) (t : ℕ) → OpenIn run t
      → Replays S σ.store (transcript h t).subject (transcript h t).calls
  open_replays {h = h} {σ = σ} run t o =
      let x = open_in_slot S laws σ₀ adm run t o in
      follows_replays S σ.store (transcript h t).subject (transcript h t).calls ((inv_of run).fits t x.0 x.1).replays
