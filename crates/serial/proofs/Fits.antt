-- What an open transaction and its granted calls have to do with one another, and what a commit of another leaves of it.
use Rattle.std.proofs.Common.{◌≡◌, ℕ, true, ◌⊎◌, List, [], ◌∷◌, get_or, Some, Option, refl, ap, inl, inr, ⊎_elim, arith}
use Rattle.std.proofs.lemmas.Bool.Decides.{nat_tests}
use Rattle.std.specs.List.{slice_get}
use Rattle.protocol.specs.declared.policy.Object.{Object}
use Rattle.protocol.specs.declared.policy.Object.TheVariants.{OfCell, OfPolicy}
use Rattle.protocol.specs.declared.policy.Policy.{Policy}
use Rattle.rights.specs.declared.change.ChangeKind.TheVariants.{Relaxation}
use Rattle.rights.specs.declared.order.Operation.{Operation}
use Rattle.rights.specs.declared.order.Operation.TheVariants.{Read, Write}
use Rattle.locking.specs.declared.mode.CellMode.TheVariants.{ReadCell, WriteCell}
use Rattle.locking.specs.declared.mode.PolicyMode.TheVariants.{ReadPolicy, Relax, Restrict, Deploy}
use Rattle.locking.specs.declared.mode.PolicyMode.{PolicyMode}
use Rattle.locking.specs.declared.mode.LockAnswer.TheVariants.{Conflict}
use Rattle.locking.specs.Modes.{policy_says}
use Rattle.serial.specs.Words.{Setup, Laws, Store, Change, set_operation, Call, Deploys, Reads, Writes, Shows, Sets, Member, change_kind}
use Rattle.serial.specs.Changes.{stored, apply}
use Rattle.serial.specs.Locks.{Lock, OnCell, OnPolicy}
use Rattle.serial.specs.Model.{Transaction}
use Rattle.serial.specs.Serial.{Entry, Transcript, Session}
use Rattle.serial.specs.Writes.{workspace}
use Rattle.serial.proofs.Locks.{Coexist, write_read, no_and_no, restrict_deploy}
use Rattle.serial.proofs.Changes.{apply_cases, Wrote, Once, SeesAlike, WritesAlike}
use Rattle.serial.proofs.Replay.{Allowed, Grants, session, Follows}

-- the lock that a granted call has taken is held
abbrev pub Locked : Transaction → Call → Type 0
Locked x (Deploys p) = x.holds (OnPolicy Deploy p) ≡ true
Locked x (Reads c) = x.holds (OnCell ReadCell c) ≡ true
Locked x (Writes c v) = x.holds (OnCell WriteCell c) ≡ true
Locked x (Shows p) = x.holds (OnPolicy ReadPolicy p) ≡ true
Locked x (Sets p v) = (x.holds (OnPolicy Relax p) ≡ true) ⊎ (x.holds (OnPolicy Restrict p) ≡ true)

abbrev pub LockedAll : Transaction → List Entry → Type 0
LockedAll x [] = Unit {0}
LockedAll x (k ∷ l) = Locked x k.call × LockedAll x l

abbrev pub ChangeLocked : Setup → Store → Transaction → Object → ℕ → Type 0
ChangeLocked S s x (OfCell c) v = x.holds (OnCell WriteCell c) ≡ true
ChangeLocked S s x (OfPolicy p) v =
    (S.is_right v ≡ true)
    × (((x.holds (OnPolicy Relax p) ≡ true) × (change_kind S (get_or s.rights p 0) v ≡ Relaxation)) ⊎ (x.holds (OnPolicy Restrict p) ≡ true))

-- the open transaction x with the granted calls of j, on these lists
pub record Fits (S : Setup) (s : Store) (j : Transcript) (x : Transaction) : Type 0 where
  pub subject_fits : j.subject ≡ Some x.subject
  pub replays : Follows S s j.subject j.calls
  pub held_deployed : (p : ℕ) → x.holds (OnPolicy Deploy p) ≡ true → Member p (session j.subject j.calls).deployed
  pub changes_seen : SeesAlike (session j.subject j.calls).changes x.changes
  pub changes_written : WritesAlike (session j.subject j.calls).changes x.changes
  pub changes_once : Once x.changes
  pub changes_by_calls : x.changes ≡ workspace j.calls
  pub locked : LockedAll x j.calls
  pub changes_locked : (k : Change) → Member k x.changes → ChangeLocked S s x k.object k.value

-- what the calls deployed is held
pub deployed_held : (x : Transaction) (u : Option ℕ) (l : List Entry) → LockedAll x l → (p : ℕ) → Member p (session u l).deployed → x.holds (OnPolicy Deploy p) ≡ true
unfolding session
deployed_held x u [] k p i = absurd i
deployed_held x u (e ∷ l) k p i = grind (arith, deployed_held x u l k.1 p)

relaxation_joins : (S : Setup) (old new : ℕ) → change_kind S old new ≡ Relaxation → S.join old new ≡ new
unfolding change_kind
relaxation_joins S old new e = grind (arith, nat_tests)

-- The lists changed only where the transaction y does not mind.
pub record Frame (S : Setup) (y : Transaction) (s s' : Store) : Type 0 where
  pub cell_same : (c : ℕ) → y.holds (OnCell ReadCell c) ≡ true → get_or s'.cells c 0 ≡ get_or s.cells c 0
  pub shown_same : (p : ℕ) → y.holds (OnPolicy ReadPolicy p) ≡ true → get_or s'.rights p 0 ≡ get_or s.rights p 0
  pub relaxed_same : (p : ℕ) → y.holds (OnPolicy Relax p) ≡ true → get_or s'.rights p 0 ≡ get_or s.rights p 0
  pub restricted_same : (p : ℕ) → y.holds (OnPolicy Restrict p) ≡ true → get_or s'.rights p 0 ≡ get_or s.rights p 0
  pub deploy_more : (p : ℕ) (op : Operation) (pol : Policy) → y.holds (OnPolicy Deploy p) ≡ true → slice_get S.policies p ≡ Some pol
      → S.permits (get_or s.rights p 0) op ≡ true → S.permits (get_or s'.rights p 0) op ≡ true

allowed_frame : (S : Setup) (y : Transaction) (s s' : Store) (e : Session) (o : Object) (op : Operation) → Frame S y s s'
    → ((q : ℕ) → Member q e.deployed → y.holds (OnPolicy Deploy q) ≡ true) → Allowed S s e o op → Allowed S s' e o op
allowed_frame S y s s' e o op f h (i, pol, m, n, b, g) = (i, pol, m, n, b, f.deploy_more i op pol (h i m) n g)

grants_frame : (S : Setup) (y : Transaction) (s s' : Store) (e : Session) (c : Call) (a : ℕ) → Frame S y s s'
    → ((q : ℕ) → Member q e.deployed → y.holds (OnPolicy Deploy q) ≡ true) → Locked y c → Grants S s e c a → Grants S s' e c a
grants_frame S y s s' e (Deploys p) a f h l g = g
grants_frame S y s s' e (Reads c) a f h l g = (allowed_frame S y s s' e (OfCell c) Read f h g.0, rw (f.cell_same c l) g.1)
grants_frame S y s s' e (Writes c v) a f h l g = allowed_frame S y s s' e (OfCell c) Write f h g
grants_frame S y s s' e (Shows p) a f h l g = (allowed_frame S y s s' e (OfPolicy p) Read f h g.0, rw (f.shown_same p l) g.1)
grants_frame S y s s' e (Sets p v) a f h l g =
    let same : get_or s'.rights p 0 ≡ get_or s.rights p 0 = ⊎_elim (f.relaxed_same p) (f.restricted_same p) l in
    rw (ap (λ r. set_operation (change_kind S r v)) same) (allowed_frame S y s s' e (OfPolicy p) (set_operation (change_kind S (get_or s.rights p 0) v)) f h g)

replays_frame : (S : Setup) (y : Transaction) (s s' : Store) (u : Option ℕ) (l : List Entry) → Frame S y s s' → LockedAll y l → Follows S s u l → Follows S s' u l
unfolding Follows
replays_frame S y s s' u [] f k r = tt
replays_frame S y s s' u (e ∷ l) f k r = (
  replays_frame S y s s' u l f k.1 r.0,
  grants_frame S y s s' (session u l) e.call e.answer f (deployed_held y u l k.1) k.0 r.1,
)

change_frame : (S : Setup) (y : Transaction) (s s' : Store) (o : Object) (v : ℕ) → Frame S y s s' → ChangeLocked S s y o v → ChangeLocked S s' y o v
change_frame S y s s' o v f k = grind (arith, f.relaxed_same)

-- such a change leaves an open transaction as it was
pub fits_frame : (S : Setup) (s s' : Store) (j : Transcript) (y : Transaction) → Frame S y s s' → Fits S s j y → Fits S s' j y
fits_frame S s s' j y f k = record {
  subject_fits = k.subject_fits;
  replays = replays_frame S y s s' j.subject j.calls f k.locked k.replays;
  held_deployed = k.held_deployed;
  changes_seen = k.changes_seen;
  changes_written = k.changes_written;
  changes_once = k.changes_once;
  changes_by_calls = k.changes_by_calls;
  locked = k.locked;
  changes_locked = λ c m. change_frame S y s s' c.object c.value f (k.changes_locked c m);
}

-- what a change at an object needs, at the object as written
pub wrote_locked : (S : Setup) (s : Store) (j : Transcript) (x : Transaction) (o : Object) (n : ℕ) → Fits S s j x → Wrote x.changes s o n → ChangeLocked S s x o n
wrote_locked S s j x o n k (c, m, e, v) = rw (v, ← e) (k.changes_locked c m)

-- what the changes wrote, they had the lock for
pub stays_or_locked : (S : Setup) (s : Store) (j : Transcript) (x : Transaction) (o : Object) → Fits S s j x
    → (stored (apply x.changes s) o ≡ stored s o) ⊎ ChangeLocked S s x o (stored (apply x.changes s) o)
stays_or_locked S s j x o k = ⊎_elim inl (λ w. inr (wrote_locked S s j x o _ k w)) (apply_cases x.changes s o)

module _ (S : Setup) (s : Store) (j : Transcript) (x y : Transaction) (k : Fits S s j x)
    (apart : (l m : Lock) → x.holds l ≡ true → y.holds m ≡ true → Coexist l m) where
  kept_by : (m : PolicyMode) (p : ℕ) → y.holds (OnPolicy m p) ≡ true
      → policy_says m Relax ≡ Conflict → policy_says Relax m ≡ Conflict → policy_says m Restrict ≡ Conflict → policy_says Restrict m ≡ Conflict
      → get_or (apply x.changes s).rights p 0 ≡ get_or s.rights p 0
  kept_by m p h a b c d =
      let relax : Coexist (OnPolicy Relax p) (OnPolicy m p) → ⊥ = no_and_no Relax m p a b in
      let restrict : Coexist (OnPolicy Restrict p) (OnPolicy m p) → ⊥ = no_and_no Restrict m p c d in
      grind (arith, stays_or_locked S s j x (OfPolicy p) k, apart (OnPolicy Relax p) (OnPolicy m p), apart (OnPolicy Restrict p) (OnPolicy m p))

  -- a commit of x is such a change for y, whose locks coexist with those of x
  pub commit_frame : Laws S → ((p : ℕ) (pol : Policy) → slice_get S.policies p ≡ Some pol → S.is_right (get_or s.rights p 0) ≡ true)
      → Frame S y s (apply x.changes s)
  commit_frame laws rights = record {
    cell_same = λ c h. ⊎_elim (λ e. e) (λ w. write_read c (apart (OnCell WriteCell c) (OnCell ReadCell c) w h)) (stays_or_locked S s j x (OfCell c) k);
    shown_same = λ p h. kept_by ReadPolicy p h refl refl refl refl;
    relaxed_same = λ p h. kept_by Relax p h refl refl refl refl;
    restricted_same = λ p h. kept_by Restrict p h refl refl refl refl;
    deploy_more = λ p op pol h n g.
        let old : ℕ = get_or s.rights p 0 in
        let new : ℕ = stored (apply x.changes s) (OfPolicy p) in
        let no_restrict : Coexist (OnPolicy Restrict p) (OnPolicy Deploy p) → ⊥ = restrict_deploy p in
        grind (
          arith,
          stays_or_locked S s j x (OfPolicy p) k,
          apart (OnPolicy Restrict p) (OnPolicy Deploy p),
          relaxation_joins S old new,
          laws.join_permits old new op (rights p pol n),
        );
  }
