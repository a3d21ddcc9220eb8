-- A granted call: the transaction with its new lock and change fits its granted calls with this one more.
use Rattle.std.proofs.Common.{◌≡◌, ℕ, zero, suc, Bool, true, false, ◌&&◌, eqb, ltb, ◌⊎◌, List, [], ◌∷◌, length, get_or, Some, None, Option, sym, refl, ap, ◌∙◌, subst, inl, inr, ⊎_elim}
use Rattle.std.proofs.lemmas.Bool.{false≢true, eqb-true, or_right, or_left, and_parts, or_cases}
use denote.Enum.Bare.{sameb, same_true}
use Rattle.std.specs.List.{slice_get}
use Rattle.protocol.specs.declared.policy.Object.{Object}
use Rattle.protocol.specs.declared.policy.Object.TheVariants.{OfCell, OfPolicy}
use Rattle.protocol.specs.declared.policy.Policy.{Policy}
use Rattle.protocol.specs.declared.refusal.Refusal.{Refusal}
use Rattle.protocol.specs.declared.refusal.Refusal.TheVariants.{Absent, NotARight, NotPermitted}
use Rattle.rights.specs.declared.change.ChangeKind.{ChangeKind}
use Rattle.rights.specs.declared.change.ChangeKind.TheVariants.{Relaxation, Restriction}
use Rattle.rights.specs.declared.order.Operation.{Operation}
use Rattle.rights.specs.declared.order.Operation.TheVariants.{Read, Write}
use Rattle.locking.specs.contracts.mode.CellMode as cell
use Rattle.locking.specs.contracts.mode.LockEq.TheImpl.Laws.{lawful}
use Rattle.locking.specs.contracts.mode.PolicyMode as policy
use Rattle.locking.specs.declared.mode.CellMode.TheVariants.{ReadCell, WriteCell}
use Rattle.locking.specs.declared.mode.PolicyMode.TheVariants.{ReadPolicy, Relax, Restrict, Deploy}
use Rattle.serial.specs.Words.{Setup, Store, Change, set_operation, Call, Deploys, Reads, Writes, Shows, Sets, same_object, Member, change_kind}
use Rattle.serial.specs.Changes.{stored, seen}
use Rattle.serial.specs.Locks.{Lock, OnCell, OnPolicy, same_lock}
use Rattle.serial.specs.Model.{Transaction, advance, judge, unless, is_subject, permitted, any_policy, lock_for, changed, call_answer, set_mode}
use Rattle.serial.specs.Serial.{Entry, Transcript, Session, note_call, recall}
use Rattle.serial.specs.Writes.{workspace}
use Rattle.serial.proofs.Basics.{never, by_kind, same_object_eq}
use Rattle.serial.proofs.Changes.{put_member, Once, SeesAlike, WritesAlike, once_put, sees_put, writes_put}
use Rattle.serial.proofs.Replay.{Allowed, Grants, session, Follows}
use Rattle.serial.proofs.Fits.{Fits, Locked, LockedAll, ChangeLocked}

pub same_lock_eq : (m l : Lock) → same_lock m l ≡ true → m ≡ l
same_lock_eq (OnCell m i) (OnCell k j) e =
    let w = and_parts (sameb cell.the_type m k) (eqb i j) e in
    ap (λ z. OnCell z i) (same_true cell.the_type tt m k w.0) ∙ ap (OnCell k) (eqb-true i j w.1)
same_lock_eq (OnCell m i) (OnPolicy k j) e = absurd (false≢true e)
same_lock_eq (OnPolicy m i) (OnCell k j) e = absurd (false≢true e)
same_lock_eq (OnPolicy m i) (OnPolicy k j) e =
    let w = and_parts (sameb policy.the_type m k) (eqb i j) e in
    ap (λ z. OnPolicy z i) (same_true policy.the_type tt m k w.0) ∙ ap (OnPolicy k) (eqb-true i j w.1)

pub same_lock_refl : (l : Lock) → same_lock l l ≡ true
same_lock_refl = lawful.laws.refl

pub advance_holds : (x : Transaction) (l : Lock) (c : Call) (m : Lock) → (advance x l c).holds m ≡ true → (m ≡ l) ⊎ (x.holds m ≡ true)
unfolding advance
advance_holds x l c m e = ⊎_elim (λ a. inl (same_lock_eq m l a)) (λ b. inr b) (or_cases (same_lock m l) (x.holds m) e)

pub advance_more : (x : Transaction) (l : Lock) (c : Call) (m : Lock) → x.holds m ≡ true → (advance x l c).holds m ≡ true
unfolding advance
advance_more x l c m e = or_right (same_lock m l) (x.holds m) e

pub advance_new : (x : Transaction) (l : Lock) (c : Call) → (advance x l c).holds l ≡ true
unfolding advance
advance_new x l c = or_left (same_lock l l) (x.holds l) (same_lock_refl l)

pub unless_none : (b : Bool) (f : Refusal) (rest : Option Refusal) → unless b f rest ≡ None → (b ≡ true) × (rest ≡ None)
unless_none true f rest e = (refl, e)
unless_none false f rest e = never (cc)

any_policy_some : (f : ℕ → Policy → Bool) (l : List Policy) → any_policy f l ≡ true → (i : ℕ) × (e : Policy) × (slice_get l i ≡ Some e) × (f i e ≡ true)
unfolding any_policy
any_policy_some f [] a = absurd (false≢true a)
any_policy_some f (e ∷ es) a =
    ⊎_elim (λ b. (zero, e, refl, b))
    (λ b. let w = any_policy_some (λ i. f (suc i)) es b in (suc w.0, w.1, w.2, w.3))
    (or_cases (f zero e) (any_policy (λ i. f (suc i)) es) a)

permitted_allowed : (S : Setup) (s : Store) (j : Transcript) (x : Transaction) (o : Object) (op : Operation) → Fits S s j x → permitted S s x o op ≡ true → Allowed S s (session j.subject j.calls) o op
unfolding permitted
permitted_allowed S s j x o op k e =
    let w = any_policy_some (λ i pol. x.holds (OnPolicy Deploy i) && (same_object pol.object o && S.permits (get_or s.rights i 0) op)) S.policies e in
    let a = and_parts (x.holds (OnPolicy Deploy w.0)) (same_object w.1.object o && S.permits (get_or s.rights w.0 0) op) w.3 in
    let b = and_parts (same_object w.1.object o) (S.permits (get_or s.rights w.0 0) op) a.1 in
    (w.0, w.1, k.held_deployed w.0 a.0, w.2, same_object_eq w.1.object o b.0, b.1)

seen_by : (s : Store) (es ks : List Change) (o : Object) → SeesAlike es ks → seen s ks o ≡ recall es o (stored s o)
unfolding seen
seen_by s es ks o h = sym (h o (stored s o))

subject_found : (o : Option Policy) (u : ℕ) → is_subject o u ≡ true → (pol : Policy) × (o ≡ Some pol) × (Some u ≡ Some pol.subject)
subject_found None u e = absurd (false≢true e)
subject_found (Some pol) u e = (pol, refl, ap Some (sym (eqb-true pol.subject u e)))

subject_after : (e : Session) (c : Call) → (note_call e c).subject ≡ e.subject
subject_after e (Deploys p) = refl
subject_after e (Reads c) = refl
subject_after e (Writes c v) = refl
subject_after e (Shows p) = refl
subject_after e (Sets p v) = refl

session_subject : (u : Option ℕ) (l : List Entry) → (session u l).subject ≡ u
unfolding session
session_subject u [] = refl
session_subject u (k ∷ l) = subject_after (session u l) k.call ∙ session_subject u l

set_judged : (S : Setup) (s : Store) (x : Transaction) (p v : ℕ) → judge S s x (Sets p v) ≡ None
    → (S.is_right v ≡ true) × (permitted S s x (OfPolicy p) (set_operation (change_kind S (get_or s.rights p 0) v)) ≡ true)
unfolding judge
set_judged S s x p v e =
    let a = unless_none (ltb p (length S.policies)) Absent _ e in
    let b = unless_none (S.is_right v) NotARight _ a.1 in
    (b.0, (unless_none (permitted S s x (OfPolicy p) (set_operation (change_kind S (get_or s.rights p 0) v))) NotPermitted _ b.1).0)

module _ (S : Setup) (s : Store) (j : Transcript) (x : Transaction) (k : Fits S s j x) where
  grants_call : (c : Call) (n : ℕ) → judge S s x c ≡ None → Grants S s (session j.subject j.calls) c (call_answer s x c n)
  unfolding judge call_answer
  grants_call (Deploys p) n e =
      let a = unless_none _ _ _ (unless_none _ _ _ e).1 in
      let w = subject_found (slice_get S.policies p) x.subject a.0 in
      (w.0, w.1, session_subject j.subject j.calls ∙ (k.subject_fits ∙ w.2))
  grants_call (Reads c) n e =
      let a = unless_none _ _ _ (unless_none _ _ _ e).1 in
      (permitted_allowed S s j x (OfCell c) Read k a.0, seen_by s (session j.subject j.calls).changes x.changes (OfCell c) k.changes_seen)
  grants_call (Writes c v) n e = permitted_allowed S s j x (OfCell c) Write k (unless_none _ _ _ (unless_none _ _ _ e).1).0
  grants_call (Shows p) n e =
      let a = unless_none _ _ _ (unless_none _ _ _ e).1 in
      (permitted_allowed S s j x (OfPolicy p) Read k a.0, seen_by s (session j.subject j.calls).changes x.changes (OfPolicy p) k.changes_seen)
  grants_call (Sets p v) n e =
      permitted_allowed S s j x (OfPolicy p) (set_operation (change_kind S (get_or s.rights p 0) v)) k (set_judged S s x p v e).1

set_not_deploy : (k : ChangeKind) (p q : ℕ) → OnPolicy Deploy p ≡ OnPolicy (set_mode k) q → ⊥
set_not_deploy Relaxation p q e = never (cc)
set_not_deploy Restriction p q e = never (cc)

-- a deploy lock is new only by a deploy
deploy_new : (S : Setup) (s : Store) (x : Transaction) (c : Call) (p : ℕ) → (OnPolicy Deploy p ≡ lock_for S s c → ⊥)
    → (advance x (lock_for S s c) c).holds (OnPolicy Deploy p) ≡ true → x.holds (OnPolicy Deploy p) ≡ true
deploy_new S s x c p f e = ⊎_elim (λ i. absurd (f i)) (λ h. h) (advance_holds x (lock_for S s c) c (OnPolicy Deploy p) e)

locked_more : (x : Transaction) (l : Lock) (c d : Call) → Locked x d → Locked (advance x l c) d
locked_more x l c (Deploys p) k = advance_more x l c (OnPolicy Deploy p) k
locked_more x l c (Reads i) k = advance_more x l c (OnCell ReadCell i) k
locked_more x l c (Writes i v) k = advance_more x l c (OnCell WriteCell i) k
locked_more x l c (Shows p) k = advance_more x l c (OnPolicy ReadPolicy p) k
locked_more x l c (Sets p v) (inl k) = inl (advance_more x l c (OnPolicy Relax p) k)
locked_more x l c (Sets p v) (inr k) = inr (advance_more x l c (OnPolicy Restrict p) k)

locked_all_more : (x : Transaction) (l : Lock) (c : Call) (es : List Entry) → LockedAll x es → LockedAll (advance x l c) es
locked_all_more x l c [] k = tt
locked_all_more x l c (e ∷ es) k = (locked_more x l c e.call k.0, locked_all_more x l c es k.1)

change_more : (S : Setup) (s : Store) (x : Transaction) (l : Lock) (c : Call) (o : Object) (v : ℕ) → ChangeLocked S s x o v → ChangeLocked S s (advance x l c) o v
change_more S s x l c (OfCell i) v k = advance_more x l c (OnCell WriteCell i) k
change_more S s x l c (OfPolicy p) v k =
    (k.0, ⊎_elim (λ w. inl (advance_more x l c (OnPolicy Relax p) w.0, w.1)) (λ h. inr (advance_more x l c (OnPolicy Restrict p) h)) k.1)

-- the lock of a set, by the kind of its change
pub set_lock_relax : (S : Setup) (s : Store) (p v : ℕ) → change_kind S (get_or s.rights p 0) v ≡ Relaxation → lock_for S s (Sets p v) ≡ OnPolicy Relax p
unfolding lock_for
set_lock_relax S s p v e = ap (λ k. OnPolicy (set_mode k) p) e

pub set_lock_restrict : (S : Setup) (s : Store) (p v : ℕ) → change_kind S (get_or s.rights p 0) v ≡ Restriction → lock_for S s (Sets p v) ≡ OnPolicy Restrict p
unfolding lock_for
set_lock_restrict S s p v e = ap (λ k. OnPolicy (set_mode k) p) e

set_locked : (S : Setup) (s : Store) (x : Transaction) (p v : ℕ)
    → (((advance x (lock_for S s (Sets p v)) (Sets p v)).holds (OnPolicy Relax p) ≡ true) × (change_kind S (get_or s.rights p 0) v ≡ Relaxation))
    ⊎ ((advance x (lock_for S s (Sets p v)) (Sets p v)).holds (OnPolicy Restrict p) ≡ true)
set_locked S s x p v =
    let l : Lock = lock_for S s (Sets p v) in
    by_kind (change_kind S (get_or s.rights p 0) v)
    (λ e. inl (ap (advance x l (Sets p v)).holds (sym (set_lock_relax S s p v e)) ∙ advance_new x l (Sets p v), e))
    (λ e. inr (ap (advance x l (Sets p v)).holds (sym (set_lock_restrict S s p v e)) ∙ advance_new x l (Sets p v)))

module _ (S : Setup) (s : Store) (j : Transcript) (x : Transaction) (k : Fits S s j x) where
  deployed_new : (c : Call) (p : ℕ) → (advance x (lock_for S s c) c).holds (OnPolicy Deploy p) ≡ true → Member p (note_call (session j.subject j.calls) c).deployed
  unfolding lock_for
  deployed_new (Deploys q) p e =
      ⊎_elim (λ i. inl (cc)) (λ h. inr (k.held_deployed p h)) (advance_holds x (OnPolicy Deploy q) (Deploys q) (OnPolicy Deploy p) e)
  deployed_new (Reads c) p e = k.held_deployed p (deploy_new S s x (Reads c) p (λ i. never (cc)) e)
  deployed_new (Writes c v) p e = k.held_deployed p (deploy_new S s x (Writes c v) p (λ i. never (cc)) e)
  deployed_new (Shows q) p e = k.held_deployed p (deploy_new S s x (Shows q) p (λ i. never (cc)) e)
  deployed_new (Sets q v) p e =
      k.held_deployed p (deploy_new S s x (Sets q v) p (set_not_deploy (change_kind S (get_or s.rights q 0) v) p q) e)

  seen_new : (c : Call) → SeesAlike (note_call (session j.subject j.calls) c).changes (changed c x.changes)
  seen_new (Deploys p) = k.changes_seen
  seen_new (Reads c) = k.changes_seen
  seen_new (Writes c v) = sees_put (OfCell c) v (session j.subject j.calls).changes x.changes k.changes_seen
  seen_new (Shows p) = k.changes_seen
  seen_new (Sets p v) = sees_put (OfPolicy p) v (session j.subject j.calls).changes x.changes k.changes_seen

  written_new : (c : Call) → WritesAlike (note_call (session j.subject j.calls) c).changes (changed c x.changes)
  written_new (Deploys p) = k.changes_written
  written_new (Reads c) = k.changes_written
  written_new (Writes c v) = writes_put (OfCell c) v (session j.subject j.calls).changes x.changes k.changes_once k.changes_written
  written_new (Shows p) = k.changes_written
  written_new (Sets p v) = writes_put (OfPolicy p) v (session j.subject j.calls).changes x.changes k.changes_once k.changes_written

  once_new : (c : Call) → Once (changed c x.changes)
  once_new (Deploys p) = k.changes_once
  once_new (Reads c) = k.changes_once
  once_new (Writes c v) = once_put (OfCell c) v x.changes k.changes_once
  once_new (Shows p) = k.changes_once
  once_new (Sets p v) = once_put (OfPolicy p) v x.changes k.changes_once

  locked_new : (c : Call) → Locked (advance x (lock_for S s c) c) c
  unfolding lock_for
  locked_new (Deploys p) = advance_new x (OnPolicy Deploy p) (Deploys p)
  locked_new (Reads c) = advance_new x (OnCell ReadCell c) (Reads c)
  locked_new (Writes c v) = advance_new x (OnCell WriteCell c) (Writes c v)
  locked_new (Shows p) = advance_new x (OnPolicy ReadPolicy p) (Shows p)
  locked_new (Sets p v) = ⊎_elim (λ w. inl w.0) (λ h. inr h) (set_locked S s x p v)

  changes_locked_new : (c : Call) → judge S s x c ≡ None → (d : Change) → Member d (changed c x.changes) → ChangeLocked S s (advance x (lock_for S s c) c) d.object d.value
  unfolding lock_for
  changes_locked_new (Deploys p) e d m = change_more S s x (lock_for S s (Deploys p)) (Deploys p) d.object d.value (k.changes_locked d m)
  changes_locked_new (Reads c) e d m = change_more S s x (lock_for S s (Reads c)) (Reads c) d.object d.value (k.changes_locked d m)
  changes_locked_new (Writes c v) e d m =
      ⊎_elim
      (λ i. subst (λ z. ChangeLocked S s (advance x (lock_for S s (Writes c v)) (Writes c v)) z.object z.value) (sym i) (advance_new x (lock_for S s (Writes c v)) (Writes c v)))
      (λ i. change_more S s x (lock_for S s (Writes c v)) (Writes c v) d.object d.value (k.changes_locked d i))
      (put_member (OfCell c) v x.changes d m)
  changes_locked_new (Shows p) e d m = change_more S s x (lock_for S s (Shows p)) (Shows p) d.object d.value (k.changes_locked d m)
  changes_locked_new (Sets p v) e d m =
      ⊎_elim
      (λ i. subst (λ z. ChangeLocked S s (advance x (lock_for S s (Sets p v)) (Sets p v)) z.object z.value) (sym i) ((set_judged S s x p v e).0, set_locked S s x p v))
      (λ i. change_more S s x (lock_for S s (Sets p v)) (Sets p v) d.object d.value (k.changes_locked d i))
      (put_member (OfPolicy p) v x.changes d m)

  pub advance_fits : (c : Call) (n : ℕ) → judge S s x c ≡ None
      → Fits S s (record { subject = j.subject; calls = record { call = c; answer = call_answer s x c n } ∷ j.calls }) (advance x (lock_for S s c) c)
  unfolding advance session Follows workspace
  advance_fits c n e = record {
    subject_fits = k.subject_fits;
    replays = (k.replays, grants_call S s j x k c n e);
    held_deployed = deployed_new c;
    changes_seen = seen_new c;
    changes_written = written_new c;
    changes_once = once_new c;
    changes_by_calls = ap (changed c) k.changes_by_calls;
    locked = (locked_new c, locked_all_more x (lock_for S s c) c j.calls k.locked);
    changes_locked = changes_locked_new c e;
  }
