-- What holds between a history and the engine's state, and that each request keeps it.
use Rattle.std.proofs.Common.{◌≡◌, ℕ, suc, ◌<◌, ◌≤◌, true, false, ◌⊎◌, List, [], ◌∷◌, get_or, Some, None, Option, sym, refl, ◌∙◌, inl, inr, ⊎_elim, arith}
use Rattle.std.proofs.lemmas.Bool.{false≢true, eq-eqb, cases_eq}
use Rattle.std.proofs.lemmas.Bool.Decides.{nat_tests}
use Rattle.std.specs.List.{slice_get}
use Rattle.protocol.specs.declared.policy.Object.TheVariants.{OfPolicy}
use Rattle.protocol.specs.declared.policy.Policy.{Policy}
use Rattle.serial.specs.Words.{Setup, Laws, Store, Call, Member}
use Rattle.serial.specs.Changes.{apply, latest}
use Rattle.serial.specs.Locks.{Lock}
use Rattle.serial.specs.Model.{Slot, free, open_slot, Transaction, find, verdict, is_signal, end, place, any_free, new_transaction, advance, judge, blocker, lock_for, call_answer}
use Rattle.serial.specs.Serial.{Entry, Transcript, written, finish, recall, serial_store, SerialGrants}
use Rattle.serial.specs.History.{opens, calls, transcript_with, no_transcript}
use Rattle.serial.specs.Writes.{workspace}
use Rattle.serial.proofs.Slots.{find_number, find_end_same, find_end_other, find_place_same, find_place_other}
use Rattle.serial.proofs.Locks.{Coexist, verdict_ok, neither, unblocked}
use Rattle.serial.proofs.Replay.{session, Follows, follows_replays, follows_executed}
use Rattle.serial.proofs.Fits.{Fits, fits_frame, commit_frame, stays_or_locked}
use Rattle.serial.proofs.Advance.{advance_holds, advance_fits}
use Rattle.serial.proofs.Granted.{called, called_same, called_other, strike_open, Distinct, distinct_called, distinct_end, distinct_place, find_end_free}

-- The serial executor has granted what is committed and has the lists of now; each open transaction fits its granted calls, and the locks of two
-- coexist; the policies have rights; a number that is not yet opened, or is committed, has no slot; no number has two.
pub record Inv (S : Setup) (s₀ : Store) (transcripts : ℕ → Transcript) (done_list : List ℕ) (s : Store) (slots : List Slot) (opened : ℕ) : Type 0 where
  pub grants : SerialGrants S s₀ transcripts done_list
  pub ends : serial_store S s₀ transcripts done_list ≡ s
  pub fits : (t : ℕ) (x : Transaction) → find t slots ≡ open_slot x → Fits S s (transcripts t) x
  pub coexist : (t u : ℕ) (x y : Transaction) → find t slots ≡ open_slot x → find u slots ≡ open_slot y → (t ≡ u → ⊥)
      → (l m : Lock) → x.holds l ≡ true → y.holds m ≡ true → Coexist l m
  pub rights_are : (p : ℕ) (pol : Policy) → slice_get S.policies p ≡ Some pol → S.is_right (get_or s.rights p 0) ≡ true
  pub known : (t : ℕ) → opened < t → find t slots ≡ free
  pub fresh : (t : ℕ) → opened < t → transcripts t ≡ no_transcript
  pub done : (t : ℕ) → Member t done_list → find t slots ≡ free
  pub done_known : (t : ℕ) → Member t done_list → t ≤ opened
  pub distinct : Distinct slots

-- the serial run depends only on the transcripts of the list
serial_store_same : (S : Setup) (s : Store) (transcripts transcripts' : ℕ → Transcript) (ts : List ℕ) → ((t : ℕ) → Member t ts → transcripts' t ≡ transcripts t) → serial_store S s transcripts' ts ≡ serial_store S s transcripts ts
unfolding serial_store
serial_store_same S s transcripts transcripts' [] e = refl
serial_store_same S s transcripts transcripts' (t ∷ ts) e =
    rw (e t (inl refl), serial_store_same S s transcripts transcripts' ts (λ u m. e u (inr m)))

serial_grants_same : (S : Setup) (s : Store) (transcripts transcripts' : ℕ → Transcript) (ts : List ℕ) → ((t : ℕ) → Member t ts → transcripts' t ≡ transcripts t) → SerialGrants S s transcripts ts → SerialGrants S s transcripts' ts
unfolding SerialGrants
serial_grants_same S s transcripts transcripts' [] e g = tt
serial_grants_same S s transcripts transcripts' (t ∷ ts) e g = (
  serial_grants_same S s transcripts transcripts' ts (λ u m. e u (inr m)) g.0,
  rw (e t (inl refl), serial_store_same S s transcripts transcripts' ts (λ u m. e u (inr m))) g.1,
)

swap : (l m : Lock) → Coexist l m → Coexist m l
swap l m (inl e) = inr e
swap l m (inr e) = inl e

module _ (S : Setup) (s₀ : Store) (transcripts : ℕ → Transcript) (ts : List ℕ) (s : Store) (slots : List Slot) (opened : ℕ) (inv : Inv S s₀ transcripts ts s slots opened) where
  -- an open transaction is known
  pub open_known : (t : ℕ) (x : Transaction) → find t slots ≡ open_slot x → t ≤ opened
  open_known t x e = grind (arith, inv.known t)

  module _ (t : ℕ) (x : Transaction) (c : Call) (found : find t slots ≡ open_slot x)
      (judged : judge S s x c ≡ None) (unblock : blocker x (lock_for S s c) slots ≡ None) (n : ℕ) where
    abbrev lock : Lock
    lock = lock_for S s c

    abbrev slots' : List Slot
    slots' = called x lock c slots

    abbrev transcripts' : ℕ → Transcript
    transcripts' u = transcript_with (calls t c (call_answer s x c n)) u (transcripts u)

    free_other : (u : ℕ) → find u slots ≡ free → u ≡ t → ⊥
    free_other u e q = grind arith

    free_after : (u : ℕ) → find u slots ≡ free → find u slots' ≡ free
    free_after u e = rw (called_other x lock c slots t u found (free_other u e), e)

    -- what is open after a granted call
    open_after : (u : ℕ) (z : Transaction) → find u slots' ≡ open_slot z
        → ((u ≡ t) × (z ≡ advance x lock c)) ⊎ ((u ≡ t → ⊥) × (find u slots ≡ open_slot z) × (is_signal (verdict x lock z) ≡ false))
    open_after u z e =
        ⊎_elim
        (λ q. inl (q, let w = called_same x lock c slots t found in cc))
        (λ d. let w = strike_open x lock (find u slots) z (sym (called_other x lock c slots t u found d) ∙ e) in inr (d, w.0, w.1))
        (cases_eq u t)

    -- the caller's locks coexist with those of who is left
    new_coexist : (u : ℕ) (z : Transaction) → (u ≡ t → ⊥) → find u slots ≡ open_slot z → is_signal (verdict x lock z) ≡ false
        → (l m : Lock) → (advance x lock c).holds l ≡ true → z.holds m ≡ true → Coexist l m
    new_coexist u z d e g l m h k =
        grind (
          arith,
          advance_holds x lock c l h,
          inv.coexist t u x z found e (λ r. d (sym r)) l m,
          verdict_ok x z lock m,
          neither (verdict x lock z) (unblocked x lock slots unblock u z e) g,
          find_number u slots z e,
          find_number t slots x found,
        )

    transcripts_kept : (u : ℕ) → (u ≡ t → ⊥) → transcripts' u ≡ transcripts u
    transcripts_kept u d = grind (arith, nat_tests)

    pub done_kept : (u : ℕ) → Member u ts → transcripts' u ≡ transcripts u
    done_kept u m = transcripts_kept u (free_other u (inv.done u m))

    caller_fits : Fits S s (transcripts' t) (advance x lock c)
    caller_fits = rw (eq-eqb t t refl) (advance_fits S s (transcripts t) x (inv.fits t x found) c n judged)

    pub inv_call : Inv S s₀ (λ u. transcript_with (calls t c (call_answer s x c n)) u (transcripts u)) ts s (called x (lock_for S s c) c slots) opened
    inv_call = record {
      grants = serial_grants_same S s₀ transcripts transcripts' ts done_kept inv.grants;
      ends = serial_store_same S s₀ transcripts transcripts' ts done_kept ∙ inv.ends;
      fits = λ u z e. ⊎_elim
          (λ w. rw (w.0, w.1) caller_fits)
          (λ w. rw (transcripts_kept u w.0) (inv.fits u z w.1))
          (open_after u z e);
      coexist = λ a b y z e f d l m h k. ⊎_elim
          (λ v. ⊎_elim
          (λ w. absurd (d (v.0 ∙ sym w.0)))
          (λ w. new_coexist b z w.0 w.1 w.2 l m (rw v.1 at h) k)
          (open_after b z f))
          (λ v. ⊎_elim
          (λ w. swap m l (new_coexist a y v.0 v.1 v.2 m l (rw w.1 at k) h))
          (λ w. inv.coexist a b y z v.1 w.1 d l m h k)
          (open_after b z f))
          (open_after a y e);
      rights_are = inv.rights_are;
      known = λ u h. free_after u (inv.known u h);
      fresh = λ u h. transcripts_kept u (free_other u (inv.known u h)) ∙ inv.fresh u h;
      done = λ u m. free_after u (inv.done u m);
      done_known = inv.done_known;
      distinct = distinct_called x lock c slots inv.distinct;
    }

  -- after an end, what is open was open and is another
  end_open : (t u : ℕ) (z : Transaction) → find u (end t slots) ≡ open_slot z → (t ≡ u → ⊥) × (find u slots ≡ open_slot z)
  end_open t u z e = grind (arith, find_end_same t slots, find_end_other t u slots)

  pub inv_leave : (t : ℕ) → Inv S s₀ transcripts ts s (end t slots) opened
  inv_leave t = record {
    grants = inv.grants;
    ends = inv.ends;
    fits = λ u z e. inv.fits u z (end_open t u z e).1;
    coexist = λ a b y z e f d l m h k. inv.coexist a b y z (end_open t a y e).1 (end_open t b z f).1 d l m h k;
    rights_are = inv.rights_are;
    known = λ u h. find_end_free t u slots (inv.known u h);
    fresh = inv.fresh;
    done = λ u m. find_end_free t u slots (inv.done u m);
    done_known = inv.done_known;
    distinct = distinct_end t slots inv.distinct;
  }

  pub inv_commit : Laws S → (t : ℕ) (x : Transaction) → find t slots ≡ open_slot x → Inv S s₀ transcripts (t ∷ ts) (apply x.changes s) (end t slots) opened
  unfolding SerialGrants serial_store finish
  inv_commit laws t x found = record {
    grants = (inv.grants, rw inv.ends (follows_replays S s subject granted replays));
    ends = rw (inv.ends, follows_executed S s subject granted replays) ((inv.fits t x found).changes_written s);
    fits = λ u z e. let w = end_open t u z e in
        fits_frame S s (apply x.changes s) (transcripts u) z
        (commit_frame S s (transcripts t) x z (inv.fits t x found) (inv.coexist t u x z found w.1 w.0) laws inv.rights_are)
        (inv.fits u z w.1);
    coexist = λ a b y z e f d l m h k. inv.coexist a b y z (end_open t a y e).1 (end_open t b z f).1 d l m h k;
    rights_are = λ p pol e. grind (arith, stays_or_locked S s (transcripts t) x (OfPolicy p) (inv.fits t x found), inv.rights_are p pol e);
    known = λ u h. find_end_free t u slots (inv.known u h);
    fresh = inv.fresh;
    done = λ u m. ⊎_elim (λ q. rw q (find_end_same t slots)) (λ k. find_end_free t u slots (inv.done u k)) m;
    done_known = λ u m. ⊎_elim (λ q. rw q (open_known t x found)) (inv.done_known u) m;
    distinct = distinct_end t slots inv.distinct;
  }
    where
      subject : Option ℕ
      subject = (transcripts t).subject

      granted : List Entry
      granted = (transcripts t).calls

      replays : Follows S s subject granted
      replays = (inv.fits t x found).replays

  module _ (u₀ : ℕ) (room : any_free slots ≡ true) where
    abbrev new : Transaction
    new = new_transaction (suc opened) u₀

    abbrev opened_transcripts : ℕ → Transcript
    opened_transcripts u = transcript_with (opens (suc opened) u₀) u (transcripts u)

    opened_open : (u : ℕ) (z : Transaction) → find u (place new slots) ≡ open_slot z → ((u ≡ suc opened) × (z ≡ new)) ⊎ ((suc opened ≡ u → ⊥) × (find u slots ≡ open_slot z))
    opened_open u z e =
        ⊎_elim
        (λ q. inl (sym q, let w = find_place_same new slots room (inv.known (suc opened) (omega arith)) in cc))
        (λ d. inr (d, sym (find_place_other new u slots d) ∙ e))
        (cases_eq (suc opened) u)

    transcript_other : (u : ℕ) → (suc opened ≡ u → ⊥) → opened_transcripts u ≡ transcripts u
    transcript_other u d = grind (arith, nat_tests)

    transcript_new : opened_transcripts (suc opened) ≡ record { subject = Some u₀; calls = [] }
    transcript_new = grind (arith, nat_tests, inv.fresh (suc opened))

    new_fits : Fits S s (opened_transcripts (suc opened)) new
    unfolding Follows session recall latest apply written workspace
    new_fits = rw transcript_new (record {
      subject_fits = refl;
      replays = tt;
      held_deployed = λ p h. absurd (false≢true h);
      changes_seen = λ o d. refl;
      changes_written = λ z. refl;
      changes_once = tt;
      changes_by_calls = refl;
      locked = tt;
      changes_locked = λ k m. absurd m;
    })

    done_below : (u : ℕ) → Member u ts → suc opened ≡ u → ⊥
    done_below u m q = let h = inv.done_known u m in omega arith

    pub done_same : (u : ℕ) → Member u ts → opened_transcripts u ≡ transcripts u
    done_same u m = transcript_other u (done_below u m)

    pub inv_open : Inv S s₀ (λ u. transcript_with (opens (suc opened) u₀) u (transcripts u)) ts s (place (new_transaction (suc opened) u₀) slots) (suc opened)
    inv_open = record {
      grants = serial_grants_same S s₀ transcripts opened_transcripts ts done_same inv.grants;
      ends = serial_store_same S s₀ transcripts opened_transcripts ts done_same ∙ inv.ends;
      fits = λ u z e. ⊎_elim
          (λ w. rw (w.0, w.1) new_fits)
          (λ w. rw (transcript_other u w.0) (inv.fits u z w.1))
          (opened_open u z e);
      coexist = λ b d y z e f q l m h k. ⊎_elim
          (λ v. let none = rw v.1 at h in cc)
          (λ v. ⊎_elim (λ w. let none = rw w.1 at k in cc) (λ w. inv.coexist b d y z v.1 w.1 q l m h k) (opened_open d z f))
          (opened_open b y e);
      rights_are = inv.rights_are;
      known = λ u h. find_place_other new u slots (λ q. omega arith) ∙ inv.known u (omega arith);
      fresh = λ u h. transcript_other u (λ q. omega arith) ∙ inv.fresh u (omega arith);
      done = λ u m. find_place_other new u slots (done_below u m) ∙ inv.done u m;
      done_known = λ u m. let h = inv.done_known u m in omega arith;
      distinct = distinct_place new slots (inv.known (suc opened) (omega arith)) inv.distinct;
    }
