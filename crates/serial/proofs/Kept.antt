-- Each run keeps the invariant.
use Rattle.std.proofs.Common.{◌≡◌, ℕ, zero, suc, List, [], replicate, refl, arith}
use Rattle.std.proofs.lemmas.Option.{slice_get_past}
use Rattle.protocol.specs.declared.answer.Answer.{Answer}
use Rattle.serial.specs.Words.{Setup, Laws, Store}
use Rattle.serial.specs.Requests.{Asked, asks_open, asks_call, asks_commit, asks_give_up, asked}
use Rattle.serial.specs.Model.{State, Slot, free, open_slot, aborted_slot, find, commit_in, give_up_in, perform}
use Rattle.serial.specs.Serial.{Transcript, serial_store, SerialGrants}
use Rattle.serial.specs.History.{History, effect_of, transcript_with, transcript, committed_with, committed, Run, start, then, Admitted}
use Rattle.serial.proofs.Granted.{Distinct}
use Rattle.serial.proofs.Invariant.{Inv, inv_call, inv_leave, inv_commit, inv_open}
use Rattle.serial.proofs.Steps.{open_outcome, call_outcome, count}

abbrev Good : Setup → Store → (ℕ → Transcript) → List ℕ → Asked → Answer × State → Type 0
Good S s₀ transcripts ts k w =
    Inv S s₀ (λ u. transcript_with (effect_of k w.0) u (transcripts u)) (committed_with (effect_of k w.0) ts) w.1.store w.1.slots w.1.opened

module _ (S : Setup) (s₀ : Store) (transcripts : ℕ → Transcript) (ts : List ℕ) (σ : State) (inv : Inv S s₀ transcripts ts σ.store σ.slots σ.opened) where
  commit_kept : Laws S → (t : ℕ) (w : Slot) → find t σ.slots ≡ w → Good S s₀ transcripts ts (asks_commit t) (commit_in σ t w)
  unfolding commit_in
  commit_kept laws t free e = inv
  commit_kept laws t (open_slot x) e = inv_commit S s₀ transcripts ts σ.store σ.slots σ.opened inv laws t x e
  commit_kept laws t (aborted_slot i b p) e = inv_leave S s₀ transcripts ts σ.store σ.slots σ.opened inv t

  give_up_kept : (t : ℕ) (w : Slot) → Good S s₀ transcripts ts (asks_give_up t) (give_up_in σ t w)
  unfolding give_up_in
  give_up_kept t free = inv
  give_up_kept t (open_slot x) = inv_leave S s₀ transcripts ts σ.store σ.slots σ.opened inv t
  give_up_kept t (aborted_slot i b p) = inv_leave S s₀ transcripts ts σ.store σ.slots σ.opened inv t

  pub inv_step : Laws S → (k : Asked) → Good S s₀ transcripts ts k (perform S σ k)
  unfolding perform
  inv_step laws (asks_open u) =
      open_outcome (Good S s₀ transcripts ts (asks_open u)) S σ u (λ f. inv) (λ a. inv_open S s₀ transcripts ts σ.store σ.slots σ.opened inv u a)
  inv_step laws (asks_call t c) =
      call_outcome (Good S s₀ transcripts ts (asks_call t c)) S σ t c (λ e. inv) (λ i b p e. inv) (λ x f e. inv) (λ x u e. inv)
      (λ x e j b. inv_call S s₀ transcripts ts σ.store σ.slots σ.opened inv t x c e j b (count S σ x c))
  inv_step laws (asks_commit t) = commit_kept laws t (find t σ.slots) refl
  inv_step laws (asks_give_up t) = give_up_kept t (find t σ.slots)

-- the invariant of a history and a state
abbrev pub Holds : Setup → State → History → State → Type 0
Holds S σ₀ h σ = Inv S σ₀.store (transcript h) (committed h) σ.store σ.slots σ.opened

pub find_free : (n t : ℕ) → find t (replicate n free) ≡ free
unfolding find
find_free zero t = refl
find_free (suc n) t = find_free n t

pub start_free : (S : Setup) (σ₀ : State) → Admitted S σ₀ → (t : ℕ) → find t σ₀.slots ≡ free
start_free S σ₀ adm t = rw adm.all_free (find_free 16 t)

distinct_free : (n : ℕ) → Distinct (replicate n free)
distinct_free zero = tt
distinct_free (suc n) = ((λ u e. cc), distinct_free n)

pub inv_start : (S : Setup) (σ₀ : State) → Admitted S σ₀ → Holds S σ₀ [] σ₀
unfolding transcript committed serial_store SerialGrants
inv_start S σ₀ adm = record {
  grants = tt;
  ends = refl;
  fits = λ t x e. let z = start_free S σ₀ adm t in cc;
  coexist = λ t u x y e f d l m h k. let z = start_free S σ₀ adm t in cc;
  rights_are = λ p pol e. adm.all_rights p (grind (arith, adm.as_many_rights, slice_get_past S.policies p));
  known = λ t h. start_free S σ₀ adm t;
  fresh = λ t h. refl;
  done = λ t m. absurd m;
  done_known = λ t m. absurd m;
  distinct = rw adm.all_free (distinct_free 16);
}

pub run_holds : (S : Setup) (laws : Laws S) (σ₀ : State) → Admitted S σ₀ → {h : History} {σ : State} → Run S σ₀ h σ → Holds S σ₀ h σ
unfolding transcript committed
run_holds S laws σ₀ adm start = inv_start S σ₀ adm
run_holds S laws σ₀ adm (then {h = h} {σ = σ} run r) = inv_step S σ₀.store (transcript h) (committed h) σ (run_holds S laws σ₀ adm run) laws (asked r)
