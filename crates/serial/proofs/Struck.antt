-- Open, struck and restricting transactions of a run, by the slots.
use Rattle.std.proofs.Common.{◌≡◌, ℕ, suc, ◌⊎◌, List, refl, inl, inr, ⊎_elim, arith}
use Rattle.protocol.specs.declared.request.Request.{Request}
use Rattle.protocol.specs.declared.request.Request.TheVariants.{GiveUp}
use Rattle.serial.specs.Words.{Setup, Laws}
use Rattle.serial.specs.Requests.{asked}
use Rattle.serial.specs.Model.{State, Slot, free, open_slot, aborted_slot, Transaction, find, call_in, commit_in, give_up_in, perform, after}
use Rattle.serial.specs.History.{History, Ends, Opens, Run, start, then, Admitted}
use Rattle.serial.specs.Day.{AnswersAborted, Strikes, does, OpenIn}
use Rattle.serial.proofs.Kept.{run_holds, start_free}
use Rattle.serial.proofs.Fate.{Struck, Fate, fate}

abbrev pub IsAborted : List Slot → ℕ → Type 0
IsAborted slots t = (i : ℕ) × (b : ℕ) × (p : ℕ) × (find t slots ≡ aborted_slot i b p)

-- each request that names t is answered aborted, exactly if its slot is an aborted one
pub aborted_answers : (S : Setup) (σ : State) (t : ℕ) → IsAborted σ.slots t → AnswersAborted S σ t
unfolding AnswersAborted perform call_in commit_in give_up_in
aborted_answers S σ t (i, b, p, e) r n = (b, p, grind arith)

pub answers_aborted : (S : Setup) (σ : State) (t : ℕ) → AnswersAborted S σ t → IsAborted σ.slots t
unfolding AnswersAborted perform give_up_in
answers_aborted S σ t a = let w = a (GiveUp t) refl in grind arith

pub open_not_aborted : (S : Setup) (σ : State) (t : ℕ) (x : Transaction) → find t σ.slots ≡ open_slot x → AnswersAborted S σ t → ⊥
open_not_aborted S σ t x e a = let w = answers_aborted S σ t a in cc

-- a struck transaction is struck by the words of the theorem, and the other way round
pub struck_strikes : (S : Setup) (σ : State) (r : Request) (t : ℕ) (z : Transaction) → find t σ.slots ≡ open_slot z → IsAborted (after S σ r).slots t → Strikes S σ r t
unfolding Strikes
struck_strikes S σ r t z e a = (aborted_answers S (after S σ r) t a, open_not_aborted S σ t z e)

pub strikes_struck : (S : Setup) (σ : State) → find (suc σ.opened) σ.slots ≡ free → (r : Request) (t : ℕ) → Strikes S σ r t → Struck S σ (asked r) (perform S σ (asked r)) t
unfolding Strikes
strikes_struck S σ new r t (a, b) =
    let now : IsAborted (after S σ r).slots t = answers_aborted S (after S σ r) t a in
    grind (arith, fate S σ new (asked r) t, aborted_answers S σ t)

abbrev pub IsOpen : List Slot → ℕ → Type 0
IsOpen slots t = (x : Transaction) × (find t slots ≡ open_slot x)

-- one step: what is open after it
open_step : (S : Setup) (σ : State) (r : Request) (t : ℕ) → Fate S σ (asked r) (perform S σ (asked r)) t
    → Opens (does S σ r) t ⊎ (IsOpen σ.slots t × (Ends (does S σ r) t → ⊥) × (Strikes S σ r t → ⊥)) → IsOpen (after S σ r).slots t
open_step S σ r t f k = grind (arith, struck_strikes S σ r t)

pub open_step_back : (S : Setup) (σ : State) (r : Request) (t : ℕ) → Fate S σ (asked r) (perform S σ (asked r)) t
    → IsOpen (after S σ r).slots t → Opens (does S σ r) t ⊎ (IsOpen σ.slots t × (Ends (does S σ r) t → ⊥) × (Strikes S σ r t → ⊥))
unfolding Strikes
open_step_back S σ r t f k = grind (arith, open_not_aborted S (after S σ r) t)

module _ (S : Setup) (laws : Laws S) (σ₀ : State) (adm : Admitted S σ₀) where
  pub next_free : {h : History} {σ : State} → Run S σ₀ h σ → find (suc σ.opened) σ.slots ≡ free
  next_free {σ = σ} run = (run_holds S laws σ₀ adm run).known (suc σ.opened) (omega arith)

  -- open in the run is to have an open slot
  pub open_in_slot : {h : History} {σ : State} (run : Run S σ₀ h σ) (t : ℕ) → OpenIn run t → IsOpen σ.slots t
  unfolding OpenIn
  open_in_slot start t o = absurd o
  open_in_slot (then {h = h} {σ = σ} run r) t (inl o) = open_step S σ r t (fate S σ (next_free run) (asked r) t) (inl o)
  open_in_slot (then {h = h} {σ = σ} run r) t (inr (o, n, s)) = open_step S σ r t (fate S σ (next_free run) (asked r) t) (inr (open_in_slot run t o, n, s))

  pub slot_open_in : {h : History} {σ : State} (run : Run S σ₀ h σ) (t : ℕ) → IsOpen σ.slots t → OpenIn run t
  unfolding OpenIn
  slot_open_in start t o = let k = start_free S σ₀ adm t in cc
  slot_open_in (then {h = h} {σ = σ} run r) t o =
      ⊎_elim (λ k. inl k) (λ k. inr (slot_open_in run t k.0, k.1, k.2)) (open_step_back S σ r t (fate S σ (next_free run) (asked r) t) o)
