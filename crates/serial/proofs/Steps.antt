-- The outcomes of a request, one by one.
use Rattle.std.proofs.Common.{◌≡◌, ℕ, suc, Bool, true, false, ltb, length, Some, None, Option, refl, arith}
use Rattle.protocol.specs.declared.refusal.Refusal.{Refusal}
use Rattle.protocol.specs.declared.refusal.Refusal.TheVariants.{TooManyOpened, NoFreeSlot, NoSuchTransaction}
use Rattle.protocol.specs.declared.answer.Answer.{Answer}
use Rattle.protocol.specs.declared.answer.Answer.TheVariants.{Granted, Refused, Wait, Aborted}
use Rattle.protocol.specs.declared.request.Request.{Request}
use Rattle.serial.specs.Words.{Setup, Call}
use Rattle.serial.specs.Requests.{asks_open, asks_call, asked}
use Rattle.serial.specs.Model.{State, Slot, free, open_slot, aborted_slot, Transaction, find, judge, lock_for, blocker, signalled, call_answer, call_granted, call_unblocked, call_judged, call_in, open_in, perform, any_free, place, new_transaction, with_slots, answer, after}
use Rattle.serial.proofs.Granted.{called}

abbrev pub Outcome : Type 1
Outcome = Answer × State → Type 0

-- the state after a granted call, a granted open
abbrev pub after_call : Setup → State → Transaction → Call → State
after_call S σ x c = with_slots σ (called x (lock_for S σ.store c) c σ.slots)

abbrev pub after_open : State → ℕ → State
after_open σ u = record { store = σ.store; slots = place (new_transaction (suc σ.opened) u) σ.slots; opened = suc σ.opened; commits = σ.commits }

abbrev pub count : Setup → State → Transaction → Call → ℕ
count S σ x c = length (signalled x (lock_for S σ.store c) σ.slots)

open_by : (P : Outcome) (σ : State) (u : ℕ) → ((f : Refusal) → P (Refused f, σ)) → (any_free σ.slots ≡ true → P (Granted (suc σ.opened), after_open σ u))
    → (a b : Bool) → any_free σ.slots ≡ b → P (open_in σ u a b)
unfolding open_in
open_by P σ u deny go false b e = deny TooManyOpened
open_by P σ u deny go true false e = deny NoFreeSlot
open_by P σ u deny go true true e = go e

pub open_outcome : (P : Outcome) (S : Setup) (σ : State) (u : ℕ) → ((f : Refusal) → P (Refused f, σ)) → (any_free σ.slots ≡ true → P (Granted (suc σ.opened), after_open σ u))
    → P (perform S σ (asks_open u))
unfolding perform
open_outcome P S σ u deny go = open_by P σ u deny go (ltb σ.opened 50000) (any_free σ.slots) refl

pub call_outcome : (P : Outcome) (S : Setup) (σ : State) (t : ℕ) (c : Call) → (find t σ.slots ≡ free → P (Refused NoSuchTransaction, σ))
    → ((i b p : ℕ) → find t σ.slots ≡ aborted_slot i b p → P (Aborted b p, σ))
    → ((x : Transaction) (f : Refusal) → find t σ.slots ≡ open_slot x → P (Refused f, σ))
    → ((x : Transaction) (u : ℕ) → find t σ.slots ≡ open_slot x → P (Wait u, σ))
    → ((x : Transaction) → find t σ.slots ≡ open_slot x → judge S σ.store x c ≡ None → blocker x (lock_for S σ.store c) σ.slots ≡ None
    → P (Granted (call_answer σ.store x c (count S σ x c)), after_call S σ x c))
    → P (perform S σ (asks_call t c))
unfolding perform call_in call_judged call_unblocked call_granted
call_outcome P S σ t c deny gone refuse wait go = by (find t σ.slots) refl
  where
    unblock : (x : Transaction) → find t σ.slots ≡ open_slot x → judge S σ.store x c ≡ None → (o : Option ℕ)
        → blocker x (lock_for S σ.store c) σ.slots ≡ o → P (call_unblocked σ x c (lock_for S σ.store c) o)
    unblock x e j None b = go x e j b
    unblock x e j (Some u) b = wait x u e

    judged : (x : Transaction) → find t σ.slots ≡ open_slot x → (o : Option Refusal) → judge S σ.store x c ≡ o → P (call_judged S σ x c o)
    judged x e None j = unblock x e j (blocker x (lock_for S σ.store c) σ.slots) refl
    judged x e (Some f) j = refuse x f e

    by : (w : Slot) → find t σ.slots ≡ w → P (call_in S σ c w)
    by free e = deny e
    by (open_slot x) e = judged x e (judge S σ.store x c) refl
    by (aborted_slot i b p) e = gone i b p e

-- what a call that is answered granted went by, and what it leaves
pub record WasGranted (S : Setup) (σ : State) (t : ℕ) (c : Call) (n : ℕ) (left : State) : Type 0 where
  pub caller : Transaction
  pub found : find t σ.slots ≡ open_slot caller
  pub unblocked : blocker caller (lock_for S σ.store c) σ.slots ≡ None
  pub told : call_answer σ.store caller c (count S σ caller c) ≡ n
  pub leaves : left ≡ after_call S σ caller c

pub granted_call : (S : Setup) (σ : State) (r : Request) (t : ℕ) (c : Call) (n : ℕ) → asked r ≡ asks_call t c → answer S σ r ≡ Granted n → WasGranted S σ t c n (after S σ r)
unfolding perform call_in call_judged call_unblocked call_granted
granted_call S σ r t c n k a = grind arith
