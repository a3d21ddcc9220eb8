-- What one request does to one transaction.
use Rattle.std.proofs.Common.{◌≡◌, ℕ, suc, true, List, sym, refl, ⊎_elim, arith}
use Rattle.std.proofs.lemmas.Bool.{cases_eq}
use Rattle.protocol.specs.declared.answer.Answer.{Answer}
use Rattle.protocol.specs.declared.answer.Answer.TheVariants.{Granted}
use Rattle.serial.specs.Words.{Setup, Call}
use Rattle.serial.specs.Locks.{Lock, lock_number}
use Rattle.serial.specs.Requests.{Asked, asks_open, asks_call, asks_commit, asks_give_up}
use Rattle.serial.specs.Model.{State, Slot, free, open_slot, aborted_slot, Transaction, find, verdict, is_signal, lock_for, call_answer, perform, commit_in, give_up_in, new_transaction, advance}
use Rattle.serial.specs.History.{effect_of, Ends, Opens}
use Rattle.serial.proofs.Slots.{find_end_same, find_end_other, find_place_same, find_place_other}
use Rattle.serial.proofs.Advance.{advance_more}
use Rattle.serial.proofs.Granted.{called, called_same, called_other}
use Rattle.serial.proofs.Steps.{after_call, open_outcome, call_outcome, count}

-- the transaction t is aborted by a granted call of another
pub record Struck (S : Setup) (σ : State) (k : Asked) (w : Answer × State) (t : ℕ) : Type 0 where
  pub by : ℕ
  pub call : Call
  pub striker : Transaction
  pub victim : Transaction
  pub asked : k ≡ asks_call by call
  pub victim_open : find t σ.slots ≡ open_slot victim
  pub signal : is_signal (verdict striker (lock_for S σ.store call) victim) ≡ true
  pub other : t ≡ by → ⊥
  pub granted : w.0 ≡ Granted (call_answer σ.store striker call (count S σ striker call))
  pub aborted : find t w.1.slots ≡ aborted_slot victim.number striker.number (lock_number (lock_for S σ.store call))

pub data Fate (S : Setup) (σ : State) (k : Asked) (w : Answer × State) (t : ℕ) : Type 0 where
  stays : find t w.1.slots ≡ find t σ.slots → (Ends (effect_of k w.0) t → ⊥) → (Opens (effect_of k w.0) t → ⊥) → Fate S σ k w t
  opened : t ≡ suc σ.opened → Opens (effect_of k w.0) t → (x : Transaction) → find t w.1.slots ≡ open_slot x → find t σ.slots ≡ free → Fate S σ k w t
  advanced : (x z : Transaction) → find t σ.slots ≡ open_slot x → find t w.1.slots ≡ open_slot z → ((m : Lock) → x.holds m ≡ true → z.holds m ≡ true)
      → (Ends (effect_of k w.0) t → ⊥) → (Opens (effect_of k w.0) t → ⊥) → Fate S σ k w t
  struck : Struck S σ k w t → Fate S σ k w t
  ended : Ends (effect_of k w.0) t → find t w.1.slots ≡ free → (Opens (effect_of k w.0) t → ⊥) → Fate S σ k w t

pub struck_after : (x z : Transaction) (l : Lock) (c : Call) (slots : List Slot) (n t : ℕ) → find n slots ≡ open_slot x → find t slots ≡ open_slot z → (t ≡ n → ⊥)
    → is_signal (verdict x l z) ≡ true → find t (called x l c slots) ≡ aborted_slot z.number x.number (lock_number l)
struck_after x z l c slots n t e f d g = grind (arith, called_other x l c slots n t e d)

open_fate : (S : Setup) (σ : State) (u t : ℕ) → find (suc σ.opened) σ.slots ≡ free → Fate S σ (asks_open u) (perform S σ (asks_open u)) t
open_fate S σ u t new =
    open_outcome (λ w. Fate S σ (asks_open u) w t) S σ u
    (λ f. stays refl (λ e. e) (λ e. e))
    (λ a. let x : Transaction = new_transaction (suc σ.opened) u in
    ⊎_elim
    (λ q. opened (sym q) q x (rw (← q) (find_place_same x σ.slots a new)) (rw (← q) new))
    (λ d. stays (find_place_other x t σ.slots d) (λ e. e) d)
    (cases_eq (suc σ.opened) t))

call_fate : (S : Setup) (σ : State) (n t : ℕ) (c : Call) → Fate S σ (asks_call n c) (perform S σ (asks_call n c)) t
call_fate S σ n t c =
    call_outcome (λ w. Fate S σ (asks_call n c) w t) S σ n c
    (λ e. stays refl (λ e. e) (λ e. e))
    (λ i b p e. stays refl (λ e. e) (λ e. e))
    (λ x f e. stays refl (λ e. e) (λ e. e))
    (λ x u e. stays refl (λ e. e) (λ e. e))
    (λ x e j b. ⊎_elim (λ q. caller x e q) (λ d. another x e d) (cases_eq t n))
  where
    caller : (x : Transaction) → find n σ.slots ≡ open_slot x → t ≡ n
        → Fate S σ (asks_call n c) (Granted (call_answer σ.store x c (count S σ x c)), after_call S σ x c) t
    caller x e q =
        let l : Lock = lock_for S σ.store c in
        advanced x (advance x l c) (rw q e) (rw q (called_same x l c σ.slots n e)) (advance_more x l c) (λ e. e) (λ e. e)

    another : (x : Transaction) → find n σ.slots ≡ open_slot x → (t ≡ n → ⊥)
        → Fate S σ (asks_call n c) (Granted (call_answer σ.store x c (count S σ x c)), after_call S σ x c) t
    another x e d = grind (arith, stays, struck, called_other x (lock_for S σ.store c) c σ.slots n t e d)

pub fate : (S : Setup) (σ : State) → find (suc σ.opened) σ.slots ≡ free → (k : Asked) (t : ℕ) → Fate S σ k (perform S σ k) t
unfolding perform commit_in give_up_in
fate S σ new (asks_open u) t = open_fate S σ u t new
fate S σ new (asks_call n c) t = call_fate S σ n t c
fate S σ new (asks_commit n) t = grind (arith, stays, ended, find_end_same n σ.slots, find_end_other n t σ.slots)
fate S σ new (asks_give_up n) t = grind (arith, stays, ended, find_end_same n σ.slots, find_end_other n t σ.slots)
