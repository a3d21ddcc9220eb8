-- What a call of an open transaction comes to in the machine, by the way it goes.
use Rattle.std.proofs.Common.{◌≡◌, ℕ, ◌≤◌, Bool, true, false, cond, List, [], ◌∷◌, map, length, Some, None, refl, ap, ap₂, arith}
use Rattle.std.proofs.lemmas.Bool.{eq-eqb}
use Rattle.std.proofs.lemmas.Bool.Decides.{nat_tests}
use Rattle.protocol.specs.declared.answer.Answer.TheVariants.{Granted, Refused, Wait}
use Rattle.protocol.specs.declared.policy.Object.TheVariants.{OfCell, OfPolicy}
use Rattle.protocol.specs.declared.refusal.Refusal.{Refusal}
use Rattle.serial.specs.Words.{Setup, Store, Call, Deploys, Reads, Writes, Shows, Sets}
use Rattle.serial.specs.Changes.{room, seen}
use Rattle.serial.specs.Locks.{Lock}
use Rattle.serial.specs.Model.{State, Slot, open_slot, Transaction, named, replace_slot, replace, judge, lock_for, blocker, signalled, strike, advance, with_slots, call_answer, call_granted, call_unblocked, call_judged, call_in}
use Rattle.lock_table.specs.Held.{has_row}

module _ (S : Setup) (σ : State) (x : Transaction) (c : Call) where
  pub refused : (f : Refusal) → Some f ≡ judge S σ.store x c → (Refused f, σ) ≡ call_in S σ c (open_slot x)
  unfolding call_in call_judged
  refused f e = rw (← e)

  module _ (fine : None ≡ judge S σ.store x c) (lock : Lock) (asked : lock ≡ lock_for S σ.store c) where
    pub waits : (u : ℕ) (σ' : State) → blocker x lock σ.slots ≡ Some u → σ' ≡ σ → (Wait u, σ') ≡ call_in S σ c (open_slot x)
    unfolding call_in call_judged call_unblocked
    waits u σ' e same = rw (← fine, ← asked, e, same)

    pub granted : (n k : ℕ) (σ' : State) → blocker x lock σ.slots ≡ None → k ≡ length (signalled x lock σ.slots) → n ≡ call_answer σ.store x c k
        → σ' ≡ with_slots σ (replace (advance x lock c) (map (strike x lock) σ.slots)) → (Granted n, σ') ≡ call_in S σ c (open_slot x)
    unfolding call_in call_judged call_unblocked call_granted
    granted n k σ' e counted told same = rw (← fine, ← asked, e, told, counted, same)

-- The answer goes by what a transaction has changed, whatever it holds.
pub answer_same : (s : Store) (x y : Transaction) (c : Call) (n : ℕ) → x.changes ≡ y.changes → call_answer s x c n ≡ call_answer s y c n
unfolding call_answer
answer_same s x y (Deploys p) n e = refl
answer_same s x y (Reads c) n e = ap (λ ks. seen s ks (OfCell c)) e
answer_same s x y (Writes c v) n e = refl
answer_same s x y (Shows p) n e = ap (λ ks. seen s ks (OfPolicy p)) e
answer_same s x y (Sets p v) n e = refl

-- The lock that a call asks for has a row, once the call is judged fine,
pub row_there : (S : Setup) (s : Store) (x : Transaction) (c : Call) → None ≡ judge S s x c → length s.cells ≤ 256 → length S.policies ≤ 64 → has_row (lock_for S s c) ≡ true
unfolding judge lock_for
row_there S s x (Deploys p) fine few_cells few_policies = grind (arith, nat_tests)
row_there S s x (Reads c) fine few_cells few_policies = grind (arith, nat_tests)
row_there S s x (Writes c v) fine few_cells few_policies = grind (arith, nat_tests)
row_there S s x (Shows p) fine few_cells few_policies = grind (arith, nat_tests)
row_there S s x (Sets p v) fine few_cells few_policies = grind (arith, nat_tests)

-- and a change has room.
pub write_room : (S : Setup) (s : Store) (x : Transaction) (c v : ℕ) → None ≡ judge S s x (Writes c v) → room x.changes (OfCell c) ≡ true
unfolding judge
write_room S s x c v fine = grind (arith, nat_tests)

pub set_room : (S : Setup) (s : Store) (x : Transaction) (p v : ℕ) → None ≡ judge S s x (Sets p v) → room x.changes (OfPolicy p) ≡ true
unfolding judge
set_room S s x p v fine = grind (arith, nat_tests)

-- The lock first and then the change
replace_slot_twice : (x y : Transaction) → y.number ≡ x.number → (s : Slot) → replace_slot y (replace_slot x s) ≡ replace_slot y s
replace_slot_twice x y e s = go (named s x.number) refl
  where
    go : (b : Bool) → named s x.number ≡ b → replace_slot y (cond b (open_slot x) s) ≡ replace_slot y s
    go true is = rw (e, is, eq-eqb x.number x.number refl)
    go false is = refl

pub replace_twice : (x y : Transaction) → y.number ≡ x.number → (l : List Slot) → replace y (replace x l) ≡ replace y l
unfolding replace
replace_twice x y e [] = refl
replace_twice x y e (s ∷ l) = ap₂ ◌∷◌ (replace_slot_twice x y e s) (replace_twice x y e l)
