-- How many are struck: the machine counts the transactions, the table of locks counts slots.
use Rattle.std.proofs.Common.{◌≡◌, ℕ, zero, suc, ◌+◌, ◌≤◌, Bool, false, cond, List, [], ◌∷◌, length, get_or, sym, refl, ap₂, ◌∙◌, arith}
use Rattle.locking.specs.Slots.{count_below}
use Rattle.serial.specs.Locks.{Lock}
use Rattle.serial.specs.Model.{Slot as ModelSlot, Transaction as ModelTransaction, free, open_slot, aborted_slot, verdict, is_signal, signalled, note_signalled}
use Rattle.slot_table.specs.declared.slot.Slot.{Slot}
use Rattle.slot_table.specs.declared.slot.Slot.TheVariants.{Free}
use Rattle.slot_table.specs.Slots.{slot_of, slots_from}

abbrev pub signals_in : ModelTransaction → Lock → ModelSlot → Bool
signals_in x asked free = false
signals_in x asked (open_slot y) = is_signal (verdict x asked y)
signals_in x asked (aborted_slot i b p) = false

abbrev one : Bool → ℕ
one b = cond b 1 0

count_none : (p : ℕ → Bool) (n : ℕ) → ((k : ℕ) → p k ≡ false) → count_below p n ≡ 0
count_none p zero none = refl
count_none p (suc n) none = let rest = count_none p n none in rw (none n) (omega arith)

-- the first apart from the rest
count_first : (p : ℕ → Bool) (n : ℕ) → count_below p (suc n) ≡ one (p 0) + count_below (λ k. p (suc k)) n
count_first p zero = refl
count_first p (suc n) = let rest = count_first p n in omega arith

noted : (x : ModelTransaction) (asked : Lock) (s : ModelSlot) (l : List ℕ) → length (note_signalled x asked s l) ≡ one (signals_in x asked s) + length l
noted x asked free l = omega arith
noted x asked (aborted_slot i b p) l = omega arith
noted x asked (open_slot y) l = grind arith

pub counted : (h : ℕ → Lock → Bool) (x : ModelTransaction) (asked : Lock) (n : ℕ) (ss : List Slot) (p : ℕ → Bool) (m : ℕ)
    → ((k j : ℕ) → j ≡ n + k → signals_in x asked (slot_of (h j) (get_or ss k Free)) ≡ p k) → length ss ≤ m → length (signalled x asked (slots_from h n ss)) ≡ count_below p m
unfolding signalled slots_from
counted h x asked n [] p m each few = sym (count_none p m (λ k. sym (each k (n + k) refl)))
counted h x asked n (s ∷ ss) p zero each few = absurd (omega arith)
counted h x asked n (s ∷ ss) p (suc m) each few =
    noted x asked (slot_of (h n) s) (signalled x asked (slots_from h (suc n) ss))
    ∙ ap₂ (λ b c. one b + c) (each 0 n (omega arith)) (counted h x asked (suc n) ss (λ k. p (suc k)) m (λ k j e. each (suc k) j (omega arith)) (omega arith))
    ∙ sym (count_first p m)
