-- What the locks of another slot say to the asker: in the machine by transactions, in the table of locks by slots.
use Rattle.std.proofs.Common.{◌≡◌, ℕ, Bool, true, false, cond, not, ◌&&◌, ◌||◌, ◌≢◌, List, [], ◌∷◌, refl, ap, arith}
use Rattle.std.proofs.lemmas.Bool.{eq-eqb, ne_eqb}
use Rattle.std.proofs.lemmas.Bool.Decides.{nat_tests}
use Rattle.locking.specs.declared.mode.LockAnswer.{LockAnswer}
use Rattle.locking.specs.declared.mode.LockAnswer.TheVariants.{Compatible}
use Rattle.serial.specs.Locks.{Lock, locks_beside, held_say}
use Rattle.serial.specs.Model.{Transaction as ModelTransaction, verdict, is_conflict, is_signal}
use Rattle.lock_table.specs.Held.{conflicts, signals}
use Rattle.slot_table.specs.declared.slot.Transaction.{Transaction}
use Rattle.slot_table.specs.Slots.{transaction_of}

-- A test of what is said, which fails at yes
own : (t : LockAnswer → Bool) → t Compatible ≡ false → (a b : Bool) (v : LockAnswer) → b ≡ true → t (cond (a || b) Compatible v) ≡ false
own t e true b v same = e
own t e false true v same = e
own t e false false v same = cc

other : (t : LockAnswer → Bool) → t Compatible ≡ false → (a b c : Bool) (v : LockAnswer) → b ≡ false → c ≡ false → t (cond (a || b) Compatible v) ≡ ((not a && not c) && t v)
other t e a b c v p q = rw (p, q) (go a)
  where
    go : (a : Bool) → t (cond (a || false) Compatible v) ≡ ((not a && not false) && t v)
    go true = e
    go false = refl

module _ (h : ℕ → Lock → Bool) (asked : Lock) (i : ℕ) where
  module _ (x : Transaction) where
    abbrev asker : ModelTransaction
    asker = transaction_of (h i) x

    -- A transaction in another slot, of another number
    module _ (k : ℕ) (y : Transaction) (slots : k ≢ i) (numbers : x.id ≢ y.id) where
      pub other_conflicts : is_conflict (verdict asker asked (transaction_of (h k) y)) ≡ conflicts h asked i k
      unfolding verdict
      other_conflicts = other is_conflict refl (h i asked) _ _ _ (ne_eqb x.id y.id numbers) (ne_eqb k i slots)

      pub other_signals : is_signal (verdict asker asked (transaction_of (h k) y)) ≡ signals h asked i k
      unfolding verdict
      other_signals = other is_signal refl (h i asked) _ _ _ (ne_eqb x.id y.id numbers) (ne_eqb k i slots)

    -- The asker's own slot
    pub own_conflicts : is_conflict (verdict asker asked asker) ≡ false
    unfolding verdict
    own_conflicts = own is_conflict refl (h i asked) _ _ (eq-eqb x.id x.id refl)

    pub own_signals : is_signal (verdict asker asked asker) ≡ false
    unfolding verdict
    own_signals = own is_signal refl (h i asked) _ _ (eq-eqb x.id x.id refl)

  pub self_conflicts : conflicts h asked i i ≡ false
  self_conflicts = let e = eq-eqb i i refl in grind (arith, nat_tests)

  pub self_signals : signals h asked i i ≡ false
  self_signals = let e = eq-eqb i i refl in grind (arith, nat_tests)

  -- A slot with no lock says yes.
  quiet : (f : Lock → Bool) (ms : List Lock) → ((l : Lock) → f l ≡ false) → held_say f asked ms ≡ Compatible
  unfolding held_say
  quiet f [] none = refl
  quiet f (m ∷ ms) none = rw (none m) (quiet f ms none)

  pub idle_conflicts : (k : ℕ) → ((l : Lock) → h k l ≡ false) → conflicts h asked i k ≡ false
  idle_conflicts k none = let e = ap is_conflict (quiet (h k) (locks_beside asked) none) in grind (arith, nat_tests)

  pub idle_signals : (k : ℕ) → ((l : Lock) → h k l ≡ false) → signals h asked i k ≡ false
  idle_signals k none = let e = ap is_signal (quiet (h k) (locks_beside asked) none) in grind (arith, nat_tests)
