-- What the locks of two transactions say to one another.
use Rattle.std.proofs.Common.{◌≡◌, ℕ, Bool, true, false, cond, ◌⊎◌, List, [], ◌∷◌, None, ⊎_elim, arith}
use Rattle.std.proofs.lemmas.Bool.{cond_both}
use Rattle.std.proofs.lemmas.Bool.Decides.{nat_tests}
use Rattle.locking.specs.declared.mode.CellMode.TheVariants.{ReadCell, WriteCell}
use Rattle.locking.specs.declared.mode.PolicyMode.{PolicyMode}
use Rattle.locking.specs.declared.mode.PolicyMode.TheVariants.{Restrict, Deploy}
use Rattle.locking.specs.declared.mode.LockAnswer.{LockAnswer}
use Rattle.locking.specs.declared.mode.LockAnswer.TheVariants.{Compatible, Conflict, Signal}
use Rattle.locking.specs.Modes.{policy_says}
use Rattle.serial.specs.Words.{Member}
use Rattle.serial.specs.Locks.{Lock, OnCell, OnPolicy, says, locks_beside, worse, held_say}
use Rattle.serial.specs.Model.{Slot, open_slot, Transaction, verdict, is_signal, is_conflict, find, blocker}

-- Two transactions may hold these two: whichever came last found the other compatible.
abbrev pub Coexist : Lock → Lock → Type 0
Coexist l m = (says m l ≡ Compatible) ⊎ (says l m ≡ Compatible)

worse_both : (a b : LockAnswer) → worse a b ≡ Compatible → (a ≡ Compatible) × (b ≡ Compatible)
worse_both a b e = grind arith

worse_either : (a b : LockAnswer) → worse a b ≡ Signal → (a ≡ Signal) ⊎ (b ≡ Signal)
worse_either a b e = grind arith

held_say_ok : (holds : Lock → Bool) (l m : Lock) (ms : List Lock) → held_say holds l ms ≡ Compatible → Member m ms → holds m ≡ true → says m l ≡ Compatible
unfolding held_say
held_say_ok holds l m [] e i h = absurd i
held_say_ok holds l m (k ∷ ms) e i h =
    let w = worse_both (cond (holds k) (says k l) Compatible) (held_say holds l ms) e in
    ⊎_elim (λ q. cc) (λ i. held_say_ok holds l m ms w.1 i h) i

held_say_signal : (holds : Lock → Bool) (l : Lock) (ms : List Lock) → held_say holds l ms ≡ Signal → (m : Lock) × (holds m ≡ true) × (says m l ≡ Signal)
unfolding held_say
held_say_signal holds l [] e = cc
held_say_signal holds l (k ∷ ms) e =
    ⊎_elim
    (λ a. cond_both (holds k) (says k l) Compatible (λ z. z ≡ Signal → (m : Lock) × (holds m ≡ true) × (says m l ≡ Signal)) (λ h s. (k, h, s)) (λ h s. cc) a)
    (λ b. held_say_signal holds l ms b)
    (worse_either (cond (holds k) (says k l) Compatible) (held_say holds l ms) e)

beside : (m l : Lock) → Member m (locks_beside l) ⊎ (says m l ≡ Compatible)
beside m l = grind (arith, nat_tests)

pub verdict_ok : (x y : Transaction) (l m : Lock) → x.holds l ≡ false → (x.number ≡ y.number → ⊥) → verdict x l y ≡ Compatible → y.holds m ≡ true → says m l ≡ Compatible
unfolding verdict
verdict_ok x y l m h d e k = grind (arith, nat_tests, beside m l, held_say_ok y.holds l m (locks_beside l))

pub neither : (a : LockAnswer) → is_conflict a ≡ false → is_signal a ≡ false → a ≡ Compatible
neither a c s = grind arith

-- only a held deploy lock signals, and only to a restrict lock of its policy
pub says_signal : (m l : Lock) → says m l ≡ Signal → (p : ℕ) × (m ≡ OnPolicy Deploy p) × (l ≡ OnPolicy Restrict p)
says_signal m l e = grind (arith, nat_tests)

-- what it takes for a transaction to be signalled
pub record Signalled (x : Transaction) (l : Lock) (y : Transaction) : Type 0 where
  pub policy : ℕ
  pub asked : l ≡ OnPolicy Restrict policy
  pub deployed : y.holds (OnPolicy Deploy policy) ≡ true
  pub new : x.holds l ≡ false
  pub other : x.number ≡ y.number → ⊥

pub signal_means : (x y : Transaction) (l : Lock) → is_signal (verdict x l y) ≡ true → Signalled x l y
unfolding verdict
signal_means x y l e = grind (arith, nat_tests, held_say_signal y.holds l (locks_beside l), says_signal)

-- and that it suffices
pub signalled_if : (x y : Transaction) (p : ℕ) → x.holds (OnPolicy Restrict p) ≡ false → (x.number ≡ y.number → ⊥)
    → y.holds (OnPolicy Deploy p) ≡ true → is_conflict (verdict x (OnPolicy Restrict p) y) ≡ false → is_signal (verdict x (OnPolicy Restrict p) y) ≡ true
signalled_if x y p h d k c = grind (arith, nat_tests, verdict_ok x y (OnPolicy Restrict p) (OnPolicy Deploy p) h d)

pub unblocked : (x : Transaction) (l : Lock) (slots : List Slot) → blocker x l slots ≡ None → (u : ℕ) (y : Transaction) → find u slots ≡ open_slot y → is_conflict (verdict x l y) ≡ false
unfolding blocker find
unblocked x l [] e u y f = cc
unblocked x l (s ∷ ss) e u y f = grind (arith, unblocked x l ss)

-- The pairs that do not coexist

-- locks that say no to one another
pub no_and_no : {A : Type 0} (m k : PolicyMode) (p : ℕ) → policy_says k m ≡ Conflict → policy_says m k ≡ Conflict → Coexist (OnPolicy m p) (OnPolicy k p) → A
no_and_no m k p a b e = absurd (grind (arith, nat_tests))

pub write_read : {A : Type 0} (c : ℕ) → Coexist (OnCell WriteCell c) (OnCell ReadCell c) → A
write_read c e = absurd (grind (arith, nat_tests))

pub restrict_deploy : {A : Type 0} (p : ℕ) → Coexist (OnPolicy Restrict p) (OnPolicy Deploy p) → A
restrict_deploy p e = absurd (grind (arith, nat_tests))
