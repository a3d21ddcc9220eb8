-- What is said of locks on cells and on policies alike. A set of slots is a test of each slot.
use Rattle.std.specs.Prelude.{◌≡◌, ℕ, Bool, true, false, cond, not, ◌&&◌, ◌||◌, ◌==◌, List}
use Rattle.std.specs.List.{list_any}
use Rattle.locking.specs.Modes.{same_answer}
use Rattle.locking.specs.declared.mode.LockAnswer.{LockAnswer}
use Rattle.locking.specs.declared.mode.LockAnswer.TheVariants.{Compatible, Conflict, Signal}

-- Beside a slot of the first set, no other slot is in the second.
abbrev pub Beside : (ℕ → Bool) → (ℕ → Bool) → Type 0
Beside p q = (j k : ℕ) → (p j && q k) ≡ true → k ≡ j

-- The holders of a lock when a slot has come to it, if this is the lock: it joins them where many may hold the lock, and else takes their place.
abbrev pub put : Bool → Bool → (ℕ → Bool) → ℕ → ℕ → Bool
put this many holders slot k = cond this (k == slot || (many && holders k)) (holders k)

-- Whether slot k holds a lock that says this answer: it is one of the holders, and that is what their lock says.
abbrev pub says_so : (ℕ → Bool) → LockAnswer → LockAnswer → ℕ → Bool
says_so holders said answer k = holders k && same_answer said answer

-- Whether slot k counts: it is another than the asker, who does not hold the lock yet.
abbrev pub counts : Bool → ℕ → ℕ → Bool
counts holds_already asker k = not holds_already && not (k == asker)

-- The asker waits for these slots, and there are some.
pub record Waits (conflicts blockers : ℕ → Bool) : Type 0 where
  pub exact : (k : ℕ) → blockers k ≡ conflicts k
  pub somebody : ((k : ℕ) → conflicts k ≡ false) → ⊥

-- Of the modes that there are, what a held one says to an asked one, and who holds which lock.
module _ {M : Type 0} (says : M → M → LockAnswer) where
  -- Whether many slots may hold the lock at once, as it goes with itself.
  abbrev pub shared : M → Bool
  shared m = same_answer (says m m) Compatible

  -- Unless the slot holds the lock already, the locks that do not go with it are the slot's own.
  abbrev pub IsFree : (M → ℕ → Bool) → M → ℕ → Type 0
  IsFree holds asked slot =
      (m : M) (k : ℕ) → same_answer (says m asked) Compatible ≡ false → holds asked slot ≡ false → holds m k ≡ true → k ≡ slot

  -- Whether some lock that slot k holds says this answer to the lock asked for.
  unfoldable pub some_says : List M → (M → ℕ → Bool) → LockAnswer → M → ℕ → Bool
  some_says modes holds answer asked k = list_any (λ m. says_so (holds m) (says m asked) answer k) modes

  -- The same of the slots that count. A slot's own locks never count against it, and no lock does where it holds the one asked for already.
  abbrev pub hears : List M → (M → ℕ → Bool) → LockAnswer → M → ℕ → ℕ → Bool
  hears modes holds answer asked asker k = counts (holds asked asker) asker k && some_says modes holds answer asked k

-- The lock is granted: nobody says no, those who say signal lose their locks, and the asker has the one that it asked for.
pub record LockGranted {M : Type 0} (same : M → M → Bool) (says : M → M → LockAnswer) (modes : List M) (holds : M → ℕ → Bool) (asked : M) (asker : ℕ) (after : M → ℕ → Bool) (struck : ℕ → Bool) : Type 0 where
  pub nobody_conflicts : (k : ℕ) → hears says modes holds Conflict asked asker k ≡ false
  pub signals_struck : (k : ℕ) → struck k ≡ hears says modes holds Signal asked asker k
  pub locks_after : (m : M) (k : ℕ) → after m k ≡ ((same m asked && k == asker) || (holds m k && not (struck k)))
