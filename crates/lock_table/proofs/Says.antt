-- What the locks of one slot say together, in the words of the machine and in those of a lock record.
use Rattle.std.proofs.Common.{◌≡◌, ℕ, Bool, true, false, cond, ◌&&◌, ◌||◌, List, [], ◌∷◌, refl, ap, ◌∙◌, ap₂, arith}
use Rattle.std.specs.List.{list_any}
use Rattle.std.specs.Prelude.{map}
use Rattle.std.proofs.lemmas.Bool.Decides.{nat_tests}
use Rattle.locking.specs.Modes.{same_answer}
use Rattle.locking.specs.Locks.{some_says}
use Rattle.locking.specs.declared.mode.LockAnswer.{LockAnswer}
use Rattle.locking.specs.declared.mode.LockAnswer.TheVariants.{Compatible, Conflict, Signal}
use Rattle.serial.specs.Locks.{Lock, says, worse, held_say}
use Rattle.serial.specs.Model.{is_conflict, is_signal}

-- One lock more, held or not: what it says, and what the others say together.
conflict_one : (b : Bool) (s r : LockAnswer) → is_conflict (worse (cond b s Compatible) r) ≡ ((b && same_answer s Conflict) || is_conflict r)
conflict_one false s r = refl
conflict_one true Compatible r = refl
conflict_one true Conflict r = refl
conflict_one true Signal Compatible = refl
conflict_one true Signal Conflict = refl
conflict_one true Signal Signal = refl

signal_one : (b : Bool) (s r : LockAnswer) → is_conflict (worse (cond b s Compatible) r) ≡ false → is_signal (worse (cond b s Compatible) r) ≡ ((b && same_answer s Signal) || is_signal r)
signal_one false s r e = refl
signal_one true Compatible r e = refl
signal_one true Conflict r e = absurd (let f : ⊥ = grind (arith, nat_tests) in f)
signal_one true Signal Compatible e = refl
signal_one true Signal Conflict e = absurd (let f : ⊥ = grind (arith, nat_tests) in f)
signal_one true Signal Signal e = refl

no_more : (b : Bool) (s r : LockAnswer) → is_conflict (worse (cond b s Compatible) r) ≡ false → is_conflict r ≡ false
no_more b s r e = let f = conflict_one b s r in grind (arith, nat_tests)

module _ (holds : Lock → Bool) (asked : Lock) where
  any_conflict : (ms : List Lock) → is_conflict (held_say holds asked ms) ≡ list_any (λ l. holds l && same_answer (says l asked) Conflict) ms
  unfolding held_say
  any_conflict [] = refl
  any_conflict (l ∷ ls) = conflict_one (holds l) (says l asked) (held_say holds asked ls) ∙ ap (λ r. (holds l && same_answer (says l asked) Conflict) || r) (any_conflict ls)

  -- where none says no
  any_signal : (ms : List Lock) → is_conflict (held_say holds asked ms) ≡ false → is_signal (held_say holds asked ms) ≡ list_any (λ l. holds l && same_answer (says l asked) Signal) ms
  unfolding held_say
  any_signal [] e = refl
  any_signal (l ∷ ls) e =
      signal_one (holds l) (says l asked) (held_say holds asked ls) e
      ∙ ap (λ r. (holds l && same_answer (says l asked) Signal) || r) (any_signal ls (no_more (holds l) (says l asked) (held_say holds asked ls) e))

-- On one cell or policy, whose locks are named by their modes
module _ {M : Type 0} (on : M → Lock) (say : M → M → LockAnswer) (same_says : (m n : M) → says (on m) (on n) ≡ say m n) (holds : ℕ → Lock → Bool) (k : ℕ) (asked : M) where
  by_modes : (answer : LockAnswer) (ms : List M) → list_any (λ l. holds k l && same_answer (says l (on asked)) answer) (map on ms) ≡ some_says say ms (λ n j. holds j (on n)) answer asked k
  unfolding some_says
  by_modes answer [] = refl
  by_modes answer (m ∷ ms) = ap₂ (λ s r. (holds k (on m) && same_answer s answer) || r) (same_says m asked) (by_modes answer ms)

  pub mode_conflict : (ms : List M) → is_conflict (held_say (holds k) (on asked) (map on ms)) ≡ some_says say ms (λ n j. holds j (on n)) Conflict asked k
  mode_conflict ms = any_conflict (holds k) (on asked) (map on ms) ∙ by_modes Conflict ms

  -- where none says no
  pub mode_signal : (ms : List M) → is_conflict (held_say (holds k) (on asked) (map on ms)) ≡ false → is_signal (held_say (holds k) (on asked) (map on ms)) ≡ some_says say ms (λ n j. holds j (on n)) Signal asked k
  mode_signal ms quiet = any_signal (holds k) (on asked) (map on ms) quiet ∙ by_modes Signal ms
