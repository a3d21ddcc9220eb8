-- From the decision on one row to the decision on the table.
use Rattle.std.proofs.Common.{◌≡◌, ℕ, ◌<◌, Bool, true, false, not, ◌&&◌, ◌||◌, eqb, ◌≢◌, ◌⊎◌, List, length, get_or, set, sym, refl, ap, ◌∙◌, subst, inl, inr, arith}
use Rattle.std.specs.Prelude.{map}
use Rattle.std.proofs.lemmas.List.{get_or-set_same, get_or-set_other}
use Rattle.std.proofs.lemmas.Bool.{cases_eq, eq-eqb, ne_eqb}
use Rattle.std.proofs.lemmas.Bool.Decides.{nat_tests}
use Rattle.locking.specs.Locks.{counts, hears, LockGranted, Waits}
use Rattle.locking.specs.declared.mode.LockAnswer.{LockAnswer}
use Rattle.locking.specs.declared.mode.LockAnswer.TheVariants.{Conflict, Signal}
use Rattle.serial.specs.Locks.{Lock, says, locks_beside, held_say}
use Rattle.serial.specs.Model.{is_conflict, is_signal}
use Rattle.lock_table.specs.Held.{conflicts, signals}
use Rattle.lock_table.proofs.Says.{mode_conflict, mode_signal}

-- where the slot counts and says nothing else
and_if : (b x y z : Bool) → (b && x) ≡ false → (x ≡ false → y ≡ z) → (b && y) ≡ (b && z)
and_if false x y z e f = refl
and_if true x y z e f = f e

-- What is said of one cell or policy, whose locks are named by their modes
module _ {M : Type 0} (on : M → Lock) (modes : List M) (say : M → M → LockAnswer) (beside : (m : M) → locks_beside (on m) ≡ map on modes) (same_says : (m n : M) → says (on m) (on n) ≡ say m n) (holds : ℕ → Lock → Bool) (asked : M) (asker : ℕ) where
  abbrev row_holds : M → ℕ → Bool
  row_holds n j = holds j (on n)

  heard : (k : ℕ) → hears say modes row_holds Conflict asked asker k ≡ conflicts holds (on asked) asker k
  heard k = ap (λ x. counts (holds asker (on asked)) asker k && x) (sym (ap (λ ls. is_conflict (held_say (holds k) (on asked) ls)) (beside asked) ∙ mode_conflict on say same_says holds k asked modes))

  pub waits : {b : ℕ → Bool} → Waits (hears say modes row_holds Conflict asked asker) b → Waits (conflicts holds (on asked) asker) b
  waits w = record { exact = λ k. w.exact k ∙ heard k; somebody = λ none. w.somebody (λ k. heard k ∙ none k) }

  pub quiet : ((k : ℕ) → hears say modes row_holds Conflict asked asker k ≡ false) → (k : ℕ) → conflicts holds (on asked) asker k ≡ false
  quiet none k = sym (heard k) ∙ none k

  pub strikes : ((k : ℕ) → hears say modes row_holds Conflict asked asker k ≡ false) → (k : ℕ) → hears say modes row_holds Signal asked asker k ≡ signals holds (on asked) asker k
  strikes none k =
      sym (and_if (counts (holds asker (on asked)) asker k) _ _ _ (quiet none k)
      (λ no. ap (λ ls. is_signal (held_say (holds k) (on asked) ls)) (beside asked)
      ∙ mode_signal on say same_says holds k asked modes (sym (ap (λ ls. is_conflict (held_say (holds k) (on asked) ls)) (beside asked)) ∙ no)))

same_row : (a b h s : Bool) (p : ℕ) → ((a && b) || (h && not s)) ≡ ((a && eqb p p && b) || (h && not (s && eqb p p)))
same_row a b h s p = let e = eq-eqb p p refl in grind (arith, nat_tests)

other_row : (a b h s : Bool) (q p : ℕ) → q ≢ p → h ≡ ((a && eqb q p && b) || (h && not (s && eqb q p)))
other_row a b h s q p ne = let e = ne_eqb q p ne in grind (arith, nat_tests)

-- Of some rows, the lock on one is granted, and the struck lose their locks there.
module _ {R M : Type 0} (same : M → M → Bool) (say : M → M → LockAnswer) (modes : List M) (holds : R → M → ℕ → Bool) (none : R) (rows : List R) (at : ℕ) (row : R) (asked : M) (asker : ℕ) (struck : ℕ → Bool) where
  pub rows_after : at < length rows → LockGranted same say modes (holds (get_or rows at none)) asked asker (holds row) struck
      → (n : M) (i k : ℕ) → holds (get_or (set rows at row) i none) n k ≡ ((same n asked && eqb i at && eqb k asker) || (holds (get_or rows i none) n k && not (struck k && eqb i at)))
  rows_after lt g n i k = on_row (cases_eq i at)
    where
      on_row : (i ≡ at) ⊎ (i ≢ at) → holds (get_or (set rows at row) i none) n k ≡ ((same n asked && eqb i at && eqb k asker) || (holds (get_or rows i none) n k && not (struck k && eqb i at)))
      on_row (inl e) =
          subst (λ x. holds (get_or (set rows at row) x none) n k ≡ ((same n asked && eqb x at && eqb k asker) || (holds (get_or rows x none) n k && not (struck k && eqb x at)))) (sym e)
          (ap (λ r. holds r n k) (get_or-set_same rows at row none lt) ∙ g.locks_after n k ∙ same_row (same n asked) (eqb k asker) (holds (get_or rows at none) n k) (struck k) at)
      on_row (inr ne) = ap (λ r. holds r n k) (get_or-set_other rows at i row none ne) ∙ other_row (same n asked) (eqb k asker) (holds (get_or rows i none) n k) (struck k) i at ne
