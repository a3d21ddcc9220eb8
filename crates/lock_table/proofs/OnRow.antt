-- From what asking on a row comes to, on a cell and on a policy, to what it comes to on the table.
use Rattle.std.proofs.Common.{◌≡◌, ℕ, ◌<◌, ◌≤◌, Bool, false, cond, not, ◌&&◌, ◌||◌, eqb, ltb, ⊎_elim, List, [], ◌∷◌, length, get_or, Ok, Err, Result, refl, ap, ◌∙◌, arith}
use denote.Enum.Bare.{sameb}
use Rattle.std.proofs.lemmas.Bool.{cases_lt, eq-eqb, lt-ltb}
use Rattle.std.proofs.lemmas.Bool.Decides.{nat_tests}
use Rattle.locking.specs.Slots.{has}
use Rattle.locking.specs.Modes.{cell_says, policy_says}
use Rattle.locking.specs.CellLocks.{cell_holds, no_cell}
use Rattle.locking.specs.PolicyLocks.{policy_holds, no_policy}
use Rattle.locking.specs.contracts.cell.CellRowLockRow.TheImpl as cell_row
use Rattle.locking.specs.contracts.policy.PolicyRowLockRow.TheImpl as policy_row
use Rattle.locking.specs.contracts.mode.CellMode as cell
use Rattle.locking.specs.contracts.mode.PolicyMode as policy
use Rattle.locking.specs.declared.mode.LockAnswer.{LockAnswer}
use Rattle.locking.specs.declared.mode.LockAnswer.TheVariants.{Compatible}
use Rattle.locking.specs.declared.mode.CellMode.{CellMode}
use Rattle.locking.specs.declared.mode.CellMode.TheVariants.{ReadCell, WriteCell}
use Rattle.locking.specs.declared.mode.PolicyMode.{PolicyMode}
use Rattle.locking.specs.declared.mode.PolicyMode.TheVariants.{ReadPolicy, Relax, Restrict, Deploy}
use Rattle.locking.specs.declared.cell.CellRow.{CellRow}
use Rattle.locking.specs.declared.policy.PolicyRow.{PolicyRow}
use Rattle.locking.specs.declared.slot_set.SlotSet.{SlotSet}
use Rattle.serial.specs.Locks.{Lock, OnCell, OnPolicy, same_lock}
use Rattle.lock_table.specs.Asked.{RowAsked}
use Rattle.lock_table.specs.Rows.{Compatible as AllCompatible, held_by}
use Rattle.lock_table.specs.Lists.{on_one_row}
use Rattle.lock_table.specs.Held.{AskedOnRow}
use Rattle.lock_table.specs.declared.not_granted.NotGranted.{NotGranted}
use Rattle.lock_table.specs.declared.not_granted.NotGranted.TheVariants.{Absent, Blocked}
use Rattle.lock_table.proofs.Asking.{waits, quiet, strikes, rows_after}

-- Locks on one object say what their modes say.
on_one : (i : ℕ) (s : LockAnswer) → cond (eqb i i) s Compatible ≡ s
on_one i s = ap (λ b. cond b s Compatible) (eq-eqb i i refl)

no_row : (i n : ℕ) → (i < n → ⊥) → ltb i n ≡ false
no_row i n e = ⊎_elim (λ lt. absurd (e lt)) (λ (le : n ≤ i). grind (arith, nat_tests)) (cases_lt i n)

-- a lock of the other kind
other_kind : (h s : Bool) → h ≡ (h && not (s && false))
other_kind h s = grind (arith, nat_tests)

-- The machine's locks have two cases, and who holds them computes in each alone: so this once for either.
pub cell_asked : (cs cs' : List CellRow) (ps : List PolicyRow) (m : CellMode) (c i : ℕ) (r : Result SlotSet NotGranted) → AllCompatible cs ps → length cs ≡ 256
    → RowAsked cell_row.ghosts (sameb cell.the_type) cs c m i r cs' → AskedOnRow cs ps (OnCell m c) i r cs' ps
cell_asked cs cs' ps m c i (Ok struck) all long (lt, (row, is, fits, g)) = (
  lt-ltb c 256 (omega arith),
  record {
    nobody_conflicts = quiet (λ n. OnCell n c) (ReadCell ∷ WriteCell ∷ []) cell_says (λ n. refl) (λ n o. on_one c (cell_says n o)) (held_by cs ps) m i g.nobody_conflicts;
    signals_struck = λ k. g.signals_struck k ∙ strikes (λ n. OnCell n c) (ReadCell ∷ WriteCell ∷ []) cell_says (λ n. refl) (λ n o. on_one c (cell_says n o)) (held_by cs ps) m i g.nobody_conflicts k;
    locks_after = after;
  },
)
  where
    after : (k : ℕ) (l : Lock) → held_by cs' ps k l ≡ ((same_lock l (OnCell m c) && eqb k i) || (held_by cs ps k l && not (has struck.mask k && on_one_row l (OnCell m c))))
    after k (OnCell n d) =
        ap (λ cells. cell_holds (get_or cells d no_cell) n k) is ∙ rows_after (sameb cell.the_type) cell_says (ReadCell ∷ WriteCell ∷ []) cell_holds no_cell cs c row m i (has struck.mask) lt g n d k
    after k (OnPolicy n q) = other_kind (policy_holds (get_or ps q no_policy) n k) (has struck.mask k)
cell_asked cs cs' ps m c i (Err (Blocked blocked)) all long (lt, w, is) = (
  lt-ltb c 256 (omega arith),
  waits (λ n. OnCell n c) (ReadCell ∷ WriteCell ∷ []) cell_says (λ n. refl) (λ n o. on_one c (cell_says n o)) (held_by cs ps) m i w,
  is,
  refl,
)
cell_asked cs cs' ps m c i (Err Absent) all long (absent, is) = (no_row c 256 (λ lt. absent (omega arith) (all.of_cell c)), is, refl)

pub policy_asked : (cs : List CellRow) (ps ps' : List PolicyRow) (m : PolicyMode) (p i : ℕ) (r : Result SlotSet NotGranted) → AllCompatible cs ps → length ps ≡ 64
    → RowAsked policy_row.ghosts (sameb policy.the_type) ps p m i r ps' → AskedOnRow cs ps (OnPolicy m p) i r cs ps'
policy_asked cs ps ps' m p i (Ok struck) all long (lt, (row, is, fits, g)) = (
  lt-ltb p 64 (omega arith),
  record {
    nobody_conflicts = quiet (λ n. OnPolicy n p) (ReadPolicy ∷ Relax ∷ Restrict ∷ Deploy ∷ []) policy_says (λ n. refl) (λ n o. on_one p (policy_says n o)) (held_by cs ps) m i g.nobody_conflicts;
    signals_struck = λ k. g.signals_struck k ∙ strikes (λ n. OnPolicy n p) (ReadPolicy ∷ Relax ∷ Restrict ∷ Deploy ∷ []) policy_says (λ n. refl) (λ n o. on_one p (policy_says n o)) (held_by cs ps) m i g.nobody_conflicts k;
    locks_after = after;
  },
)
  where
    after : (k : ℕ) (l : Lock) → held_by cs ps' k l ≡ ((same_lock l (OnPolicy m p) && eqb k i) || (held_by cs ps k l && not (has struck.mask k && on_one_row l (OnPolicy m p))))
    after k (OnCell n d) = other_kind (cell_holds (get_or cs d no_cell) n k) (has struck.mask k)
    after k (OnPolicy n q) =
        ap (λ policies. policy_holds (get_or policies q no_policy) n k) is
        ∙ rows_after (sameb policy.the_type) policy_says (ReadPolicy ∷ Relax ∷ Restrict ∷ Deploy ∷ []) policy_holds no_policy ps p row m i (has struck.mask) lt g n q k
policy_asked cs ps ps' m p i (Err (Blocked blocked)) all long (lt, w, is) = (
  lt-ltb p 64 (omega arith),
  waits (λ n. OnPolicy n p) (ReadPolicy ∷ Relax ∷ Restrict ∷ Deploy ∷ []) policy_says (λ n. refl) (λ n o. on_one p (policy_says n o)) (held_by cs ps) m i w,
  refl,
  is,
)
policy_asked cs ps ps' m p i (Err Absent) all long (absent, is) = (no_row p 64 (λ lt. absent (omega arith) (all.of_policy p)), refl, is)
