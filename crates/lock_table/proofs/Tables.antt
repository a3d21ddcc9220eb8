-- The rows of a table, one by one.
use Rattle.std.proofs.Common.{◌≡◌, ℕ, ◌<◌, ◌≤◌, Bool, false, ◌≢◌, ◌⊎◌, List, length, get_or, set, replicate, Ok, Err, Result, sym, ap, subst, inl, inr, arith}
use mathlib.Core.HLevel.{Σ_prop_path}
use Rattle.std.proofs.Props.{props}
use Rattle.std.proofs.lemmas.List.{get_or_past, get_or-replicate, get_or-set_same, get_or-set_other, length-set, length-replicate}
use Rattle.std.proofs.lemmas.Bool.{cases_lt, cases_eq, both_ways}
use Rattle.locking.specs.CellLocks.{cell_holds, CellCompatible, no_cell}
use Rattle.locking.specs.PolicyLocks.{policy_holds, PolicyCompatible, no_policy}
use Rattle.locking.specs.CellLaws.{no_cell_held, no_cell_fits}
use Rattle.locking.specs.PolicyLaws.{no_policy_held, no_policy_fits}
use Rattle.locking.specs.declared.row.LockRow.{Ghosts}
use Rattle.locking.specs.declared.slot_set.SlotSet.{SlotSet}
use Rattle.locking.specs.declared.mode.CellMode.{CellMode}
use Rattle.locking.specs.declared.mode.PolicyMode.{PolicyMode}
use Rattle.locking.specs.declared.cell.CellRow.{CellRow}
use Rattle.locking.specs.declared.policy.PolicyRow.{PolicyRow}
use Rattle.serial.specs.Locks.{Lock, OnCell, OnPolicy}
use Rattle.lock_table.specs.Rows.{Compatible, Compatible-prop, held_by}
use Rattle.lock_table.specs.Lists.{Listed, Listed-prop}
use Rattle.lock_table.specs.Asked.{RowAsked}
use Rattle.lock_table.specs.declared.lock_list.LockList.{LockList}
use Rattle.lock_table.specs.declared.lock_table.LockTable.{LockTable}
use Rattle.lock_table.specs.declared.not_granted.NotGranted.{NotGranted}
use Rattle.lock_table.specs.declared.not_granted.NotGranted.TheVariants.{Absent, Blocked}

-- all rows alike
all_alike : {X : Type 0} (P : X → Type 0) (n i : ℕ) (x d : X) → P x → P d → P (get_or (replicate n x) i d)
all_alike P n i x d at_x at_d = go (cases_lt i n)
  where
    go : (i < n) ⊎ (n ≤ i) → P (get_or (replicate n x) i d)
    go (inl h) = subst P (sym (get_or-replicate n i x d h)) at_x
    go (inr h) = subst P (sym (get_or_past (replicate n x) i d (omega (arith, length-replicate n x)))) at_d

module _ (r : CellRow) (s : PolicyRow) where
  pub alike_fit : CellCompatible r → PolicyCompatible s → Compatible (replicate 256 r) (replicate 64 s)
  alike_fit e f = record {
    of_cell = λ c. all_alike CellCompatible 256 c r no_cell e no_cell_fits;
    of_policy = λ p. all_alike PolicyCompatible 64 p s no_policy f no_policy_fits;
  }

  pub alike_held : ((m : CellMode) (k : ℕ) → cell_holds r m k ≡ false) → ((m : PolicyMode) (k : ℕ) → policy_holds s m k ≡ false)
      → (k : ℕ) (lock : Lock) → held_by (replicate 256 r) (replicate 64 s) k lock ≡ false
  alike_held e f k (OnCell m c) = all_alike (λ row. cell_holds row m k ≡ false) 256 c r no_cell (e m k) (no_cell_held m k)
  alike_held e f k (OnPolicy m p) = all_alike (λ row. policy_holds row m k ≡ false) 64 p s no_policy (f m k) (no_policy_held m k)

  -- whatever the lists are
  pub alike_listed : ((m : CellMode) (k : ℕ) → cell_holds r m k ≡ false) → ((m : PolicyMode) (k : ℕ) → policy_holds s m k ≡ false) → (lists : List LockList) → Listed (replicate 256 r) (replicate 64 s) lists
  alike_listed e f lists = record { of_slot = λ k lock lt held. absurd (both_ways _ (alike_held e f k lock) held) }

-- one row is another
set_all : {X : Type 0} (P : X → Type 0) (xs : List X) (n : ℕ) (x d : X) → P x → ((i : ℕ) → P (get_or xs i d)) → P d → (i : ℕ) → P (get_or (set xs n x) i d)
set_all P xs n x d new old at_d i = go (cases_eq i n) (cases_lt n (length xs))
  where
    go : (i ≡ n) ⊎ (i ≢ n) → (n < length xs) ⊎ (length xs ≤ n) → P (get_or (set xs n x) i d)
    go (inl e) (inl lt) = subst (λ j. P (get_or (set xs n x) j d)) (sym e) (subst P (sym (get_or-set_same xs n x d lt)) new)
    go (inl e) (inr le) = subst P (sym (get_or_past (set xs n x) i d (omega (arith, e, length-set xs n x)))) at_d
    go (inr ne) w = subst P (sym (get_or-set_other xs n i x d ne)) (old i)

-- one row is asked
module _ {R M : Type 0} (kind : Ghosts R M) (same : M → M → Bool) (rows rows' : List R) (at : ℕ) (asked : M) (asker : ℕ) where
  pub asked_fit : kind.compatible kind.none → (r : Result SlotSet NotGranted) → RowAsked kind same rows at asked asker r rows' → ((i : ℕ) → kind.compatible (get_or rows i kind.none)) → (i : ℕ) → kind.compatible (get_or rows' i kind.none)
  asked_fit fits (Ok struck) (lt, (row, is, new, granted)) old i = subst (λ xs. kind.compatible (get_or xs i kind.none)) (sym is) (set_all kind.compatible rows at row kind.none new old fits i)
  asked_fit fits (Err (Blocked b)) (lt, waits, is) old i = subst (λ xs. kind.compatible (get_or xs i kind.none)) (sym is) (old i)
  asked_fit fits (Err Absent) (absent, is) old i = subst (λ xs. kind.compatible (get_or xs i kind.none)) (sym is) (old i)

-- A table is known by its rows and lists.
pub same_table : (t u : LockTable) → u.cells ≡ t.cells → u.policies ≡ t.policies → u.lists ≡ t.lists → u ≡ t
same_table t u e f g =
    ap table
    (Σ_prop_path {A = List CellRow × List PolicyRow × List LockList} {B = λ x. (length x.0 ≡ 256) × (length x.1 ≡ 64) × (length x.2 ≡ 16) × Compatible x.0 x.1 × Listed x.0 x.1 x.2}
    (λ x. hlevel (props, Compatible-prop, Listed-prop)) (all e f g))
  where
    all : {cs cs' : List CellRow} {ps ps' : List PolicyRow} {ls ls' : List LockList} → cs' ≡ cs → ps' ≡ ps → ls' ≡ ls → ◌≡◌ {A = List CellRow × List PolicyRow × List LockList} (cs', ps', ls') (cs, ps, ls)
    all e f g = cc

    table : ((x : List CellRow × List PolicyRow × List LockList) × ((length x.0 ≡ 256) × (length x.1 ≡ 64) × (length x.2 ≡ 16) × Compatible x.0 x.1 × Listed x.0 x.1 x.2)) → LockTable
    table x = record { cells = x.0.0; policies = x.0.1; lists = x.0.2; celled = x.1.0; policed = x.1.1; slotted = x.1.2; compatible = x.1.3; listed = x.1.4 }
