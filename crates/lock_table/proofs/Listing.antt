-- The lists of the slots, as a lock is granted.
use Rattle.std.proofs.Common.{◌≡◌, ℕ, ◌<◌, Bool, true, false, not, ◌&&◌, ◌||◌, eqb, ◌⊎◌, List, length, get_or, set, Option, Some, None, Err, sym, subst, ap₂, ◌∙◌, ap, inl, inr, ⊎_elim, arith}
use Rattle.std.specs.List.{list_any}
use Rattle.std.specs.Option.{MatchOption}
use Rattle.std.proofs.lemmas.Bool.{cases_eq, cases_lt, cases_Bool, and_parts, both_ways, eqb-true, lt-ltb, true≢false}
use Rattle.std.proofs.lemmas.Bool.Decides.{nat_tests}
use Rattle.std.proofs.lemmas.List.{get_or_past, get_or-set_same, get_or-set_other}
use Rattle.locking.specs.CellLocks.{cell_holds, no_cell}
use Rattle.locking.specs.PolicyLocks.{policy_holds, no_policy}
use Rattle.locking.specs.CellLaws.{cell_one_mode, no_cell_held}
use Rattle.locking.specs.PolicyLaws.{policy_one_mode, no_policy_held}
use Rattle.locking.specs.declared.cell.CellRow.{CellRow}
use Rattle.locking.specs.declared.policy.PolicyRow.{PolicyRow}
use Rattle.serial.specs.Locks.{Lock, OnCell, OnPolicy, same_lock}
use Rattle.lock_table.specs.Rows.{held_by}
use Rattle.lock_table.specs.Held.{has_row, Granted, AskedOnRow, GrantedOnRow}
use Rattle.lock_table.specs.Lists.{Listed, Covers, may_hold, no_list, on_one_row}
use Rattle.lock_table.specs.declared.lock_list.LockList.{LockList}
use Rattle.lock_table.specs.declared.not_granted.NotGranted.{NotGranted}
use Rattle.lock_table.specs.declared.not_granted.NotGranted.TheVariants.{Absent, Blocked}

-- the slice of a slot's list
pub listed_covers : {X : Type 0} (locks_of : X → List Lock) (cs : List CellRow) (ps : List PolicyRow) (ls : List LockList) (k at : ℕ) (r : Option X) → Listed cs ps ls → k < 16 → at ≡ k
    → MatchOption r (32 < (get_or ls at no_list).count) (λ x. (l : Lock) → may_hold (get_or ls at no_list) l ≡ list_any (on_one_row l) (locks_of x))
    → MatchOption r (32 < (get_or ls k no_list).count) (λ x. Covers (locks_of x) (held_by cs ps k))
listed_covers locks_of cs ps ls k at None listed lt is many = subst (λ j. 32 < (get_or ls j no_list).count) is many
listed_covers locks_of cs ps ls k at (Some x) listed lt is whole = λ l held. sym (whole l) ∙ ap (λ j. may_hold (get_or ls j no_list) l) is ∙ listed.of_slot k l lt held

same_is : (l m : Lock) → same_lock l m ≡ true → l ≡ m
same_is (OnCell a i) (OnCell b j) e = let p = and_parts _ _ e in ap₂ OnCell (cell_one_mode a b p.0) (eqb-true i j p.1)
same_is (OnCell a i) (OnPolicy b j) e = absurd (true≢false (sym e))
same_is (OnPolicy a i) (OnCell b j) e = absurd (true≢false (sym e))
same_is (OnPolicy a i) (OnPolicy b j) e = let p = and_parts _ _ e in ap₂ OnPolicy (policy_one_mode a b p.0) (eqb-true i j p.1)

pub one_row : (l : Lock) → on_one_row l l ≡ true
one_row (OnCell a i) = grind (arith, nat_tests)
one_row (OnPolicy a i) = grind (arith, nat_tests)

pub rows_stay : (cs cs' : List CellRow) (ps ps' : List PolicyRow) (lock : Lock) (i : ℕ) (e : NotGranted) → AskedOnRow cs ps lock i (Err e) cs' ps' → (cs' ≡ cs) × (ps' ≡ ps)
rows_stay cs cs' ps ps' lock i (Blocked blocked) (there, waits, is, is') = (is, is')
rows_stay cs cs' ps ps' lock i Absent (none, is, is') = (is, is')

module _ (cs cs' : List CellRow) (ps ps' : List PolicyRow) (ls : List LockList) (asked : Lock) (i : ℕ) (struck : ℕ → Bool) (granted : GrantedOnRow (held_by cs ps) asked i (held_by cs' ps') struck) (old : Listed cs ps ls) where
  -- where the lock is listed, and what was listed before
  listed_all : (ls' : List LockList) → ((k : ℕ) (l : Lock) → may_hold (get_or ls k no_list) l ≡ true → may_hold (get_or ls' k no_list) l ≡ true) → may_hold (get_or ls' i no_list) asked ≡ true → Listed cs' ps' ls'
  listed_all ls' more new = record { of_slot = each }
    where
      each : (k : ℕ) (l : Lock) → k < 16 → held_by cs' ps' k l ≡ true → may_hold (get_or ls' k no_list) l ≡ true
      each k l lt held = go (cases_Bool (same_lock l asked && eqb k i))
        where
          go : ((same_lock l asked && eqb k i) ≡ true) ⊎ ((same_lock l asked && eqb k i) ≡ false) → may_hold (get_or ls' k no_list) l ≡ true
          go (inl e) =
              let p = and_parts _ _ e in
              ap₂ (λ j m. may_hold (get_or ls' j no_list) m) (eqb-true k i p.1) (same_is l asked p.0) ∙ new
          go (inr e) =
              let after = sym (granted.locks_after k l) ∙ held in
              let before : held_by cs ps k l ≡ true = grind (arith, nat_tests) in
              more k l (old.of_slot k l lt before)

  -- it comes to its slot's list
  pub listed_more : (at : ℕ) (list : LockList) → at ≡ i → at < length ls → ((l : Lock) → (may_hold (get_or ls at no_list) l || on_one_row l asked) ≡ true → may_hold list l ≡ true) → Listed cs' ps' (set ls at list)
  listed_more at list is lt more = listed_all (set ls at list) grown (ap (λ j. may_hold (get_or (set ls at list) j no_list) asked) (sym is) ∙ here asked ∙ more asked (let e = one_row asked in grind (arith, nat_tests)))
    where
      here : (l : Lock) → may_hold (get_or (set ls at list) at no_list) l ≡ may_hold list l
      here l = ap (λ x. may_hold x l) (get_or-set_same ls at list no_list lt)

      kept : (l : Lock) → may_hold (get_or ls at no_list) l ≡ true → may_hold list l ≡ true
      kept l h = more l (grind (arith, nat_tests))

      grown : (k : ℕ) (l : Lock) → may_hold (get_or ls k no_list) l ≡ true → may_hold (get_or (set ls at list) k no_list) l ≡ true
      grown k l h =
          ⊎_elim
          (λ (e : k ≡ at). ap (λ j. may_hold (get_or (set ls at list) j no_list) l) e ∙ here l ∙ kept l (ap (λ j. may_hold (get_or ls j no_list) l) (sym e) ∙ h))
          (λ ne. ap (λ x. may_hold x l) (get_or-set_other ls at k list no_list ne) ∙ h)
          (cases_eq k at)

-- Where it is held already, there is a row for it.
pub held_row : (cs : List CellRow) (ps : List PolicyRow) (k : ℕ) (l : Lock) → length cs ≡ 256 → length ps ≡ 64 → held_by cs ps k l ≡ true → has_row l ≡ true
held_row cs ps k (OnCell m c) celled policed held =
    ⊎_elim (λ lt. lt-ltb c 256 lt)
    (λ le. absurd (both_ways _ (ap (λ row. cell_holds row m k) (get_or_past cs c no_cell (omega (arith, celled, le))) ∙ no_cell_held m k) held))
    (cases_lt c 256)
held_row cs ps k (OnPolicy m p) celled policed held =
    ⊎_elim (λ lt. lt-ltb p 64 lt)
    (λ le. absurd (both_ways _ (ap (λ row. policy_holds row m k) (get_or_past ps p no_policy (omega (arith, policed, le))) ∙ no_policy_held m k) held))
    (cases_lt p 64)

-- A lock that is held already is granted, and nothing changes.
pub granted_again : (cs : List CellRow) (ps : List PolicyRow) (lock : Lock) (i : ℕ) (struck : ℕ → Bool) → held_by cs ps i lock ≡ true → ((k : ℕ) → struck k ≡ false) → Granted (held_by cs ps) lock i (held_by cs ps) struck
granted_again cs ps lock i struck held nobody = record {
  nobody_conflicts = λ k. grind (arith, nat_tests);
  signals_struck = λ k. let none = nobody k in grind (arith, nat_tests);
  locks_after = λ k l. stays (same_lock l lock) (eqb k i) (held_by cs ps k l) (struck k) (nobody k) (λ e f. ap₂ (held_by cs ps) (eqb-true k i f) (same_is l lock e) ∙ held);
}
  where
    stays : (a b h s : Bool) → s ≡ false → (a ≡ true → b ≡ true → h ≡ true) → h ≡ ((a && b) || (h && not s))
    stays a b h s none own = grind (arith, nat_tests)
