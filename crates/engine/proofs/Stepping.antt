-- The engine's tables and stores over a call.
use Rattle.std.proofs.Common.{◌≡◌, ℕ, ◌+◌, ◌≤◌, List, map, length, Some, None, Err, sym, refl, ap, ◌∙◌, add-one}
use Rattle.std.proofs.lemmas.List.{take_all}
use Rattle.protocol.specs.declared.answer.Answer.TheVariants.{Granted}
use Rattle.protocol.specs.declared.policy.Object.{Object}
use Rattle.protocol.specs.declared.policy.Object.TheVariants.{OfCell, OfPolicy}
use Rattle.serial.specs.Words.{Setup, Store, Call, Deploys, Reads, Writes, Shows, Sets}
use Rattle.serial.specs.Changes.{apply}
use Rattle.serial.specs.Locks.{Lock}
use Rattle.serial.specs.Model.{State, Slot, Transaction as ModelTransaction, open_slot, judge, lock_for, strike, replace, advance, with_slots, call_in, commit_in}
use Rattle.slot_table.specs.Edits.{with_change}
use Rattle.slot_table.specs.declared.slot.OpenSlot.{OpenSlot}
use Rattle.engine.specs.declared.tables.Tables.{Tables}
use Rattle.engine.specs.Asking.{with_lock}
use Rattle.engine.specs.Stores.{first_cells}
use Rattle.engine.specs.Tables.{slots_in, table_state, asker_in, Acquires, Commits, Got, Noted, NotedCall}
use Rattle.engine.specs.Denials.{answer_of}
use Rattle.engine.specs.declared.denial.Denial.{Denial}
use Rattle.engine.specs.declared.denial.Denial.TheVariants.{Refused, Waits}
use Rattle.engine.proofs.Calls.{waits, row_there, replace_twice, write_room, set_room}

-- As many cells as there are
pub all_cells : (n : ℕ) (s : Store) → length s.cells ≤ n → first_cells n s ≡ s
all_cells n s all = ap (λ l. record { cells = l; rights = s.rights }) (take_all n s.cells all)

-- A lock that is denied: its row is there, so the transaction waits.
pub denied : (S : Setup) (s : Store) (t t' : Tables) (o : OpenSlot) (c : Call) (lock : Lock) (d : Denial)
    → None ≡ judge S s (asker_in t o) c → lock ≡ lock_for S s c → length s.cells ≤ 256 → length S.policies ≤ 64 → Acquires t o lock (Err d) t'
    → (answer_of (Err d), table_state s t') ≡ call_in S (table_state s t) c (open_slot (asker_in t o))
denied S s t t' o c lock (Refused f) fine asked few_cells few_policies told =
    let absent = told.1 in
    let there = rw (← asked) at (row_there S s (asker_in t o) c fine few_cells few_policies) in cc
denied S s t t' o c lock (Waits u) fine asked few_cells few_policies told =
    waits S (table_state s t) (asker_in t o) c fine lock asked u _ told.0 (rw (told.1, told.2))

-- The lock, and then the change
module _ (S : Setup) (s : Store) (t t' t'' : Tables) (o : OpenSlot) (lock : Lock) (n : ℕ) (got : Got t o lock n t') where
  abbrev asker : ModelTransaction
  asker = asker_in t o

  abbrev struck : List Slot
  struck = map (strike asker lock) (slots_in t)

  abbrev after : Call → State
  after c = with_slots (table_state s t) (replace (advance asker lock c) struck)

  changes_none : (c : Call) → advance asker lock c ≡ with_lock asker lock → t'' ≡ t' → table_state s t'' ≡ after c
  changes_none c same e = rw (e, got.slots_after, got.counts_kept, same)

  changes_one : (c : Call) (ob : Object) (v : ℕ) → with_change ob v (with_lock asker lock) ≡ advance asker lock c
      → Noted t' o ob v t'' → table_state s t'' ≡ after c
  changes_one c ob v same noted =
      let new : with_change ob v (asker_in t' o) ≡ advance asker lock c = ap (with_change ob v) got.asker_after ∙ same in
      rw (
        noted.slots_after,
        noted.counts_kept,
        got.slots_after,
        got.counts_kept,
        new,
        replace_twice (with_lock asker lock) (advance asker lock c) (sym (ap (λ y. y.number) new)) struck,
      )

  pub state_granted : (c : Call) → None ≡ judge S s asker c → NotedCall t' o c t'' → table_state s t'' ≡ after c
  unfolding advance
  state_granted (Deploys p) fine e = changes_none (Deploys p) refl e
  state_granted (Reads c) fine e = changes_none (Reads c) refl e
  state_granted (Shows p) fine e = changes_none (Shows p) refl e
  state_granted (Writes c v) fine e = changes_one (Writes c v) (OfCell c) v refl (e (rw (ap (λ y. y.changes) got.asker_after) (write_room S s asker c v fine)))
  state_granted (Sets p v) fine e = changes_one (Sets p v) (OfPolicy p) v refl (e (rw (ap (λ y. y.changes) got.asker_after) (set_room S s asker p v fine)))

-- A commit, once its changes are in the stores
pub committed : (s s' : Store) (t t' : Tables) (o : OpenSlot) (k : ℕ) → s' ≡ apply (asker_in t o).changes s → Commits t o.id (Some k) t'
    → (Granted k, table_state s' t') ≡ commit_in (table_state s t) o.id (open_slot (asker_in t o))
unfolding commit_in
committed s s' t t' o k stored commits =
    let counted : k ≡ t.slots.counts.commits + 1 = let e = commits.answers_place in cc in
    rw (stored, counted, commits.slots_after, commits.counts_after, add-one)
