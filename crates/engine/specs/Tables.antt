-- What the tables mean in the words of the machine, and what a lock comes to there.
use Rattle.std.specs.Prelude.{◌≡◌, ℕ, ◌+◌, true, false, List, [], map, length, Some, None, Option, Ok, Err, Result, slice_index_or}
use Rattle.protocol.specs.declared.policy.Object.{Object}
use Rattle.protocol.specs.declared.policy.Object.TheVariants.{OfCell, OfPolicy}
use Rattle.serial.specs.Words.{Store, Call, Deploys, Reads, Writes, Shows, Sets}
use Rattle.serial.specs.Changes.{room}
use Rattle.serial.specs.Locks.{Lock}
use Rattle.serial.specs.Model.{State, Slot as ModelSlot, Transaction as ModelTransaction, blocker, signalled, strike, replace, end}
use Rattle.lock_table.specs.Held.{held, has_row}
use Rattle.slot_table.specs.declared.slot.Slot.TheVariants.{Free}
use Rattle.slot_table.specs.Slots.{slot_named}
use Rattle.slot_table.specs.Finds.{Stands, standing}
use Rattle.slot_table.specs.Edits.{with_change}
use Rattle.slot_table.specs.Tables.{used, slots_of, state_of}
use Rattle.slot_table.specs.declared.slot.OpenSlot.{OpenSlot}
use Rattle.slot_table.specs.Counts.{one_commit_more}
use Rattle.engine.specs.declared.denial.Denial.{Denial}
use Rattle.protocol.specs.declared.refusal.Refusal.TheVariants.{Absent}
use Rattle.engine.specs.declared.denial.Denial.TheVariants.{Refused, Waits}
use Rattle.engine.specs.declared.tables.Tables.{Tables}
use Rattle.engine.specs.Asking.{with_lock}

abbrev pub slots_in : Tables → List ModelSlot
slots_in t = slots_of (held t.locks) t.slots

abbrev pub table_state : Store → Tables → State
table_state s t = state_of s (held t.locks) t.slots

-- The state of an engine that can open nothing
abbrev pub closed_state : Store → State
closed_state s = record { store = s; slots = []; opened = 0; commits = 0 }

-- Slot i is in use, for a transaction of that number.
abbrev pub NamedAt : Tables → ℕ → ℕ → Type 0
NamedAt t i n = slot_named (slice_index_or (used t.slots) i Free) n ≡ true

-- An open transaction stands in its slot, and what it means.
abbrev pub OpenIn : Tables → OpenSlot → Type 0
OpenIn t o = Stands (used t.slots) o

abbrev pub asker_in : Tables → OpenSlot → ModelTransaction
asker_in t o = standing (held t.locks) (used t.slots) o

-- The asker has got the lock, and so many others were struck.
pub record Got (t : Tables) (o : OpenSlot) (lock : Lock) (n : ℕ) (t' : Tables) : Type 0 where
  pub nobody_blocks : blocker (asker_in t o) lock (slots_in t) ≡ None
  pub counts_struck : n ≡ length (signalled (asker_in t o) lock (slots_in t))
  pub slots_after : slots_in t' ≡ replace (with_lock (asker_in t o) lock) (map (strike (asker_in t o) lock) (slots_in t))
  pub counts_kept : t'.slots.counts ≡ t.slots.counts
  pub still_open : OpenIn t' o
  pub asker_after : asker_in t' o ≡ with_lock (asker_in t o) lock

abbrev pub Acquires : Tables → OpenSlot → Lock → Result ℕ Denial → Tables → Type 0
Acquires t o lock (Ok n) t' = Got t o lock n t'
Acquires t o lock (Err (Waits u)) t' = (blocker (asker_in t o) lock (slots_in t) ≡ Some u) × (t'.slots ≡ t.slots) × (t'.locks ≡ t.locks)
Acquires t o lock (Err (Refused f)) t' = (f ≡ Absent) × (has_row lock ≡ false)

-- The transaction of that number has ended, and is counted among those that committed; so many have then.
pub record Commits (t : Tables) (n : ℕ) (answer : Option ℕ) (t' : Tables) : Type 0 where
  pub answers_place : answer ≡ Some (t.slots.counts.commits + 1)
  pub slots_after : slots_in t' ≡ end n (slots_in t)
  pub counts_after : t'.slots.counts ≡ one_commit_more t.slots.counts

-- A change of the asker is noted.
pub record Noted (t : Tables) (o : OpenSlot) (ob : Object) (v : ℕ) (t' : Tables) : Type 0 where
  pub slots_after : slots_in t' ≡ replace (with_change ob v (asker_in t o)) (slots_in t)
  pub counts_kept : t'.slots.counts ≡ t.slots.counts

-- The call's change, if it has one, is noted.
abbrev pub NotedCall : Tables → OpenSlot → Call → Tables → Type 0
NotedCall t o (Deploys p) t' = t' ≡ t
NotedCall t o (Reads c) t' = t' ≡ t
NotedCall t o (Writes c v) t' = room (asker_in t o).changes (OfCell c) ≡ true → Noted t o (OfCell c) v t'
NotedCall t o (Shows p) t' = t' ≡ t
NotedCall t o (Sets p v) t' = room (asker_in t o).changes (OfPolicy p) ≡ true → Noted t o (OfPolicy p) v t'
