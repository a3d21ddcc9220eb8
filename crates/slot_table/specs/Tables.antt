-- What a table means in the model's words.
use Rattle.std.specs.Prelude.{ℕ, Bool, List, take, slice_index_or}
use Rattle.serial.specs.Words.{Store, Change}
use Rattle.serial.specs.Locks.{Lock}
use Rattle.serial.specs.Model.{State, Slot as ModelSlot}
use Rattle.slot_table.specs.declared.slot.Slot.{Slot}
use Rattle.slot_table.specs.declared.slot.Slot.TheVariants.{Free}
use Rattle.slot_table.specs.declared.slot_table.SlotTable.{SlotTable}
use Rattle.slot_table.specs.Slots.{slots_from, changes_in}

abbrev pub used : SlotTable → List Slot
used t = take t.limit t.slots

-- The slot of that number. One that is not in use is free.
abbrev pub slot_at : SlotTable → ℕ → Slot
slot_at t k = slice_index_or (used t) k Free

-- The changes in that slot
abbrev pub changes_at : SlotTable → ℕ → List Change
changes_at t k = changes_in (slot_at t k)

abbrev pub slots_of : (ℕ → Lock → Bool) → SlotTable → List ModelSlot
slots_of h t = slots_from h 0 (used t)

abbrev pub state_of : Store → (ℕ → Lock → Bool) → SlotTable → State
state_of s h t = record { store = s; slots = slots_of h t; opened = t.counts.opened; commits = t.counts.commits }
