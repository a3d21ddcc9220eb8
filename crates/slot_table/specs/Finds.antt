-- What a search for a transaction promises.
use Rattle.std.specs.Prelude.{◌≡◌, ℕ, Bool, List, slice_index_or}
use Rattle.serial.specs.Locks.{Lock}
use Rattle.serial.specs.Model.{find, free, open_slot, aborted_slot, Transaction as ModelTransaction}
use Rattle.slot_table.specs.declared.slot.OpenSlot.{OpenSlot}
use Rattle.slot_table.specs.declared.slot.Transaction.{Transaction}
use Rattle.slot_table.specs.declared.slot.Slot.{Slot}
use Rattle.slot_table.specs.declared.slot.Slot.TheVariants.{Free, Open, Aborted}
use Rattle.slot_table.specs.declared.found.Found.{Found}
use Rattle.slot_table.specs.declared.found.Found.TheVariants.{Nobody, Open as FoundOpen, Aborted as FoundAborted}
use Rattle.slot_table.specs.Slots.{slots_from, changes_in}

-- In that slot of the list stands an open transaction of that number and subject.
pub record Stands (ss : List Slot) (o : OpenSlot) : Type 0 where
  pub transaction : Transaction
  pub there : slice_index_or ss o.slot.at Free ≡ Open transaction
  pub number : transaction.id ≡ o.id
  pub subject : transaction.subject ≡ o.subject

-- What it means: its number and subject, with the locks and the changes of its slot
abbrev pub standing : (ℕ → Lock → Bool) → List Slot → OpenSlot → ModelTransaction
standing h ss o = record { number = o.id; subject = o.subject; holds = h o.slot.at; changes = changes_in (slice_index_or ss o.slot.at Free) }

abbrev pub Finds : (ℕ → Lock → Bool) → List Slot → ℕ → Found → Type 0
Finds h ss t Nobody = find t (slots_from h 0 ss) ≡ free
Finds h ss t (FoundOpen found) = (find t (slots_from h 0 ss) ≡ open_slot (standing h ss found)) × Stands ss found × (found.id ≡ t)
Finds h ss t (FoundAborted slot b p) = (find t (slots_from h 0 ss) ≡ aborted_slot t b p) × (slice_index_or ss slot.at Free ≡ Aborted t b p)
