-- What the calls that change a table promise of its slots.
use Rattle.std.specs.Prelude.{◌≡◌, ℕ, Bool, true, cond, ◌≢◌, List, slice_index_or}
use Rattle.protocol.specs.declared.policy.Object.{Object}
use Rattle.serial.specs.Changes.{put, room}
use Rattle.serial.specs.Locks.{Lock}
use Rattle.serial.specs.Model.{end, replace, Slot as ModelSlot, Transaction as ModelTransaction}
use Rattle.workspace.specs.declared.workspace.Workspace.{Workspace}
use Rattle.workspace.specs.Workspaces.{changes_of}
use Rattle.slot_table.specs.declared.slot.Slot.{Slot}
use Rattle.slot_table.specs.declared.slot.Slot.TheVariants.{Free, Open, Aborted}
use Rattle.slot_table.specs.Slots.{transaction_of, slots_from, slot_named}

-- Between the two lists the transaction of a slot has ended, whatever has become of that slot's locks.
abbrev pub Ends : List Slot → ℕ → List Slot → Type 0
Ends before at after = (t : ℕ) → slot_named (slice_index_or before at Free) t ≡ true → (h h' : ℕ → Lock → Bool)
    → ((k : ℕ) → k ≢ at → (l : Lock) → h' k l ≡ h k l) → slots_from h' 0 after ≡ end t (slots_from h 0 before)

-- The transaction with one change more
abbrev pub with_change : Object → ℕ → ModelTransaction → ModelTransaction
with_change o v x = record { number = x.number; subject = x.subject; holds = x.holds; changes = put o v x.changes }

-- A slot after a change: an open one has one change more, where there is room for it, and keeps its number and subject. Any other stays.
abbrev pub Puts : Object → ℕ → Slot → Slot → Type 0
Puts o v Free s = s ≡ Free
Puts o v (Open x) s = (w : Workspace) × (s ≡ Open (record { id = x.id; subject = x.subject; workspace = w }))
    × (changes_of w ≡ cond (room (changes_of x.workspace) o) (put o v (changes_of x.workspace)) (changes_of x.workspace))
Puts o v (Aborted i b p) s = s ≡ Aborted i b p

-- The model's slots after a change in one of them: that takes an open transaction with room for it.
abbrev pub put_in : (Lock → Bool) → Object → ℕ → Slot → List ModelSlot → List ModelSlot
put_in h o v Free l = l
put_in h o v (Open x) l = cond (room (changes_of x.workspace) o) (replace (with_change o v (transaction_of h x)) l) l
put_in h o v (Aborted i b p) l = l
