-- What a slot means, and a list of slots, given who holds which lock: h k l says whether slot k holds the lock l.
use Rattle.std.specs.Prelude.{◌≡◌, ℕ, suc, ◌≤◌, Bool, true, false, cond, List, [], ◌∷◌, ◌==◌, slice_index_or}
use Rattle.serial.specs.Words.{Change}
use Rattle.serial.specs.Locks.{Lock}
use Rattle.serial.specs.Model.{free, open_slot, aborted_slot, Transaction as ModelTransaction, Slot as ModelSlot}
use Rattle.workspace.specs.Workspaces.{changes_of}
use Rattle.slot_table.specs.declared.slot.Transaction.{Transaction}
use Rattle.slot_table.specs.declared.slot.Slot.{Slot}
use Rattle.slot_table.specs.declared.slot.Slot.TheVariants.{Free, Open, Aborted}

abbrev pub transaction_of : (Lock → Bool) → Transaction → ModelTransaction
transaction_of h x = record { number = x.id; subject = x.subject; holds = h; changes = changes_of x.workspace }

abbrev pub slot_of : (Lock → Bool) → Slot → ModelSlot
slot_of h Free = free
slot_of h (Open x) = open_slot (transaction_of h x)
slot_of h (Aborted i b p) = aborted_slot i b p

-- The slots from slot k on
unfoldable pub slots_from : (ℕ → Lock → Bool) → ℕ → List Slot → List ModelSlot
slots_from h k [] = []
slots_from h k (s ∷ ss) = slot_of (h k) s ∷ slots_from h (suc k) ss

abbrev pub is_open : Slot → Bool
is_open Free = false
is_open (Open x) = true
is_open (Aborted i b p) = false

abbrev pub is_free : Slot → Bool
is_free Free = true
is_free (Open x) = false
is_free (Aborted i b p) = false

-- The changes of an open transaction; none in a slot that is not open
abbrev pub changes_in : Slot → List Change
changes_in Free = []
changes_in (Open x) = changes_of x.workspace
changes_in (Aborted i b p) = []

-- No lock is held in a slot that is not open.
abbrev pub Idle : List Slot → (ℕ → Lock → Bool) → Type 0
Idle ss h = (k : ℕ) → is_open (slice_index_or ss k Free) ≡ false → (l : Lock) → h k l ≡ false

abbrev pub slot_named : Slot → ℕ → Bool
slot_named Free t = false
slot_named (Open x) t = x.id == t
slot_named (Aborted i b p) t = i == t

-- 0 for a free slot
abbrev pub slot_number : Slot → ℕ
slot_number Free = 0
slot_number (Open x) = x.id
slot_number (Aborted i b p) = i

abbrev pub same_number : Slot → Slot → Bool
same_number Free s = false
same_number (Open x) s = slot_named s x.id
same_number (Aborted i b p) s = slot_named s i

-- No two slots of the list have one number.
abbrev pub Apart : List Slot → Type 0
Apart ss = (i j : ℕ) → same_number (slice_index_or ss i Free) (slice_index_or ss j Free) ≡ true → i ≡ j

abbrev pub Numbered : ℕ → List Slot → Type 0
Numbered n ss = (i : ℕ) → slot_number (slice_index_or ss i Free) ≤ n

-- What a slot may turn into: one of the same number or a free one, open only if it was open.
pub record Follows (old new : Slot) : Type 0 where
  pub number : (t : ℕ) → slot_named new t ≡ true → slot_named old t ≡ true
  pub opens : is_open new ≡ true → is_open old ≡ true

-- An open slot that is struck turns into an aborted one.
abbrev pub abort_if : Bool → ℕ → ℕ → Slot → Slot
abort_if b by p Free = Free
abort_if b by p (Open x) = cond b (Aborted x.id by p) (Open x)
abort_if b by p (Aborted i c q) = Aborted i c q
