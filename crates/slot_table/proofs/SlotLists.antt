-- The model's slots, one by one. Assumes nothing.
use Rattle.std.proofs.Common.{◌≡◌, ℕ, zero, suc, ◌+◌, ◌<◌, Bool, false, List, [], ◌∷◌, length, get_or, take, set, sym, refl, ap, ◌∙◌, arith}
use lib.Seq.{take-set-lt}
use mathlib.Core.Path.{fun_ext}
use Rattle.std.proofs.lemmas.List.{ext_get_or, length-take}
use Rattle.serial.specs.Locks.{Lock}
use Rattle.serial.specs.Model.{free, named, Slot as ModelSlot}
use Rattle.slot_table.specs.declared.slot.Slot.{Slot}
use Rattle.slot_table.specs.declared.slot.Slot.TheVariants.{Free, Open, Aborted}
use Rattle.slot_table.specs.declared.slot.OpenSlot.{OpenSlot}
use Rattle.slot_table.specs.declared.slot_table.SlotTable.{SlotTable}
use Rattle.slot_table.specs.Tables.{used}
use Rattle.slot_table.specs.Slots.{transaction_of, slot_of, slots_from, slot_named, is_open, changes_in}
use Rattle.slot_table.specs.Finds.{Stands, standing}

pub length_slots_from : (h : ℕ → Lock → Bool) (k : ℕ) (ss : List Slot) → length (slots_from h k ss) ≡ length ss
unfolding slots_from
length_slots_from h k [] = refl
length_slots_from h k (s ∷ ss) = ap suc (length_slots_from h (suc k) ss)

at_from : (h : ℕ → Lock → Bool) (k : ℕ) (ss : List Slot) (i : ℕ) → get_or (slots_from h k ss) i free ≡ slot_of (h (k + i)) (get_or ss i Free)
unfolding slots_from
at_from h k [] i = refl
at_from h k (s ∷ ss) zero = grind arith
at_from h k (s ∷ ss) (suc i) = grind (arith, at_from h (suc k) ss i)

pub slots_from_at : (h : ℕ → Lock → Bool) (ss : List Slot) (k : ℕ) → get_or (slots_from h 0 ss) k free ≡ slot_of (h k) (get_or ss k Free)
slots_from_at h ss k = at_from h 0 ss k ∙ ap (λ n. slot_of (h n) (get_or ss k Free)) (omega arith)

pub slots_ext : (xs ys : List ModelSlot) → length xs ≡ length ys → ((k : ℕ) → get_or xs k free ≡ get_or ys k free) → xs ≡ ys
slots_ext xs ys same each = ext_get_or free xs ys same (λ k _. each k)

-- the same slots under other locks
pub slot_of_same : (f g : Lock → Bool) (s : Slot) → ((l : Lock) → f l ≡ g l) → slot_of f s ≡ slot_of g s
slot_of_same f g s e = ap (λ x. slot_of x s) (fun_ext e)

pub slots_from_ext : (h g : ℕ → Lock → Bool) (ss ts : List Slot) → length ts ≡ length ss
    → ((k : ℕ) → slot_of (g k) (get_or ts k Free) ≡ slot_of (h k) (get_or ss k Free)) → slots_from g 0 ts ≡ slots_from h 0 ss
slots_from_ext h g ss ts same each =
    slots_ext _ _ (length_slots_from g 0 ts ∙ same ∙ sym (length_slots_from h 0 ss))
    (λ k. slots_from_at g ts k ∙ each k ∙ sym (slots_from_at h ss k))

pub slots_from_set : (h : ℕ → Lock → Bool) (k : ℕ) (ss : List Slot) (i : ℕ) (s : Slot) → slots_from h k (set ss i s) ≡ set (slots_from h k ss) i (slot_of (h (k + i)) s)
unfolding slots_from
slots_from_set h k [] i s = refl
slots_from_set h k (x ∷ ss) zero s = grind arith
slots_from_set h k (x ∷ ss) (suc i) s = grind (arith, slots_from_set h (suc k) ss i s)

pub named_of : (f : Lock → Bool) (s : Slot) (t : ℕ) → named (slot_of f s) t ≡ slot_named s t
named_of f s t = grind arith

-- what is written into the array at a place within the slots in use
pub used_set : (t : SlotTable) (i : ℕ) (s : Slot) → i < length (used t) → take t.limit (set t.slots i s) ≡ set (used t) i s
used_set t i s l = take-set-lt t.limit t.slots i s (omega (arith, length-take t.limit t.slots))

-- A slot that is not open has no changes.
pub no_changes : (s : Slot) → is_open s ≡ false → changes_in s ≡ []
no_changes Free off = refl
no_changes (Open x) off = cc
no_changes (Aborted i b p) off = refl

-- What a found transaction means is what the transaction in its slot means.
pub standing_is : (h : ℕ → Lock → Bool) (ss : List Slot) (o : OpenSlot) (is : Stands ss o) → standing h ss o ≡ transaction_of (h o.slot.at) is.transaction
standing_is h ss o is = rw (is.there, ← is.number, ← is.subject) refl
