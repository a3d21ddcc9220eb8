-- What the place of a transaction, or of a free slot, says of the model's slots. Assumes nothing.
use Rattle.std.proofs.Common.{◌≡◌, ℕ, suc, ◌+◌, ◌<◌, Bool, true, false, ltb, List, [], ◌∷◌, length, get_or, set, ap, Some, None, refl, sym, ◌∙◌, one-add, arith}
use Rattle.std.specs.List.{position, position_or_len}
use Rattle.std.proofs.lemmas.List.{get_or_default, get_or-take, length-take}
use Rattle.std.proofs.lemmas.List.Quantifiers.{position-Some}
use Rattle.std.proofs.lemmas.Bool.Decides.{nat_tests}
use Rattle.std.proofs.lemmas.Grind.{common_steps}
use Rattle.locking.specs.declared.slot.SlotIndex.{SlotIndex}
use Rattle.workspace.specs.Workspaces.{changes_of}
use Rattle.serial.specs.Locks.{Lock}
use Rattle.serial.specs.Model.{free, open_slot, aborted_slot, find, any_free, place, Transaction as ModelTransaction}
use Rattle.slot_table.specs.declared.slot.Transaction.{Transaction}
use Rattle.slot_table.specs.declared.slot.OpenSlot.{OpenSlot}
use Rattle.slot_table.specs.declared.slot.Slot.{Slot}
use Rattle.slot_table.specs.declared.slot.Slot.TheVariants.{Free, Open, Aborted}
use Rattle.slot_table.specs.declared.slot_table.SlotTable.{SlotTable}
use Rattle.slot_table.specs.Tables.{used}
use Rattle.slot_table.specs.Slots.{transaction_of, slot_of, slots_from, slot_named, is_free, changes_in}
use Rattle.slot_table.specs.Finds.{Stands, standing}
use Rattle.slot_table.proofs.SlotLists.{named_of}

abbrev pub named_by : ℕ → Slot → Bool
named_by t s = slot_named s t

find_from : (h : ℕ → Lock → Bool) (k t : ℕ) (ss : List Slot)
    → find t (slots_from h k ss) ≡ slot_of (h (k + position_or_len (named_by t) ss)) (get_or ss (position_or_len (named_by t) ss) Free)
unfolding find slots_from
find_from h k t [] = refl
find_from h k t (s ∷ ss) = grind (arith, one-add, named_of (h k) s t, find_from h (suc k) t ss)

abbrev pub found_as : SlotIndex → Transaction → OpenSlot
found_as i x = record { slot = i; id = x.id; subject = x.subject }

-- the place that is found, in the whole array
pub found_used : (t : SlotTable) (p : Slot → Bool) (n : ℕ) (d : Slot) → Some n ≡ position p (used t) → get_or t.slots n d ≡ get_or (used t) n Free
found_used t p n d at =
    let within = (position-Some p (used t) n Free (sym at)).0 in
    let size = length-take t.limit t.slots in
    let before : n < t.limit = omega arith in
    let there : n < length t.slots = omega arith in
    get_or_default t.slots n d Free there ∙ sym (get_or-take t.limit t.slots n Free before)

-- what is answered for the slot that the search gives
module _ (h : ℕ → Lock → Bool) (t : ℕ) (ss : List Slot) where
  pub finds_nobody : None ≡ position (named_by t) ss → find t (slots_from h 0 ss) ≡ free
  finds_nobody e = grind (arith, common_steps, nat_tests, find_from h 0 t ss)

  module _ (n : ℕ) (at : Some n ≡ position (named_by t) ss) where
    pub finds_free : Free ≡ get_or ss n Free → find t (slots_from h 0 ss) ≡ free
    finds_free is = grind (arith, nat_tests, find_from h 0 t ss)

    finds_open : (x : Transaction) → Open x ≡ get_or ss n Free
        → (find t (slots_from h 0 ss) ≡ open_slot (transaction_of (h n) x)) × (get_or ss n Free ≡ Open x) × (x.id ≡ t)
    finds_open x is = grind (arith, nat_tests, find_from h 0 t ss, position-Some (named_by t) ss n Free)

    -- the same by what is handed out of it
    pub stands_open : (x : Transaction) → Open x ≡ get_or ss n Free → (i : SlotIndex) → i.at ≡ n
        → (find t (slots_from h 0 ss) ≡ open_slot (standing h ss (found_as i x))) × Stands ss (found_as i x) × (x.id ≡ t)
    stands_open x is i e =
        let found = finds_open x is in
        let there : get_or ss i.at Free ≡ Open x = rw e found.1 in
        let changes : changes_in (get_or ss i.at Free) ≡ changes_of x.workspace = ap changes_in there in
        (rw (changes, e) found.0, record { transaction = x; there = there; number = refl; subject = refl }, found.2)

    pub finds_aborted : (i b p : ℕ) → Aborted i b p ≡ get_or ss n Free → (find t (slots_from h 0 ss) ≡ aborted_slot t b p) × (get_or ss n Free ≡ Aborted t b p)
    finds_aborted i b p is = grind (arith, nat_tests, find_from h 0 t ss, position-Some (named_by t) ss n Free)

-- where the first free slot stands
place_from : (h : ℕ → Lock → Bool) (k : ℕ) (x : ModelTransaction) (ss : List Slot)
    → place x (slots_from h k ss) ≡ set (slots_from h k ss) (position_or_len is_free ss) (open_slot x)
unfolding place slots_from
place_from h k x [] = refl
place_from h k x (s ∷ ss) = grind (arith, one-add, place_from h (suc k) x ss)

any_free_from : (h : ℕ → Lock → Bool) (k : ℕ) (ss : List Slot) → any_free (slots_from h k ss) ≡ ltb (position_or_len is_free ss) (length ss)
unfolding any_free slots_from
any_free_from h k [] = refl
any_free_from h k (s ∷ ss) = grind (arith, nat_tests, any_free_from h (suc k) ss)

pub none_free : (h : ℕ → Lock → Bool) (ss : List Slot) → None ≡ position is_free ss → any_free (slots_from h 0 ss) ≡ false
none_free h ss e = grind (arith, nat_tests, any_free_from h 0 ss)

module _ (ss : List Slot) (n : ℕ) (at : Some n ≡ position is_free ss) where
  pub some_free : (h : ℕ → Lock → Bool) → any_free (slots_from h 0 ss) ≡ true
  some_free h = grind (arith, nat_tests, any_free_from h 0 ss)

  pub placed : (h : ℕ → Lock → Bool) (x : ModelTransaction) → place x (slots_from h 0 ss) ≡ set (slots_from h 0 ss) n (open_slot x)
  placed h x = grind (arith, nat_tests, place_from h 0 x ss)

  pub free_there : (n < length ss) × (get_or ss n Free ≡ Free)
  free_there = grind (arith, position-Some is_free ss n Free)
