-- What a table keeps: numbers known and apart, and room for each open transaction to commit. Assumes nothing.
use Rattle.std.proofs.Common.{◌≡◌, ℕ, ◌+◌, ◌<◌, ◌≤◌, true, false, ◌⊎◌, List, length, get_or, set, count_by, sym, ◌∙◌, subst, ⊎_elim, arith}
use Rattle.std.proofs.lemmas.List.{length-set, length-take}
use Rattle.std.proofs.lemmas.Bool.{cases_eq}
use Rattle.std.proofs.lemmas.Bool.Decides.{nat_tests}
use Rattle.std.proofs.lemmas.Grind.{common_steps}
use Rattle.slot_table.specs.declared.slot.Transaction.{Transaction}
use Rattle.slot_table.specs.declared.slot.Slot.{Slot}
use Rattle.slot_table.specs.declared.slot.Slot.TheVariants.{Free, Open}
use Rattle.slot_table.specs.declared.slot_table.SlotTable.{SlotTable}
use Rattle.slot_table.specs.Slots.{is_open, slot_named, slot_number, same_number, Apart, Numbered, Follows}
use Rattle.slot_table.specs.Tables.{used, slot_at}
use Rattle.slot_table.proofs.SlotLists.{used_set}

-- the number of one slot

number_is : (s : Slot) (t : ℕ) → slot_named s t ≡ true → slot_number s ≡ t
number_is s t e = grind (arith, nat_tests)

own_number : (s : Slot) → (slot_number s ≡ 0) ⊎ (slot_named s (slot_number s) ≡ true)
own_number s = grind (arith, nat_tests)

same_named : (s z : Slot) → same_number s z ≡ true → (slot_named s (slot_number s) ≡ true) × (slot_named z (slot_number s) ≡ true)
same_named s z e = grind (arith, nat_tests)

named_same : (s z : Slot) (t : ℕ) → slot_named s t ≡ true → slot_named z t ≡ true → same_number s z ≡ true
named_same s z t e f = grind (arith, nat_tests)

pub apart_at : (us : List Slot) → Apart us → (i j t : ℕ) → slot_named (get_or us i Free) t ≡ true → slot_named (get_or us j Free) t ≡ true → i ≡ j
apart_at us apart i j t e f = apart i j (named_same (get_or us i Free) (get_or us j Free) t e f)

-- two slots in use that are named by one number are one slot
pub distinct_at : (table : SlotTable) (i j t : ℕ) → slot_named (slot_at table i) t ≡ true → slot_named (slot_at table j) t ≡ true → i ≡ j
distinct_at table i j t e f = apart_at (used table) table.apart i j t e f

pub few_used : (table : SlotTable) → length (used table) ≤ 16
few_used table = omega (arith, length-take table.limit table.slots, table.within)

-- a slot that is written
module _ (us : List Slot) (i : ℕ) (s : Slot) (f : Follows (get_or us i Free) s) where
  follows : (k t : ℕ) → slot_named (get_or (set us i s) k Free) t ≡ true → slot_named (get_or us k Free) t ≡ true
  follows k t e = ⊎_elim (λ (q : k ≡ i). grind (arith, common_steps, f.number t)) (λ ne. grind (arith, common_steps)) (cases_eq k i)

  pub turned_numbered : (m : ℕ) → Numbered m us → Numbered m (set us i s)
  turned_numbered m known k =
      let z = get_or (set us i s) k Free in
      grind (arith, known k, own_number z, number_is (get_or us k Free) (slot_number z), follows k (slot_number z))

  pub turned_apart : Apart us → Apart (set us i s)
  turned_apart apart a b e =
      let z = get_or (set us i s) a Free in
      let both = same_named z (get_or (set us i s) b Free) e in
      apart_at us apart a b (slot_number z) (follows a (slot_number z) both.0) (follows b (slot_number z) both.1)

  pub turned_count : i < length us → count_by is_open (set us i s) ≤ count_by is_open us
  turned_count l = grind (arith, common_steps, f.opens)

pub free_follows : (s : Slot) → Follows s Free
free_follows s = record { number = λ t e. cc; opens = λ e. cc }

-- the table after that
abbrev pub turned : (t : SlotTable) (i : ℕ) (s : Slot) → i < length (used t) → Follows (slot_at t i) s → SlotTable
turned t i s inside f =
    let new = sym (used_set t i s inside) in
    let few = turned_count (used t) i s f inside in
    record {
      slots = set t.slots i s;
      limit = t.limit;
      counts = t.counts;
      sized = length-set t.slots i s ∙ t.sized;
      within = t.within;
      numbered = t.numbered;
      counted = subst (λ vs. t.counts.commits + count_by is_open vs ≤ t.counts.opened) new (omega arith);
      known = subst (Numbered t.counts.opened) new (turned_numbered (used t) i s f t.counts.opened t.known);
      apart = subst Apart new (turned_apart (used t) i s f t.apart);
    }

-- a slot in which a transaction is opened, whose number is the next
module _ (us : List Slot) (m i : ℕ) (x : Transaction) (fresh : x.id ≡ m + 1) (inside : i < length us) (known : Numbered m us) where
  pub opened_numbered : Numbered (m + 1) (set us i (Open x))
  opened_numbered k = grind (arith, common_steps, known k)

  pub opened_apart : Apart us → Apart (set us i (Open x))
  opened_apart apart a b e = grind (arith, common_steps, nat_tests, known a, known b, apart a b)

  pub opened_count : is_open (get_or us i Free) ≡ false → count_by is_open (set us i (Open x)) ≡ count_by is_open us + 1
  opened_count off = grind (arith, common_steps)
