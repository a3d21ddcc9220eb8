-- A transaction that ends leaves its slot free. Assumes nothing.
use Rattle.std.proofs.Common.{◌≡◌, ℕ, ◌+◌, ◌<◌, Bool, true, false, ◌≢◌, List, length, get_or, set, count_by, sym, ap, ◌∙◌, ⊎_elim, arith}
use Rattle.std.proofs.Math.ListN.{get_or-map}
use Rattle.std.proofs.lemmas.List.{length-set, length-map}
use Rattle.std.proofs.lemmas.Bool.{cases_eq}
use Rattle.std.proofs.lemmas.Grind.{common_steps}
use Rattle.serial.specs.Locks.{Lock}
use Rattle.serial.specs.Model.{free, end, free_slot}
use Rattle.slot_table.specs.declared.slot.Slot.{Slot}
use Rattle.slot_table.specs.declared.slot.Slot.TheVariants.{Free}
use Rattle.slot_table.specs.Slots.{slot_of, slots_from, slot_named, is_open, Apart}
use Rattle.slot_table.specs.Edits.{Ends}
use Rattle.slot_table.proofs.SlotLists.{length_slots_from, slots_from_at, slots_ext, slot_of_same, named_of}
use Rattle.slot_table.proofs.Invariants.{apart_at}

freed : (f : Lock → Bool) (s : Slot) (t : ℕ) → slot_named s t ≡ true → free_slot t (slot_of f s) ≡ free
freed f s t e = grind (arith, named_of f s t)

stays : (f : Lock → Bool) (s : Slot) (t : ℕ) → slot_named s t ≡ false → free_slot t (slot_of f s) ≡ slot_of f s
stays f s t e = grind (arith, named_of f s t)

unnamed : (us : List Slot) (at t k : ℕ) → Apart us → slot_named (get_or us at Free) t ≡ true → k ≢ at → slot_named (get_or us k Free) t ≡ false
unnamed us at t k apart name ne = grind (arith, apart_at us apart k at t)

pub ended : (us : List Slot) (at : ℕ) → Apart us → Ends us at (set us at Free)
unfolding end
ended us at apart t name h h' kept =
    slots_ext _ _
    (length_slots_from h' 0 (set us at Free) ∙ length-set us at Free ∙ sym (length-map (slots_from h 0 us) (free_slot t) ∙ length_slots_from h 0 us))
    (λ k. slots_from_at h' (set us at Free) k ∙ each k ∙ sym (get_or-map (free_slot t) (slots_from h 0 us) k free ∙ ap (free_slot t) (slots_from_at h us k)))
  where
    each : (k : ℕ) → slot_of (h' k) (get_or (set us at Free) k Free) ≡ free_slot t (slot_of (h k) (get_or us k Free))
    each k =
        ⊎_elim
        (λ (e : k ≡ at). grind (arith, common_steps, freed (h k) (get_or us k Free) t))
        (λ ne. let same = slot_of_same (h' k) (h k) (get_or us k Free) (kept k ne) in
        let rest = stays (h k) (get_or us k Free) t (unnamed us at t k apart name ne) in
        grind (arith, common_steps))
        (cases_eq k at)

pub freed_count : (us : List Slot) (i : ℕ) → i < length us → is_open (get_or us i Free) ≡ true → count_by is_open (set us i Free) + 1 ≡ count_by is_open us
freed_count us i inside on = grind (arith, common_steps)

pub open_inside : (us : List Slot) (i : ℕ) → is_open (get_or us i Free) ≡ true → i < length us
open_inside us i on = grind (arith, common_steps)
