-- The slots after a granted call, and slots that name each transaction once.
use Rattle.std.proofs.Common.{◌≡◌, ℕ, true, false, List, [], ◌∷◌, map, refl, ap, ◌∙◌, arith}
use Rattle.std.proofs.lemmas.Bool.Decides.{nat_tests}
use Rattle.serial.specs.Words.{Call}
use Rattle.serial.specs.Locks.{Lock}
use Rattle.serial.specs.Model.{Slot, free, open_slot, Transaction, named, find, strike, verdict, is_signal, replace, replace_slot, end, place, advance}
use Rattle.serial.proofs.Slots.{find_map, find_strike, find_replace, find_named, find_number, find_end_same, find_end_other, find_place_other, strike_named, replace_named}

-- the slots after a granted call
abbrev pub called : Transaction → Lock → Call → List Slot → List Slot
called x l c slots = replace (advance x l c) (map (strike x l) slots)

pub called_find : (x : Transaction) (l : Lock) (c : Call) (slots : List Slot) (u : ℕ) → find u (called x l c slots) ≡ replace_slot (advance x l c) (strike x l (find u slots))
called_find x l c slots u = find_replace (advance x l c) u (map (strike x l) slots) ∙ ap (replace_slot (advance x l c)) (find_strike x l u slots)

pub called_same : (x : Transaction) (l : Lock) (c : Call) (slots : List Slot) (t : ℕ) → find t slots ≡ open_slot x → find t (called x l c slots) ≡ open_slot (advance x l c)
unfolding advance verdict
called_same x l c slots t e = rw (called_find x l c slots t, e) (grind (arith, nat_tests))

pub called_other : (x : Transaction) (l : Lock) (c : Call) (slots : List Slot) (t u : ℕ) → find t slots ≡ open_slot x → (u ≡ t → ⊥) → find u (called x l c slots) ≡ strike x l (find u slots)
unfolding advance
called_other x l c slots t u e d =
    grind (arith, nat_tests, called_find x l c slots u, find_named u slots, find_number t slots x e, strike_named)

pub strike_open : (x : Transaction) (l : Lock) (w : Slot) (z : Transaction) → strike x l w ≡ open_slot z → (w ≡ open_slot z) × (is_signal (verdict x l z) ≡ false)
strike_open x l w z e = grind arith

-- the slots name each transaction at most once
abbrev pub Distinct : List Slot → Type 0
Distinct [] = Unit {0}
Distinct (s ∷ l) = ((u : ℕ) → named s u ≡ true → find u l ≡ free) × Distinct l

distinct_map : (f : Slot → Slot) → f free ≡ free → ((s : Slot) (u : ℕ) → named (f s) u ≡ named s u) → (l : List Slot) → Distinct l → Distinct (map f l)
distinct_map f ff fn [] d = tt
distinct_map f ff fn (s ∷ l) d = grind (arith, find_map f ff fn, fn s, distinct_map f ff fn l)

pub distinct_called : (x : Transaction) (l : Lock) (c : Call) (slots : List Slot) → Distinct slots → Distinct (called x l c slots)
unfolding replace
distinct_called x l c slots d =
    distinct_map (replace_slot (advance x l c)) refl (replace_named (advance x l c)) (map (strike x l) slots)
    (distinct_map (strike x l) refl (strike_named x l) slots d)

pub find_end_free : (t u : ℕ) (l : List Slot) → find u l ≡ free → find u (end t l) ≡ free
find_end_free t u l e = grind (arith, find_end_same u l, find_end_other t u l)

pub distinct_end : (t : ℕ) (l : List Slot) → Distinct l → Distinct (end t l)
unfolding end
distinct_end t [] d = tt
distinct_end t (s ∷ l) d = ((λ u e. grind (arith, find_end_free t u l, d.0 u)), distinct_end t l d.1)

pub distinct_place : (x : Transaction) (l : List Slot) → find x.number l ≡ free → Distinct l → Distinct (place x l)
unfolding place find
distinct_place x [] e d = tt
distinct_place x (s ∷ l) e d = grind (arith, nat_tests, d.0, d.1, distinct_place x l, find_place_other x)
