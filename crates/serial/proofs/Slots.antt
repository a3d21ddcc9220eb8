-- What `find` gives after each change of the slots.
use Rattle.std.proofs.Common.{◌≡◌, ℕ, true, false, List, [], ◌∷◌, map, sym, refl, arith}
use Rattle.std.proofs.lemmas.Bool.{eqb-true}
use Rattle.std.proofs.lemmas.Bool.Decides.{nat_tests}
use Rattle.serial.specs.Locks.{Lock}
use Rattle.serial.specs.Model.{Slot, free, open_slot, Transaction, named, find, strike, replace, replace_slot, end, place, any_free, is_free}

pub find_map : (f : Slot → Slot) → f free ≡ free → ((s : Slot) (u : ℕ) → named (f s) u ≡ named s u) → (u : ℕ) (l : List Slot) → find u (map f l) ≡ f (find u l)
unfolding find
find_map f ff fn u [] = sym ff
find_map f ff fn u (s ∷ l) = grind (arith, fn s u, find_map f ff fn u l)

pub strike_named : (x : Transaction) (asked : Lock) (s : Slot) (u : ℕ) → named (strike x asked s) u ≡ named s u
strike_named x asked s u = grind arith

pub replace_named : (x : Transaction) (s : Slot) (u : ℕ) → named (replace_slot x s) u ≡ named s u
replace_named x s u = grind (arith, nat_tests)

pub find_strike : (x : Transaction) (asked : Lock) (u : ℕ) (l : List Slot) → find u (map (strike x asked) l) ≡ strike x asked (find u l)
find_strike x asked u l = find_map (strike x asked) refl (strike_named x asked) u l

pub find_replace : (x : Transaction) (u : ℕ) (l : List Slot) → find u (replace x l) ≡ replace_slot x (find u l)
unfolding replace
find_replace x u l = find_map (replace_slot x) refl (replace_named x) u l

-- what is found has the name looked for
pub find_named : (u : ℕ) (l : List Slot) (s : Slot) → find u l ≡ s → is_free s ≡ false → named s u ≡ true
unfolding find
find_named u [] s e f = grind arith
find_named u (z ∷ l) s e f = grind (arith, find_named u l s)

pub find_number : (u : ℕ) (l : List Slot) (x : Transaction) → find u l ≡ open_slot x → x.number ≡ u
find_number u l x e = eqb-true x.number u (find_named u l (open_slot x) e refl)

pub find_end_same : (t : ℕ) (l : List Slot) → find t (end t l) ≡ free
unfolding find end
find_end_same t [] = refl
find_end_same t (s ∷ l) = grind (arith, nat_tests, find_end_same t l)

pub find_end_other : (t u : ℕ) (l : List Slot) → (t ≡ u → ⊥) → find u (end t l) ≡ find u l
unfolding find end
find_end_other t u [] d = refl
find_end_other t u (s ∷ l) d = grind (arith, nat_tests, find_end_other t u l d)

pub find_place_same : (x : Transaction) (l : List Slot) → any_free l ≡ true → find x.number l ≡ free → find x.number (place x l) ≡ open_slot x
unfolding find place any_free
find_place_same x [] a e = grind arith
find_place_same x (s ∷ l) a e = grind (arith, nat_tests, find_place_same x l)

pub find_place_other : (x : Transaction) (u : ℕ) (l : List Slot) → (x.number ≡ u → ⊥) → find u (place x l) ≡ find u l
unfolding find place
find_place_other x u [] d = refl
find_place_other x u (s ∷ l) d = grind (arith, nat_tests, find_place_other x u l d)
