-- The lowest number is the least of those of the open slots of the set. Assumes nothing.
use Rattle.std.proofs.Common.{◌≡◌, ℕ, ◌+◌, min, Bool, cond, List, [], ◌∷◌, Some, None, Option, refl, ap, ◌∙◌, arith}
use Rattle.std.specs.List.{filter, filter_map, enumerate_from, fold, reduce}
use Rattle.serial.specs.Model.{lower}
use Rattle.slot_table.specs.declared.slot.Slot.{Slot}
use Rattle.slot_table.specs.Lowest.{number_if_open, lowest_in}

fold_min : (x y : ℕ) (xs : List ℕ) → fold min (min x y) xs ≡ min x (fold min y xs)
fold_min x y [] = refl
fold_min x y (z ∷ xs) = grind (arith, fold_min x (min y z) xs)

least_more : (x : ℕ) (xs : List ℕ) → reduce min (x ∷ xs) ≡ lower (Some x) (reduce min xs)
least_more x [] = refl
least_more x (y ∷ xs) = ap Some (fold_min x y xs)

abbrev pub numbers : List (ℕ × Slot) → List ℕ
numbers ss = filter_map (λ (e : ℕ × Slot). number_if_open e.1) ss

abbrev pub those_in : (ℕ → Bool) → ℕ → List Slot → List (ℕ × Slot)
those_in p k ss = filter (λ (e : ℕ × Slot). p e.0) (enumerate_from k ss)

-- one step of the lemma below it, by b, whether the first slot is in the set
least_head : (b : Bool) (k : ℕ) (s : Slot) (ss : List (ℕ × Slot)) (m : Option ℕ) → reduce min (numbers ss) ≡ m
    → reduce min (numbers (cond b ((k, s) ∷ ss) ss)) ≡ lower (cond b (number_if_open s) None) m
least_head b k s ss m e = grind (arith, least_more)

pub least_is : (p : ℕ → Bool) (k : ℕ) (ss : List Slot) → reduce min (numbers (those_in p k ss)) ≡ lowest_in p k ss
unfolding lowest_in
least_is p k [] = refl
least_is p k (s ∷ ss) = least_head (p k) k s (those_in p (k + 1) ss) _ (least_is p (k + 1) ss ∙ ap (λ j. lowest_in p j ss) (omega arith))
