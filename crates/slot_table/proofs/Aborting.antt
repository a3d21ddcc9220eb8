-- Open slots of a set turn into aborted ones, one after another. Assumes nothing.
use Rattle.std.proofs.Common.{◌≡◌, ℕ, suc, ◌≤◌, Bool, true, cond, ◌&&◌, ltb, List, [], ◌∷◌, length, get_or, take, count_by, arith}
use Rattle.std.proofs.lemmas.List.Sums.{sum_by-cons}
use Rattle.std.proofs.lemmas.Bool.Decides.{nat_tests}
use Rattle.std.proofs.lemmas.Grind.{common_steps}
use Rattle.slot_table.specs.declared.slot.Slot.{Slot}
use Rattle.slot_table.specs.declared.slot.Slot.TheVariants.{Free}
use Rattle.slot_table.specs.Slots.{abort_if, is_open, Numbered, Apart}

-- Those below n that are in the set are aborted.
abbrev pub AbortedBelow : ℕ → (ℕ → Bool) → ℕ → ℕ → List Slot → List Slot → Type 0
AbortedBelow n p by policy us vs = (k : ℕ) → get_or vs k Free ≡ abort_if (ltb k n && p k) by policy (get_or us k Free)

module _ (p : ℕ → Bool) (by policy : ℕ) (us : List Slot) (n : ℕ) (vs : List Slot) (below : AbortedBelow n p by policy us vs) where
  pub aborted_all : length us ≤ n → (k : ℕ) → get_or vs k Free ≡ abort_if (p k) by policy (get_or us k Free)
  aborted_all l k = grind (arith, common_steps, nat_tests, below k)

-- the slots in use, where all slots are aborted that are in the set
module _ (p : ℕ → Bool) (by policy : ℕ) (us vs : List Slot) (size : length vs ≡ length us)
    (struck : (k : ℕ) → get_or vs k Free ≡ abort_if (p k) by policy (get_or us k Free)) where
  pub aborted_used : (n k : ℕ) → get_or (take n vs) k Free ≡ abort_if (p k) by policy (get_or (take n us) k Free)
  aborted_used n k = grind (arith, common_steps, struck k)

  pub aborted_numbered : (m : ℕ) → Numbered m us → Numbered m vs
  aborted_numbered m known k = grind (arith, known k, struck k)

  pub aborted_apart : Apart us → Apart vs
  aborted_apart apart i j e = grind (arith, nat_tests, struck i, struck j, apart i j)

abbrev open_one : Slot → ℕ
open_one s = cond (is_open s) 1 0

fewer_open : (us vs : List Slot) → length vs ≡ length us → ((k : ℕ) → is_open (get_or vs k Free) ≡ true → is_open (get_or us k Free) ≡ true) → count_by is_open vs ≤ count_by is_open us
fewer_open [] [] size f = omega arith
fewer_open [] (v ∷ vs) size f = absurd (omega arith)
fewer_open (u ∷ us) [] size f = absurd (omega arith)
fewer_open (u ∷ us) (v ∷ vs) size f = grind (arith, sum_by-cons open_one u us, sum_by-cons open_one v vs, f 0, fewer_open us vs (omega arith) (λ k. f (suc k)))

pub aborted_count : (p : ℕ → Bool) (by policy : ℕ) (us vs : List Slot) → length vs ≡ length us
    → ((k : ℕ) → get_or vs k Free ≡ abort_if (p k) by policy (get_or us k Free)) → count_by is_open vs ≤ count_by is_open us
aborted_count p by policy us vs size struck = fewer_open us vs size (λ k on. grind (arith, struck k))
