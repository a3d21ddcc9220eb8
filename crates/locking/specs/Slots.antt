-- Sets of slots, as masks. There are 16 slots, 0 to 15; where a slot is named that holds a lock, 16 stands for none.
use Rattle.std.specs.Prelude.{◌≡◌, ℕ, ◌<◌, zero, suc, ◌+◌, ◌/◌, ◌%◌, ◌^◌, Bool, true, false, cond, ◌&&◌, ◌==◌, nat_lt}

-- whether slot k is in the mask
unfoldable pub has : ℕ → ℕ → Bool
has mask k = mask / 2 ^ k % 2 == 1

-- the same slots, with slot i in
abbrev pub with_bit : (ℕ → Bool) → ℕ → ℕ → Bool
with_bit p i k = cond (k == i) true (p k)

-- the same slots, with slot i out
abbrev pub without_bit : (ℕ → Bool) → ℕ → ℕ → Bool
without_bit p i k = cond (k == i) false (p k)

-- Slot i is in, and none below it.
abbrev pub IsLowest : (ℕ → Bool) → ℕ → Type 0
IsLowest p i = (p i ≡ true) × ((k : ℕ) → k < i → p k ≡ false)

-- how many slots below n are in
abbrev pub count_below : (ℕ → Bool) → ℕ → ℕ
count_below p zero = 0
count_below p (suc n) = cond (p n) 1 0 + count_below p n

-- whether slot k is the one that is named
abbrev pub is_holder : ℕ → ℕ → Bool
is_holder holder k = nat_lt k 16 && k == holder
