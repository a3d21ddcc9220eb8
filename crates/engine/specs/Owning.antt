-- Which changes leave alone the cells that are not the engine's: its own are the first n, and a policy is no cell.
use Rattle.std.specs.Prelude.{◌≡◌, ℕ, Bool, true, List, nat_lt}
use Rattle.std.specs.List.{list_all}
use Rattle.protocol.specs.declared.policy.Object.{Object}
use Rattle.protocol.specs.declared.policy.Object.TheVariants.{OfCell, OfPolicy}
use Rattle.serial.specs.Words.{Change}
use Rattle.serial.specs.Model.{Slot}
use Rattle.serial.specs.Writes.{slot_changes}

abbrev pub is_own : ℕ → Object → Bool
is_own n (OfCell c) = nat_lt c n
is_own n (OfPolicy p) = true

abbrev pub all_own : ℕ → List Change → Bool
all_own n ks = list_all (λ k. is_own n k.object) ks

-- No open transaction has a change to a cell that is not the engine's.
abbrev pub OwnCells : ℕ → List Slot → Type 0
OwnCells n slots = list_all (λ s. all_own n (slot_changes s)) slots ≡ true
