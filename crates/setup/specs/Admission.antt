-- What set-up refuses, in its order, and the state in which a day begins.
use Rattle.std.specs.Prelude.{ℕ, Bool, cond, ◌&&◌, List, length, replicate, ◌==◌, nat_le, nat_lt, slice_index}
use Rattle.std.specs.List.{list_all}
use Rattle.protocol.specs.Refusals.{Outcome, answered, refused}
use Rattle.protocol.specs.declared.policy.Object.{Object}
use Rattle.protocol.specs.declared.policy.Object.TheVariants.{OfCell, OfPolicy}
use Rattle.protocol.specs.declared.policy.Policy.{Policy}
use Rattle.serial.specs.Model.{State, free}

-- At most 256 cells and 64 policies
abbrev pub small : ℕ → ℕ → Bool
small cells policies = nat_le cells 256 && nat_le policies 64

-- The object is one of so many cells or policies.
abbrev pub present : ℕ → ℕ → Object → Bool
present cells policies (OfCell c) = nat_lt c cells
present cells policies (OfPolicy p) = nat_lt p policies

-- As many policies as rights, and every policy's object is there
abbrev pub paired : ℕ → ℕ → List Policy → Bool
paired cells rights policies = length policies == rights && list_all (λ p. present cells (length policies) p.object) policies

-- A right is stored at the position.
abbrev pub stored : (ℕ → Bool) → List ℕ → ℕ → Bool
stored right rights at = nat_lt at (length rights) && right (slice_index rights at)

-- By which codes are rights, the cells, the stored rights and the policies
abbrev pub setup_check : (ℕ → Bool) → List ℕ → List ℕ → List Policy → Outcome (Unit {0})
setup_check right cells rights policies =
    cond (small (length cells) (length policies))
    (cond (paired (length cells) (length rights) policies) (cond (list_all right rights) (answered tt) (refused 16)) (refused 15))
    (refused 14)

-- Nothing has been opened yet.
abbrev pub first_state : List ℕ → List ℕ → State
first_state cells rights = record { store = record { cells = cells; rights = rights }; slots = replicate 16 free; opened = 0; commits = 0 }
