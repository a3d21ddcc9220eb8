-- Some writes to a store, one after another.
use Rattle.std.specs.Prelude.{◌≡◌, ℕ, List, [], ◌∷◌}
use Rattle.stores.specs.declared.store.Store as store

-- The writes, each a position and a number, make of the one store the other; none leave the store itself as it is.
unfoldable pub Written : {S : Type 0} → store.Ghosts S → List (ℕ × ℕ) → S → S → Type 0
Written s [] before after = after ≡ before
Written {S} s ((at, value) ∷ writes) before after = (next : S) × s.written before at value next × Written s writes next after
