-- What a store of any make holds.
use Rattle.std.specs.Prelude.{◌≡◌, ℕ, List, [], ◌∷◌, slice_set}
use Rattle.log_store.specs.Held as held
use Rattle.makes.specs.declared.store.AnyStore.{AnyStore}
use Rattle.makes.specs.declared.store.AnyStore.TheVariants.{Slice, Table, Log}

abbrev pub list_of : AnyStore → List ℕ
list_of (Slice s) = s.numbers.now
list_of (Table s) = s.numbers.items
list_of (Log s) = held.list_of s

-- The names of the memory that it was lent
abbrev pub lent_of : AnyStore → List ℕ
lent_of (Slice s) = s.numbers.ghost_name ∷ []
lent_of (Table s) = []
lent_of (Log s) = held.lent_of s

-- A write is one to the store of its make.
abbrev pub IsWritten : AnyStore → ℕ → ℕ → AnyStore → Type 0
IsWritten (Slice s) at v (Slice t) = t.numbers.now ≡ slice_set s.numbers.now at v
IsWritten (Table s) at v (Table t) = t.numbers.items ≡ slice_set s.numbers.items at v
IsWritten (Log s) at v (Log t) = held.IsWritten s at v t
IsWritten s at v t = ⊥
