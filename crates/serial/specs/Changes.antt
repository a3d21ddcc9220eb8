-- The workspace of a transaction: its changes, one for each cell or policy, which go into the lists at its commit.
use Rattle.std.specs.Prelude.{ℕ, Bool, cond, ◌||◌, List, [], ◌∷◌, length, is_some, Some, None, Option, nat_lt, slice_index, slice_set}
use Rattle.std.specs.Option.{unwrap_or}
use Rattle.protocol.specs.declared.policy.Object.{Object}
use Rattle.protocol.specs.declared.policy.Object.TheVariants.{OfCell, OfPolicy}
use Rattle.serial.specs.Words.{Store, Change, same_object}

abbrev pub stored : Store → Object → ℕ
stored s (OfCell c) = slice_index s.cells c
stored s (OfPolicy p) = slice_index s.rights p

abbrev pub store_at : Store → Object → ℕ → Store
store_at s (OfCell c) v = record { cells = slice_set s.cells c v; rights = s.rights }
store_at s (OfPolicy p) v = record { cells = s.cells; rights = slice_set s.rights p v }

-- The value that the changes give an object, if they change it
unfoldable pub latest : List Change → Object → Option ℕ
latest [] o = None
latest (k ∷ ks) o = cond (same_object k.object o) (Some k.value) (latest ks o)

-- A later value of an object replaces the earlier one.
unfoldable pub put : Object → ℕ → List Change → List Change
put o v [] = record { object = o; value = v } ∷ []
put o v (k ∷ ks) = cond (same_object k.object o) (record { object = o; value = v } ∷ ks) (k ∷ put o v ks)

-- There is room for 16 changes; a replaced one takes no more.
unfoldable pub room : List Change → Object → Bool
room ks o = is_some (latest ks o) || nat_lt (length ks) 16

-- What a transaction with these changes sees at an object
unfoldable pub seen : Store → List Change → Object → ℕ
seen s ks o = unwrap_or (latest ks o) (stored s o)

-- The lists after the changes went into them
unfoldable pub apply : List Change → Store → Store
apply [] s = s
apply (k ∷ ks) s = apply ks (store_at s k.object k.value)
