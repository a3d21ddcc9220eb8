-- What a store on a log holds, and the bytes that a write leaves.
use Rattle.std.specs.Prelude.{◌≡◌, ℕ, List, [], ◌∷◌}
use Rattle.log_store.specs.Log.{bytes_after, log_list}
use Rattle.log_store.specs.declared.held.LogStore.{LogStore}

abbrev pub bytes_of : LogStore → List ℕ
bytes_of s = s.bytes.now

abbrev pub list_of : LogStore → List ℕ
list_of s = log_list s.count (bytes_of s)

-- A write: the count stays, and the bytes are those that it leaves.
abbrev pub IsWritten : LogStore → ℕ → ℕ → LogStore → Type 0
IsWritten before at v after = (after.count ≡ before.count) × (bytes_of after ≡ bytes_after before.count (bytes_of before) at v)

-- The name of the bytes that it was lent
abbrev pub lent_of : LogStore → List ℕ
lent_of s = s.bytes.ghost_name ∷ []
