-- What the search for an object's change says of the changes. Assumes nothing.
use Rattle.std.proofs.Common.{◌≡◌, ℕ, ◌<◌, ◌≤◌, ◌||◌, ltb, List, [], ◌∷◌, ◌++◌, length, set, is_some, Some, None, Option, refl, one-add, arith}
use Rattle.std.specs.Option.{option_map}
use Rattle.std.specs.List.{find, position, position_or_len}
use Rattle.std.proofs.lemmas.Bool.Decides.{nat_tests}
use Rattle.protocol.specs.declared.policy.Object.{Object}
use Rattle.serial.specs.Words.{Change}
use Rattle.serial.specs.Changes.{latest, put, room}
use Rattle.workspace.specs.Workspaces.{is_of}

abbrev pub change : Object → ℕ → Change
change o v = record { object = o; value = v }

abbrev pub value_in : Option Change → Option ℕ
value_in m = option_map (λ (k : Change). k.value) m

module _ (o : Object) where
  pub latest_is : (ks : List Change) → value_in (find (is_of o) ks) ≡ latest ks o
  unfolding latest
  latest_is [] = refl
  latest_is (k ∷ ks) = grind (arith, latest_is ks)

  there : (ks : List Change) → is_some (latest ks o) ≡ ltb (position_or_len (is_of o) ks) (length ks)
  unfolding latest
  there [] = refl
  there (k ∷ ks) = grind (arith, nat_tests, there ks)

  put_old : (ks : List Change) (v : ℕ) → position_or_len (is_of o) ks < length ks → put o v ks ≡ set ks (position_or_len (is_of o) ks) (change o v)
  unfolding put
  put_old [] v h = absurd (omega arith)
  put_old (k ∷ ks) v h = grind (arith, one-add, put_old ks v)

  put_new : (ks : List Change) (v : ℕ) → length ks ≤ position_or_len (is_of o) ks → put o v ks ≡ ks ++ change o v ∷ []
  unfolding put
  put_new [] v h = refl
  put_new (k ∷ ks) v h = grind (arith, put_new ks v)

  -- by what the search answers
  pub room_is : (ks : List Change) (m : Option ℕ) → m ≡ position (is_of o) ks → room ks o ≡ (is_some m || ltb (length ks) 16)
  unfolding room
  room_is ks m e = grind (arith, nat_tests, there ks)

  pub put_at : (ks : List Change) (v n : ℕ) → Some n ≡ position (is_of o) ks → (n < length ks) × (put o v ks ≡ set ks n (change o v))
  put_at ks v n e = grind (arith, nat_tests, put_old ks v)

  pub put_behind : (ks : List Change) (v : ℕ) → None ≡ position (is_of o) ks → put o v ks ≡ ks ++ change o v ∷ []
  put_behind ks v e = grind (arith, nat_tests, put_new ks v)
