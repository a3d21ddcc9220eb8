-- What the changes of a transaction do to the lists.
use Rattle.std.proofs.Common.{◌≡◌, ℕ, cond, ◌⊎◌, List, [], ◌∷◌, Some, None, unwrap_or, refl, inl, false, arith}
use Rattle.std.proofs.lemmas.List.{set-set, set_comm}
use Rattle.std.proofs.lemmas.Bool.Decides.{nat_tests}
use Rattle.std.proofs.lemmas.Grind.{common_steps}
use Rattle.protocol.specs.declared.policy.Object.{Object}
use Rattle.serial.specs.Words.{Change, Store, same_object, Member}
use Rattle.serial.specs.Changes.{stored, store_at, apply, put, latest}
use Rattle.serial.specs.Serial.{recall, written}
use Rattle.serial.proofs.Basics.{same_object_eq}

store_at_cases : (s : Store) (k o : Object) (v : ℕ) → (stored (store_at s k v) o ≡ stored s o) ⊎ ((k ≡ o) × (stored (store_at s k v) o ≡ v))
store_at_cases s k o v = grind (arith, common_steps, nat_tests)

abbrev pub Wrote : List Change → Store → Object → ℕ → Type 0
Wrote ks s o n = (k : Change) × Member k ks × (k.object ≡ o) × (n ≡ k.value)

-- a number after the changes is the number before, or one of the changes wrote it
pub apply_cases : (ks : List Change) (s : Store) (o : Object) → (stored (apply ks s) o ≡ stored s o) ⊎ Wrote ks s o (stored (apply ks s) o)
unfolding apply
apply_cases [] s o = inl refl
apply_cases (k ∷ ks) s o = grind (arith, apply_cases ks (store_at s k.object k.value) o, store_at_cases s k.object o k.value)

-- a change after a put is that one or was there before
pub put_member : (o : Object) (v : ℕ) (ks : List Change) (k : Change) → Member k (put o v ks) → (k ≡ record { object = o; value = v }) ⊎ Member k ks
unfolding put
put_member o v [] k m = grind arith
put_member o v (c ∷ ks) k i = grind (arith, put_member o v ks k)

-- one change for each object
abbrev pub Once : List Change → Type 0
Once [] = Unit {0}
Once (k ∷ ks) = (latest ks k.object ≡ None) × Once ks

pub same_object_flip : (a b : Object) → same_object a b ≡ false → same_object b a ≡ false
same_object_flip a b e = grind (arith, nat_tests)

latest_put : (o : Object) (v : ℕ) (ks : List Change) (o' : Object) → latest (put o v ks) o' ≡ cond (same_object o o') (Some v) (latest ks o')
unfolding latest put
latest_put o v [] o' = refl
latest_put o v (k ∷ ks) o' = grind (arith, same_object_eq, latest_put o v ks o')

pub once_put : (o : Object) (v : ℕ) (ks : List Change) → Once ks → Once (put o v ks)
unfolding put latest
once_put o v [] d = (refl, tt)
once_put o v (k ∷ ks) d = grind (arith, same_object_flip, same_object_eq, latest_put o v ks, once_put o v ks)

-- the executor's newest-first notes and the workspace see the same
abbrev pub SeesAlike : List Change → List Change → Type 0
SeesAlike es ks = (o : Object) (d : ℕ) → recall es o d ≡ unwrap_or (latest ks o) d

pub sees_put : (o : Object) (v : ℕ) (es ks : List Change) → SeesAlike es ks → SeesAlike (record { object = o; value = v } ∷ es) (put o v ks)
unfolding recall
sees_put o v es ks h o' d = grind (arith, latest_put o v ks o', h o' d)

store_twice : (s : Store) (o : Object) (v w : ℕ) → store_at (store_at s o v) o w ≡ store_at s o w
store_twice s o v w = grind (arith, set-set)

store_swap : (s : Store) (o o' : Object) (v w : ℕ) → same_object o o' ≡ false → store_at (store_at s o v) o' w ≡ store_at (store_at s o' w) o v
store_swap s o o' v w e = grind (arith, set_comm, nat_tests)

-- a write of an object that the changes leave alone can come before them
apply_later : (ks : List Change) (s : Store) (o : Object) (v : ℕ) → latest ks o ≡ None → store_at (apply ks s) o v ≡ apply ks (store_at s o v)
unfolding apply latest
apply_later [] s o v e = refl
apply_later (k ∷ ks) s o v e = grind (arith, apply_later ks (store_at s k.object k.value) o v, store_swap s k.object o k.value v)

apply_put : (o : Object) (v : ℕ) (ks : List Change) → Once ks → (s : Store) → apply (put o v ks) s ≡ store_at (apply ks s) o v
unfolding apply put
apply_put o v [] d s = refl
apply_put o v (k ∷ ks) d s =
    grind (arith, apply_put o v ks d.1, apply_later ks (store_at s k.object k.value) o v, same_object_eq k.object o, store_twice s o k.value v)

-- and they leave the same lists
abbrev pub WritesAlike : List Change → List Change → Type 0
WritesAlike es ks = (s : Store) → written es s ≡ apply ks s

pub writes_put : (o : Object) (v : ℕ) (es ks : List Change) → Once ks → WritesAlike es ks → WritesAlike (record { object = o; value = v } ∷ es) (put o v ks)
unfolding written
writes_put o v es ks d h s = grind (arith, apply_put o v ks d s, h s)
