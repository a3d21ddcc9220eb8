-- Changes that go into lists, one after another.
use Rattle.std.proofs.Common.{◌≡◌, ℕ, ◌+◌, ◌<◌, ◌≤◌, leb, List, [], ◌∷◌, length, get_or, set, take, drop, sym, refl, ap, ◌∙◌, ⊎_elim, arith}
use Rattle.std.proofs.lemmas.Bool.{cases_Bool, leb-true, leb-false}
use Rattle.std.proofs.lemmas.List.{length-set, length-take, drop_all, drop_more, set_past, take-set-le}
use Rattle.std.proofs.Math.Seq.{take-set-lt}
use Rattle.protocol.specs.declared.policy.Object.{Object}
use Rattle.protocol.specs.declared.policy.Object.TheVariants.{OfCell, OfPolicy}
use Rattle.serial.specs.Words.{Store, Change}
use Rattle.serial.specs.Changes.{store_at, apply}
use Rattle.engine.specs.Stores.{first_cells}

pub apply_more : (ks : List Change) (n : ℕ) (d : Change) (s t z : Store) → n < length ks → apply (drop n ks) s ≡ z
    → t ≡ store_at s (get_or ks n d).object (get_or ks n d).value → apply (drop (n + 1) ks) t ≡ z
unfolding apply
apply_more ks n d s t z lt so stored = rw stored (rw (drop_more ks n d lt) at so)

pub apply_all : (ks : List Change) (n : ℕ) (s z : Store) → length ks ≤ n → apply (drop n ks) s ≡ z → s ≡ z
unfolding apply
apply_all ks n s z all so = rw (drop_all n ks all) at so

-- Changes leave as many numbers.
stored_size : (s : Store) (o : Object) (v : ℕ) → (length (store_at s o v).cells ≡ length s.cells) × (length (store_at s o v).rights ≡ length s.rights)
stored_size s (OfCell c) v = (length-set s.cells c v, refl)
stored_size s (OfPolicy p) v = (refl, length-set s.rights p v)

pub applied_size : (ks : List Change) (s : Store) → (length (apply ks s).cells ≡ length s.cells) × (length (apply ks s).rights ≡ length s.rights)
unfolding apply
applied_size [] s = (refl, refl)
applied_size (k ∷ ks) s =
    let a = applied_size ks (store_at s k.object k.value) in
    let b = stored_size s k.object k.value in
    (a.0 ∙ b.0, a.1 ∙ b.1)

-- Changes to the first n cells are those to all cells, of which the first n are taken.
take_set : (n : ℕ) (l : List ℕ) (i v : ℕ) → take n (set l i v) ≡ set (take n l) i v
take_set n l i v =
    ⊎_elim
    (λ past. let le = leb-true n i past in take-set-le n l i v le ∙ sym (set_past (take n l) i v (omega (arith, le, length-take n l))))
    (λ early. take-set-lt n l i v (leb-false n i early))
    (cases_Bool (leb n i))

first_stored : (n : ℕ) (s : Store) (o : Object) (v : ℕ) → first_cells n (store_at s o v) ≡ store_at (first_cells n s) o v
first_stored n s (OfCell c) v = ap (λ l. record { cells = l; rights = s.rights }) (take_set n s.cells c v)
first_stored n s (OfPolicy p) v = refl

pub first_applied : (n : ℕ) (ks : List Change) (s : Store) → first_cells n (apply ks s) ≡ apply ks (first_cells n s)
unfolding apply
first_applied n [] s = refl
first_applied n (k ∷ ks) s = first_applied n ks (store_at s k.object k.value) ∙ ap (apply ks) (first_stored n s k.object k.value)
