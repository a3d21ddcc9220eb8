-- The numbers of a store, word by word.
use Rattle.std.proofs.Common.{◌≡◌, ℕ, ◌+◌, ◌<◌, ◌≤◌, true, false, ◌&&◌, List, [], ◌∷◌, ◌++◌, length, get_or, drop, Some, None, Option, sym, refl, ap, ◌∙◌, append_assoc, arith}
use Rattle.std.specs.Option.{option_map, is_some}
use Rattle.std.specs.List.{list_all}
use Rattle.std.proofs.lemmas.List.{append-nil, length-append, at_drop_more, at_drop_all}
use Rattle.setup_file.specs.declared.setup.Make.{Make}
use Rattle.setup_file.specs.Items.{StoreContent, numbers_of, store_made, ◌>>=◌}
use Rattle.setup_file.specs.Words.{long_of}

-- Of the words so many were read, and their numbers stand before those of the words that are left.
abbrev pub NumbersRead : List (List ℕ) → ℕ → List ℕ → Type 0
NumbersRead words i numbers = option_map (λ more. numbers ++ more) (numbers_of (drop i words)) ≡ numbers_of words

pub none_read : (words : List (List ℕ)) → NumbersRead words 0 []
none_read words = elim (numbers_of words) as (λ o. option_map (λ more. [] ++ more) o ≡ o) [ None ↦ refl | Some ns ↦ refl ]

prepended : (numbers : List ℕ) (n : ℕ) (o : Option (List ℕ)) → option_map (λ more. numbers ++ more) (o >>= (λ ns. Some (n ∷ ns))) ≡ option_map (λ more. (numbers ++ n ∷ []) ++ more) o
prepended numbers n None = refl
prepended numbers n (Some ns) = ap Some (sym (append_assoc numbers (n ∷ []) ns))

module _ (words : List (List ℕ)) (i : ℕ) (numbers : List ℕ) (read : NumbersRead words i numbers) where
  module _ (word : List ℕ) (next : (i < length words) × (word ≡ get_or words i word)) where
    one_word : option_map (λ m. numbers ++ m) (long_of word >>= (λ k. numbers_of (drop (i + 1) words) >>= (λ ns. Some (k ∷ ns)))) ≡ numbers_of words
    unfolding numbers_of
    one_word =
        let left = numbers_of (drop (i + 1) words) in
        ap (λ w. option_map (λ m. numbers ++ m) (long_of w >>= (λ k. left >>= (λ ns. Some (k ∷ ns))))) next.1
        ∙ sym (at_drop_more (λ ws. option_map (λ m. numbers ++ m) (numbers_of ws)) words i word next.0)
        ∙ read

    pub numbers_more : (n : ℕ) (more : List ℕ) → Some n ≡ long_of word → more ≡ numbers ++ n ∷ [] → NumbersRead words (i + 1) more
    numbers_more n more is e =
        let left = numbers_of (drop (i + 1) words) in
        ap (λ ns. option_map (λ m. ns ++ m) left) e
        ∙ sym (prepended numbers n left)
        ∙ ap (λ o. option_map (λ m. numbers ++ m) (o >>= (λ k. left >>= (λ ns. Some (k ∷ ns))))) is
        ∙ one_word

    pub numbers_stop : None ≡ long_of word → None ≡ numbers_of words
    numbers_stop is =
        let left = numbers_of (drop (i + 1) words) in
        ap (λ o. option_map (λ m. numbers ++ m) (o >>= (λ k. left >>= (λ ns. Some (k ∷ ns))))) is ∙ one_word

  pub numbers_end : length words ≤ i → Some numbers ≡ numbers_of words
  unfolding numbers_of
  numbers_end h = ap Some (sym (append-nil numbers)) ∙ sym (at_drop_all (λ ws. option_map (λ m. numbers ++ m) (numbers_of ws)) words i h) ∙ read

longer : (numbers all : List ℕ) (o : Option (List ℕ)) → option_map (λ more. numbers ++ more) o ≡ Some all → length numbers ≤ length all
longer numbers all None e = absurd cc
longer numbers all (Some more) e =
    let joined : numbers ++ more ≡ all = cc in
    let n = length-append numbers more in
    let m = ap length joined in
    omega (arith, n, m)

pub numbers_within : (words : List (List ℕ)) (i : ℕ) (numbers : List ℕ) → NumbersRead words i numbers → (all : List ℕ) → numbers_of words ≡ Some all
    → length numbers ≤ length all
numbers_within words i numbers read all e = longer numbers all (numbers_of (drop i words)) (read ∙ e)

-- ---- without keeping them

chained : (a : Option ℕ) (b : Option (List ℕ)) → (is_some a && is_some b) ≡ is_some (a >>= (λ k. b >>= (λ ns. Some (k ∷ ns))))
chained None b = refl
chained (Some n) None = refl
chained (Some n) (Some ns) = refl

pub numbers_known : (words : List (List ℕ)) → list_all (λ w. is_some (long_of w)) words ≡ is_some (numbers_of words)
unfolding numbers_of
numbers_known [] = refl
numbers_known (w ∷ ws) = ap (λ b. is_some (long_of w) && b) (numbers_known ws) ∙ chained (long_of w) (numbers_of ws)

known : (o : Option (List ℕ)) → is_some o ≡ true → (numbers : List ℕ) × (o ≡ Some numbers)
known None e = let said : false ≡ true = e in absurd cc
known (Some numbers) e = (numbers, refl)

pub words_known : (words : List (List ℕ)) → is_some (numbers_of words) ≡ true → (numbers : List ℕ) × (numbers_of words ≡ Some numbers)
words_known words e = known (numbers_of words) e

module _ (make : Make) (words : List (List ℕ)) where
  unmade : (o : Option (List ℕ)) → is_some o ≡ false → ◌≡◌ {A = Option StoreContent} (o >>= (λ numbers. Some (record { make = make; numbers = numbers }))) None
  unmade None e = refl
  unmade (Some ns) e = let said : true ≡ false = e in absurd cc

  pub store_unknown : is_some (numbers_of words) ≡ false → store_made make words ≡ None
  store_unknown e = unmade (numbers_of words) e

  pub stored : (numbers : List ℕ) → numbers_of words ≡ Some numbers → store_made make words ≡ Some (record { make = make; numbers = numbers })
  stored numbers e = ap (λ o. o >>= (λ ns. Some (record { make = make; numbers = ns }))) e
