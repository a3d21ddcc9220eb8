-- Words that are written with spaces between, and lines of them, are read back.
use Rattle.std.proofs.Common.{◌≡◌, ℕ, ◌<◌, ◌≤◌, Bool, true, false, not, ◌||◌, eqb, List, [], ◌∷◌, ◌++◌, length, take, take_all, map, Some, sym, refl, ap, ◌∙◌, arith, append_assoc, decimal}
use Rattle.std.specs.Int.{IsInRange}
use Rattle.std.specs.List.{All, AllByRecursion, slice_split, join_with_byte, before_first, filter, flat_map, list_all}
use Rattle.std.specs.Str.Parse.{AllDigits}
use Rattle.std.proofs.lemmas.Bool.{cond-true, and_from, or_parts, or_from, not-true, not_from_false, ne_eqb}
use Rattle.std.proofs.lemmas.Fmt.{decimal_is_IsNumeral}
use Rattle.std.proofs.lemmas.List.Elements.{All-nil, All-cons, All-append, All-weaker}
use Rattle.std.proofs.lemmas.List.Splits.{slice_split_none, slice_split_at}
use Rattle.std.proofs.lemmas.List.Sums.{AllPass-from_list_all, position_or_len_is}
use Rattle.std.proofs.lemmas.Str.Parse.{digit_from_value}
use Rattle.setup_file.specs.Words.{is_blank, words_of, number_of}
use Rattle.setup_file.specs.Texts.{line_of}
use Rattle.setup_file.proofs.Numbers.{number_is}

-- b ends no word
abbrev pub plain : ℕ → Bool
plain b = not (is_blank b || eqb b 35 || eqb b 10)

-- A word that reads as itself.
pub record IsWord (word : List ℕ) : Type 0 where
  pub some : 0 < length word
  pub plain : list_all plain word ≡ true

plain_parts : (b : ℕ) → plain b ≡ true → (is_blank b ≡ false) × (eqb b 35 ≡ false) × (eqb b 10 ≡ false)
plain_parts b e = let p = or_parts _ _ (not-true _ e) in let q = or_parts _ _ p.0 in (q.0, q.1, p.1)

module _ (word : List ℕ) (is : IsWord word) where
  no_blank : All (λ b. is_blank b ≡ false) word
  no_blank = All-weaker _ _ (λ b e. (plain_parts b e).0) word (AllPass-from_list_all plain word is.plain)

  no_comment : All (λ b. eqb b 35 ≡ false) word
  no_comment = All-weaker _ _ (λ b e. (plain_parts b e).1) word (AllPass-from_list_all plain word is.plain)

  no_line_feed : All (λ b. eqb b 10 ≡ false) word
  no_line_feed = All-weaker _ _ (λ b e. (plain_parts b e).2) word (AllPass-from_list_all plain word is.plain)

joined : (P : ℕ → Type 0) (space : P 32) (each : (word : List ℕ) → IsWord word → All P word) (words : List (List ℕ)) → AllByRecursion IsWord words → All P (join_with_byte 32 words)
joined P space each [] h = All-nil P
joined P space each (w ∷ []) (h, hs) = each w h
joined P space each (w ∷ v ∷ more) (h, hs) = All-append P w (32 ∷ join_with_byte 32 (v ∷ more)) (each w h) (All-cons P 32 (join_with_byte 32 (v ∷ more)) space (joined P space each (v ∷ more) hs))

parts : (w : List ℕ) (words : List (List ℕ)) → AllByRecursion IsWord (w ∷ words) → slice_split is_blank (join_with_byte 32 (w ∷ words)) ≡ w ∷ words
parts w [] (h, hs) = slice_split_none is_blank w (no_blank w h)
parts w (v ∷ more) (h, hs) = slice_split_at is_blank w 32 (join_with_byte 32 (v ∷ more)) (no_blank w h) refl ∙ ap (λ ws. w ∷ ws) (parts v more hs)

kept : (words : List (List ℕ)) → AllByRecursion IsWord words → filter (λ word. not (eqb (length word) 0)) words ≡ words
kept [] h = refl
kept (w ∷ words) (h, hs) = cond-true _ _ _ (not_from_false _ (ne_eqb (length w) 0 (λ e. absurd (omega (arith, h.some, e))))) ∙ ap (λ ws. w ∷ ws) (kept words hs)

whole : (line : List ℕ) → All (λ b. eqb b 35 ≡ false) line → before_first (λ b. eqb b 35) line ≡ line
whole line h =
    ap (λ n. take n line) (position_or_len_is (λ b. eqb b 35) line (length line) 0 (omega arith) (λ k l. h k 0 l) (λ l. absurd (omega arith)))
    ∙ take_all (length line) line (omega arith)

pub words_back : (w : List ℕ) (words : List (List ℕ)) → AllByRecursion IsWord (w ∷ words) → words_of (join_with_byte 32 (w ∷ words)) ≡ w ∷ words
words_back w words h =
    ap (λ l. filter (λ word. not (eqb (length word) 0)) (slice_split is_blank l)) (whole _ (joined (λ b. eqb b 35 ≡ false) refl no_comment (w ∷ words) h))
    ∙ ap (filter (λ word. not (eqb (length word) 0))) (parts w words h)
    ∙ kept (w ∷ words) h

pub lines_back : (items : List (List (List ℕ))) → AllByRecursion (AllByRecursion IsWord) items → slice_split (λ b. eqb b 10) (flat_map line_of items) ≡ map (join_with_byte 32) items ++ [] ∷ []
lines_back [] h = refl
lines_back (words ∷ more) (h, hs) =
    ap (slice_split (λ b. eqb b 10)) (append_assoc (join_with_byte 32 words) (10 ∷ []) (flat_map line_of more))
    ∙ slice_split_at (λ b. eqb b 10) (join_with_byte 32 words) 10 (flat_map line_of more) (joined (λ b. eqb b 10 ≡ false) refl no_line_feed words h) refl
    ∙ ap (λ ls. join_with_byte 32 words ∷ ls) (lines_back more hs)

plain_digit : (c : ℕ) → IsInRange 48 57 c → plain c ≡ true
plain_digit c r =
    let differs = λ (n : ℕ) (h : n < 48). ne_eqb c n (λ e. absurd (omega (arith, r.0, e, h))) in
    not_from_false _ (or_from _ _ (or_from _ _ (or_from _ _ (or_from _ _ (differs 32 (omega arith)) (differs 9 (omega arith))) (differs 13 (omega arith))) (differs 35 (omega arith))) (differs 10 (omega arith)))

digits_plain : (ds : List ℕ) → AllDigits 10 ds → list_all plain ds ≡ true
digits_plain [] h = refl
digits_plain (c ∷ cs) (d, ds) = and_from _ _ (plain_digit c (digit_from_value c d)) (digits_plain cs ds)

pub decimal_word : (n : ℕ) → n ≤ 4294967295 → IsWord (decimal n)
decimal_word n h = let d = decimal_is_IsNumeral n (omega arith) in record { some = d.0.0; plain = digits_plain (decimal n) d.0.1 }

pub number_back : (limit n : ℕ) → n ≤ limit → limit ≤ 4294967295 → number_of limit (decimal n) ≡ Some n
number_back limit n h l =
    let d = decimal_is_IsNumeral n (omega arith) in
    sym (number_is limit (decimal n) d.0.0 d.0.1 (omega (arith, d.1))) ∙ ap Some d.1
