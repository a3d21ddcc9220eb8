-- Numbers and the words that they are read from.
use Rattle.std.proofs.Common.{◌≡◌, ℕ, ◌+◌, ◌*◌, ◌<◌, ◌≤◌, true, List, length, get_or, take, take_all, Some, None, sym, ap, ◌∙◌, ap₂, arith, subst}
use Rattle.std.specs.Char.{digit_value}
use Rattle.std.specs.Str.{all_ascii_digits}
use Rattle.std.specs.Str.Parse.{AllDigits, digits_value}
use Rattle.std.proofs.lemmas.Bool.{cond-true, cond-false, and_parts, and_from, ltb-true, lt-ltb, leb-true, le-leb, false_from_ne_true}
use Rattle.std.proofs.lemmas.Int.Digits.{digits_value_more, digits_more}
use Rattle.std.proofs.lemmas.Str.{digit_value_digit}
use Rattle.std.proofs.lemmas.Str.Parse.{IsNumeralModel, numerals_by_value, tells_all_ascii_digits, digit_at, digits_value-take-le}
use Rattle.setup_file.specs.Words.{number_of}

pub numerals : IsNumeralModel (λ ds. all_ascii_digits ds ≡ true) (digits_value 10)
numerals = numerals_by_value _ tells_all_ascii_digits

pub number_is : (limit : ℕ) (word : List ℕ) → 0 < length word → AllDigits 10 word → digits_value 10 word ≤ limit → Some (digits_value 10 word) ≡ number_of limit word
number_is limit word some digits within =
    sym (cond-true _ _ _ (and_from _ _ (and_from _ _ (lt-ltb 0 (length word) some) (numerals.from word digits)) (le-leb _ limit within)))

pub no_number : (limit : ℕ) (word : List ℕ) → (0 < length word → AllDigits 10 word → digits_value 10 word ≤ limit → ⊥) → None ≡ number_of limit word
no_number limit word fails =
    sym (cond-false _ _ _ (false_from_ne_true _ (λ t. let p = and_parts _ _ t in let q = and_parts _ _ p.0 in fails (ltb-true 0 (length word) q.0) (numerals.to word q.1) (leb-true _ limit p.1))))

pub empty_word : (limit : ℕ) (word : List ℕ) → length word ≡ 0 → None ≡ number_of limit word
empty_word limit word e = no_number limit word (λ some _ _. absurd (omega (arith, some)))

-- So many digits were read, to this value.
pub record DigitsRead (word : List ℕ) (i value : ℕ) : Type 0 where
  pub digits : AllDigits 10 (take i word)
  pub is : value ≡ digits_value 10 (take i word)
  pub fits : value ≤ 4294967295

module _ (word : List ℕ) (i value : ℕ) (r : DigitsRead word i value) where
  pub all_read : 0 < length word → length word ≤ i → Some value ≡ number_of 4294967295 word
  all_read some end =
      let whole = take_all i word end in
      let e : value ≡ digits_value 10 word = r.is ∙ ap (digits_value 10) whole in
      ap Some e ∙ number_is 4294967295 word some (subst (AllDigits 10) whole r.digits) (omega (arith, e, r.fits))

  -- with the next byte b
  module _ (b : ℕ) (h : i < length word) (at : b ≡ get_or word i 0) where
    pub no_digit : (digit_value b < 10 → ⊥) → None ≡ number_of 4294967295 word
    no_digit fails =
        no_number 4294967295 word (λ _ all _. let d = digit_at word i all h in let e = digit_value_digit (get_or word i 0) d in fails (subst (λ x. digit_value x < 10) (sym at) (omega (arith, e, d))))

    pub too_large : (value * 10 + digit_value b ≤ 4294967295 → ⊥) → None ≡ number_of 4294967295 word
    too_large fails =
        let more = digits_value_more 10 word i h in
        let front = digits_value-take-le 10 word (i + 1) (omega arith) in
        let same = ap digit_value at in
        no_number 4294967295 word (λ _ _ within. fails (omega (arith, r.is, more, front, same, within)))

    pub one_more : (n : ℕ) → digit_value b < 10 → n ≡ value * 10 + digit_value b → n < 4294967296 → DigitsRead word (i + 1) n
    one_more n small e fits =
        let same = ap digit_value at in
        record {
          digits = digits_more 10 word i h r.digits (omega (arith, small, same));
          is = e ∙ ap₂ (λ v d. v * 10 + d) r.is same ∙ sym (digits_value_more 10 word i h);
          fits = omega (arith, fits);
        }
