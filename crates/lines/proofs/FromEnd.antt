-- A line that is written from its end: its numbers from the last to the first, and then its letter.
use Rattle.std.proofs.Common.{◌≡◌, ℕ, ◌+◌, ◌-◌, ◌<◌, ◌≤◌, List, [], ◌∷◌, ◌++◌, length, drop, slice_set, sym, ap, ◌∙◌, arith, append_assoc, length-append}
use Rattle.std.proofs.lemmas.List.{append-nil, drop-set}
use Rattle.std.specs.Fmt.{decimal}
use Rattle.std.specs.List.{push}
use Rattle.records.specs.Buffers.{put_front}
use Rattle.lines.specs.Lines.{numbers_part, line}
use Rattle.lines.proofs.Buffers.{put}

-- numbers behind others have no more bytes than all
part_len : (xs ys : List ℕ) → length (numbers_part ys) ≤ length (numbers_part (xs ++ ys))
part_len [] ys = omega arith
part_len (x ∷ xs) ys = omega (arith, part_len xs ys, length-append (decimal x) (numbers_part (xs ++ ys)))

-- The numbers that are left come before those that are done, which stand from `start` on with the line feed; what stands behind the line stayed.
pub record FromEnd (numbers old : List ℕ) (len : ℕ) (left : List ℕ) (start : ℕ) (buffer : List ℕ) : Type 0 where
  pub done : List ℕ
  pub in_order : numbers ≡ left ++ done
  pub place : start + length (numbers_part done) ≡ len
  pub text : drop start buffer ≡ numbers_part done ++ drop len old

module _ (numbers old : List ℕ) (len : ℕ) (size : len ≡ 1 + length (numbers_part numbers)) (room : len ≤ length old) where
  pub line_feed : FromEnd numbers old len numbers (len - 1) (slice_set old (len - 1) 10)
  line_feed =
      let place : len - 1 + 1 ≡ len = omega arith in
      record {
        done = [];
        in_order = sym (append-nil numbers);
        place = place;
        text = drop-set old (len - 1) 10 (omega arith) ∙ ap (λ i. 10 ∷ drop i old) place;
      }

  module _ (left more : List ℕ) (number start : ℕ) (buffer : List ℕ) (written : FromEnd numbers old len left start buffer) (last : left ≡ push more number) where
    in_order' : numbers ≡ more ++ (number ∷ written.done)
    in_order' = written.in_order ∙ ap (λ xs. xs ++ written.done) last ∙ append_assoc more (number ∷ []) written.done

    -- there is room for one more number, and the letter
    pub has_room : 1 + length (decimal number) < start
    has_room =
        omega (arith, size, written.place, ap (λ xs. length (numbers_part xs)) in_order', part_len more (number ∷ written.done), length-append (decimal number) (numbers_part written.done))

    pub one_more : (start' : ℕ) (buffer' : List ℕ) → start' + (1 + length (decimal number)) ≡ start → drop start' buffer' ≡ 32 ∷ decimal number ++ drop start buffer → FromEnd numbers old len more start' buffer'
    one_more start' buffer' began said =
        record {
          done = number ∷ written.done;
          in_order = in_order';
          place = omega (arith, began, written.place, length-append (decimal number) (numbers_part written.done));
          text = said ∙ ap (λ xs. 32 ∷ (decimal number ++ xs)) written.text ∙ ap (λ xs. 32 ∷ xs) (sym (append_assoc (decimal number) (numbers_part written.done) (drop len old)));
        }

  pub letter_last : (left : List ℕ) (letter start : ℕ) (buffer : List ℕ) → FromEnd numbers old len left start buffer → length left ≡ 0 → length buffer ≡ length old → slice_set buffer 0 letter ≡ put_front (line (letter ∷ []) numbers) old
  letter_last [] letter start buffer written none long =
      let first : start ≡ 1 = omega (arith, size, written.place, ap (λ xs. length (numbers_part xs)) written.in_order) in
      let whole : len ≡ length (line (letter ∷ []) numbers) = omega (arith, size) in
      drop-set buffer 0 letter (omega arith)
      ∙ ap (λ i. letter ∷ drop i buffer) (sym first)
      ∙ ap (λ xs. letter ∷ xs) written.text
      ∙ ap (λ xs. letter ∷ (numbers_part xs ++ drop len old)) (sym written.in_order)
      ∙ ap (λ i. letter ∷ (numbers_part numbers ++ drop i old)) whole
      ∙ put (line (letter ∷ []) numbers) old (omega arith)
  letter_last (x ∷ xs) letter start buffer written none long = absurd (omega arith)
