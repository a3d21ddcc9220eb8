-- Lines at the front of a buffer, and one more behind them.
use Rattle.std.proofs.Common.{◌≡◌, ℕ, ◌+◌, ◌-◌, List, [], ◌∷◌, ◌++◌, length, take, drop, sym, refl, ap, ap₂, ◌∙◌, append_assoc, arith, length-append}
use borrow.Rule.Slice.PartMut.{put_mid}
use Rattle.std.proofs.lemmas.List.{append-nil, take_at, drop_at, drop-drop}
use Rattle.protocol.specs.Refusals.{answered}
use Rattle.protocol.specs.declared.answer.Answer.{Answer}
use Rattle.records.specs.Buffers.{put_answer, put_front}
use Rattle.lines.specs.Lines.{answer_line, answer_lines}
use Rattle.lines.proofs.Buffers.{put, fits_from, written_behind}

-- a line that was written to the part of a buffer from a place on
pub pushed : (line buffer part last : List ℕ) (end n : ℕ) → part ≡ drop end buffer → answered n ≡ put_answer line part → last ≡ put_front line part
    → put_mid end (length buffer - end) buffer last ≡ take end buffer ++ line ++ drop (end + n) buffer
pushed line buffer part last end n is told written =
    let f = fits_from line part n told in
    written_behind buffer end last
    ∙ ap (λ xs. take end buffer ++ xs)
    (written ∙ sym (put line part f.1) ∙ ap (λ xs. line ++ xs) (ap₂ drop (sym f.0) is ∙ drop-drop n end buffer))
    ∙ sym (append_assoc (take end buffer) line (drop (end + n) buffer))

-- one answer's line more
lines_push : (answers : List Answer) (a : Answer) → answer_lines (answers ++ a ∷ []) ≡ answer_lines answers ++ answer_line a
unfolding answer_lines
lines_push [] a = append-nil (answer_line a)
lines_push (x ∷ xs) a = ap (λ ls. answer_line x ++ ls) (lines_push xs a) ∙ sym (append_assoc (answer_line x) (answer_lines xs) (answer_line a))

-- the lines so far at the front of the buffer, and the bytes that stayed behind them
pub record Front (lines whole : List ℕ) (end : ℕ) (buffer : List ℕ) : Type 0 where
  pub size : end ≡ length lines
  pub text : buffer ≡ lines ++ drop end whole

pub front_none : (whole : List ℕ) → Front [] whole 0 whole
front_none whole = record { size = refl; text = refl }

pub front_more : {lines whole buffer : List ℕ} {end : ℕ} → Front lines whole end buffer → (line last : List ℕ) (to : ℕ) → to ≡ end + length line
    → last ≡ take end buffer ++ line ++ drop to buffer → Front (lines ++ line) whole to last
front_more {lines} {whole} {buffer} {end} f line last to ends written =
    let front : take end buffer ≡ lines = ap (take end) f.text ∙ take_at lines (drop end whole) end (sym f.size) in
    let later : drop to buffer ≡ drop to whole =
    ap (λ n. drop n buffer) ends
    ∙ sym (drop-drop (length line) end buffer)
    ∙ ap (drop (length line)) (ap (drop end) f.text ∙ drop_at lines (drop end whole) end (sym f.size))
    ∙ drop-drop (length line) end whole
    ∙ ap (λ n. drop n whole) (sym ends) in
    record {
      size = omega (arith, ends, f.size, length-append lines line);
      text = written ∙ ap₂ (λ xs ys. xs ++ line ++ ys) front later;
    }

pub front_answer : {whole buffer : List ℕ} {end : ℕ} (answers : List Answer) → Front (answer_lines answers) whole end buffer → (a : Answer) (last : List ℕ) (to : ℕ)
    → to ≡ end + length (answer_line a) → last ≡ take end buffer ++ answer_line a ++ drop to buffer → Front (answer_lines (answers ++ a ∷ [])) whole to last
front_answer answers f a last to ends written = rw (lines_push answers a) (front_more f (answer_line a) last to ends written)
