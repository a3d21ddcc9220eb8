-- Lines written one after another, where all fit.
use Rattle.std.proofs.Common.{◌≡◌, ℕ, ◌+◌, ◌-◌, ◌<◌, ◌≤◌, List, [], ◌++◌, length, get_or, take, drop, sym, refl, ap, ◌∙◌, ap₂, arith}
use borrow.Rule.Slice.PartMut.{put_mid}
use Rattle.std.proofs.lemmas.List.{append_assoc, append-nil, length-append, length-drop, length-take-le, take-append-drop, take_at, drop_at, drop-drop, at_drop_more, at_drop_all}
use Rattle.protocol.specs.Refusals.{answered, refused}
use Rattle.protocol.specs.declared.answer.Answer.{Answer}
use Rattle.records.specs.Buffers.{put_answer, put_front}
use Rattle.records.proofs.Buffers.{put_length}
use Rattle.lines.specs.Lines.{answer_line, answer_lines}
use Rattle.lines.proofs.Buffers.{put, fits_from, exceeds_from, written_behind}

-- how long the lines of the answers from the i-th on are
pub next_line : (answers : List Answer) (i len : ℕ) (d : Answer) → i < length answers → len ≡ length (answer_line (get_or answers i d))
    → length (answer_lines (drop i answers)) ≡ len + length (answer_lines (drop (i + 1) answers))
unfolding answer_lines
next_line answers i len d h e =
    omega (arith, e, ap length (at_drop_more answer_lines answers i d h), length-append (answer_line (get_or answers i d)) (answer_lines (drop (i + 1) answers)))

pub no_line : (answers : List Answer) (i : ℕ) → length answers ≤ i → answer_lines (drop i answers) ≡ []
unfolding answer_lines
no_line answers i h = at_drop_all answer_lines answers i h

-- The lines of the first answers end at `end`, all have room, and what stands behind them stayed.
pub record Written (answers : List Answer) (whole : List ℕ) (i end : ℕ) (buffer : List ℕ) : Type 0 where
  pub left : end + length (answer_lines (drop i answers)) ≡ length (answer_lines answers)
  pub room : length (answer_lines answers) ≤ length whole
  pub front : take end buffer ++ answer_lines (drop i answers) ≡ answer_lines answers
  pub behind : drop end buffer ≡ drop end whole

pub none_written : (answers : List Answer) (whole : List ℕ) → length (answer_lines answers) ≤ length whole → Written answers whole 0 0 whole
none_written answers whole room = record { left = omega arith; room = room; front = refl; behind = refl }

module _ (answers : List Answer) (whole : List ℕ) (i end : ℕ) (buffer : List ℕ) (long : length buffer ≡ length whole) (written : Written answers whole i end buffer) where
  pub written_all : length answers ≤ i → (answered end ≡ put_answer (answer_lines answers) whole) × (buffer ≡ put_front (answer_lines answers) whole)
  written_all h =
      let none = no_line answers i h in
      let size : end ≡ length (answer_lines answers) = omega (arith, written.left, ap length none) in
      let lines : take end buffer ≡ answer_lines answers = sym (append-nil _) ∙ ap (λ ls. take end buffer ++ ls) (sym none) ∙ written.front in (
        put_length (answer_lines answers) whole end size written.room,
        sym (take-append-drop end buffer)
            ∙ ap₂ (λ ls rest. ls ++ rest) lines (written.behind ∙ ap (λ k. drop k whole) size)
            ∙ put (answer_lines answers) whole written.room,
      )

  -- the answer's line is written to the part of the buffer behind the lines so far
  module _ (d : Answer) (part last : List ℕ) (in_answers : i < length answers) (behind : part ≡ drop end buffer) where
    abbrev line : List ℕ
    line = answer_line (get_or answers i d)

    size : length part ≡ length whole - end
    size = ap length behind ∙ length-drop end buffer ∙ ap (λ n. n - end) long

    pub never_stops : (k : ℕ) → refused k ≡ put_answer line part → ⊥
    never_stops k said =
        omega (arith, (exceeds_from line part k said).1, size, written.left, written.room, next_line answers i (length line) d in_answers refl)

    -- the buffer with the line
    grown : (n : ℕ) → last ≡ put_front line part → answered n ≡ put_answer line part → put_mid end (length buffer - end) buffer last ≡ take end buffer ++ line ++ drop (end + n) whole
    grown n after said =
        let f = fits_from line part n said in
        let stayed : drop (length line) part ≡ drop (end + n) whole = ap₂ drop (sym f.0) (behind ∙ written.behind) ∙ drop-drop n end whole in
        written_behind buffer end last
        ∙ ap (λ xs. take end buffer ++ xs) (after ∙ sym (put line part f.1) ∙ ap (λ xs. line ++ xs) stayed)
        ∙ sym (append_assoc (take end buffer) line _)

    pub written_more : (n : ℕ) → last ≡ put_front line part → answered n ≡ put_answer line part → Written answers whole (i + 1) (end + n) (put_mid end (length buffer - end) buffer last)
    unfolding answer_lines
    written_more n after said =
        let f = fits_from line part n said in
        let front = take end buffer ++ line in
        let front_size : length front ≡ end + n =
        length-append (take end buffer) line ∙ ap₂ (λ a b. a + b) (length-take-le end buffer (omega (arith, long, written.left, written.room))) (sym f.0) in
        record {
          left = omega (arith, f.0, written.left, next_line answers i (length line) d in_answers refl);
          room = written.room;
          front = ap (λ xs. xs ++ answer_lines (drop (i + 1) answers)) (ap (take (end + n)) (grown n after said) ∙ take_at front _ _ front_size)
              ∙ append_assoc (take end buffer) line _
              ∙ ap (λ xs. take end buffer ++ xs) (sym (at_drop_more answer_lines answers i d in_answers))
              ∙ written.front;
          behind = ap (drop (end + n)) (grown n after said) ∙ drop_at front _ _ front_size;
        }
