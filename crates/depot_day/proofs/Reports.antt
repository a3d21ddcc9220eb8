-- A tape that was run into a buffer with room for every tape.
use Rattle.std.proofs.Common.{◌≡◌, ℕ, ◌≤◌, List, ◌++◌, length, take, drop, sym, ap, ap₂, ◌∙◌, append_assoc, codes}
use Rattle.std.proofs.lemmas.Bool.{cond-true, le-leb}
use Rattle.std.proofs.lemmas.List.{take_at}
use Rattle.protocol.specs.Refusals.{answered, ◌then◌}
use Rattle.protocol.specs.declared.refusal.Refusal.{Refusal}
use Rattle.records.specs.Tapes.{tape_of}
use Rattle.lines.specs.Lines.{line}
use Rattle.serial.specs.Words.{Setup, Store, Change}
use Rattle.setup.specs.Admission.{setup_check}
use Rattle.tape.specs.Runs.{longest_lines, tape_lines, room_check, run_check, Ran, NotRun}
use Rattle.depot_day.specs.Reports.{Reports}

module _ (S : Setup) (before after : Store) (wrote : List Change → Type 0) (tape buffer buffer' : List ℕ) where
  -- what set-up accepts is not refused
  pub is_run : (f : Refusal) → setup_check S.is_right before.cells before.rights S.policies ≡ answered tt → longest_lines tape ≤ length buffer
      → NotRun S before after wrote tape buffer buffer' f → ⊥
  is_run f accepted room not =
      let fits : room_check tape buffer ≡ answered tt = cond-true _ _ _ (le-leb (longest_lines tape) (length buffer) room) in
      let checked : run_check S before tape buffer ≡ answered tt = ap₂ (λ x y. x then y) accepted fits in
      let refuses = not.refuses in
      cc

  -- the lines at the buffer's front, and the numbers of the stores behind them
  pub reports_of : (n : ℕ) (front with_cells text : List ℕ) → Ran S before after wrote tape buffer buffer' n → front ≡ take n buffer'
      → with_cells ≡ front ++ line (codes "cells") after.cells → text ≡ with_cells ++ line (codes "rights") after.rights → Reports S before tape text
  reports_of n front with_cells text ran cut cells rights =
      let lines = tape_lines ran.answers (tape_of tape).fault in
      let kept : front ≡ lines = cut ∙ ap (take n) ran.lines_written ∙ take_at lines (drop n buffer) n (sym ran.length_answered) in
      record {
        answers = ran.answers;
        evening = after;
        records_are_requests = ran.records_are_requests;
        day_done = ran.day_done;
        text_is = rights ∙ ap (λ xs. xs ++ line (codes "rights") after.rights) (cells ∙ ap (λ xs. xs ++ line (codes "cells") after.cells) kept)
            ∙ append_assoc lines _ _;
      }
