-- The lines of a text, one by one.
use Rattle.std.proofs.Common.{◌≡◌, ℕ, ◌+◌, ◌<◌, ◌≤◌, eqb, List, length, get_or, drop, Ok, Err, sym, ap, ◌∙◌, arith}
use Rattle.std.specs.List.{slice_split}
use Rattle.std.proofs.lemmas.List.{at_drop_more, at_drop_all}
use Rattle.std.proofs.lemmas.List.Splits.{length-slice_split}
use Rattle.std.proofs.lemmas.List.Sums.{count_by-le-length}
use Rattle.setup_file.specs.declared.draft.Draft.{Draft}
use Rattle.setup_file.specs.declared.error.LineError.{LineError}
use Rattle.setup_file.specs.declared.error.LineError.TheVariants.{NoMemory, AtLine}
use Rattle.setup_file.specs.declared.error.Problem.{Problem}
use Rattle.setup_file.specs.declared.error.SetupFileError.{SetupFileError}
use Rattle.setup_file.specs.declared.error.SetupFileError.TheVariants.{OutOfMemory, Unreadable}
use Rattle.setup_file.specs.declared.seen.Seen.{Seen}
use Rattle.setup_file.specs.Checks.{Stands, OutlinesText}
use Rattle.setup_file.specs.SetupFiles.{DraftContent, with_words, finished, at_line, lines_from, content_of, IsReadable, ReadsLine, error_at, ReadsSetupFile}
use Rattle.setup_file.specs.Words.{words_of}

abbrev pub lines : List ℕ → List (List ℕ)
lines text = slice_split (λ b. eqb b 10) text

pub few_lines : (text : List ℕ) → length (lines text) ≤ length text + 1
few_lines text = let n = length-slice_split (λ b. eqb b 10) text in let l = count_by-le-length (λ b. eqb b 10) text in omega (arith, n, l)

-- So many lines were read, and a draft says what they say.
pub record LinesRead (text : List ℕ) (i count : ℕ) (draft : DraftContent) : Type 0 where
  pub counted : count ≡ i
  pub left : lines_from count draft (drop i (lines text)) ≡ content_of text

-- So many lines can be read, and it is known what stands once in the draft that they make.
pub record LinesChecked (text : List ℕ) (i count : ℕ) (seen : Seen) : Type 0 where
  pub draft : DraftContent
  pub read : LinesRead text i count draft
  pub stands : Stands seen draft

module _ (text : List ℕ) (i count : ℕ) (draft : DraftContent) (r : LinesRead text i count draft) where
  module _ (line : List ℕ) (next : (i < length (lines text)) × (line ≡ get_or (lines text) i line)) where
    one_line : at_line (count + 1) (with_words (words_of line) draft) (λ d. lines_from (count + 1) d (drop (i + 1) (lines text))) ≡ content_of text
    unfolding lines_from
    one_line =
        ap (λ l. at_line (count + 1) (with_words (words_of l) draft) (λ d. lines_from (count + 1) d (drop (i + 1) (lines text)))) next.1
        ∙ sym (at_drop_more (lines_from count draft) (lines text) i line next.0)
        ∙ r.left

    pub line_read : (after : DraftContent) → with_words (words_of line) draft ≡ Ok after → LinesRead text (i + 1) (count + 1) after
    line_read after said = record {
      counted = ap (λ n. n + 1) r.counted;
      left = sym (ap (λ o. at_line (count + 1) o (λ d. lines_from (count + 1) d (drop (i + 1) (lines text)))) said) ∙ one_line;
    }

    pub line_fails : (problem : Problem) → with_words (words_of line) draft ≡ Err problem → content_of text ≡ Err (record { line = count + 1; problem = problem })
    line_fails problem said = sym one_line ∙ ap (λ o. at_line (count + 1) o (λ d. lines_from (count + 1) d (drop (i + 1) (lines text)))) said

    pub error_read : IsReadable text → (error : LineError) (after : Draft) → ReadsLine (with_words (words_of line) draft) after (Err error) → ReadsSetupFile text (Err (error_at (count + 1) error))
    error_read readable (NoMemory _) after h = readable
    error_read readable (AtLine problem) after h = line_fails problem h

  pub lines_end : length (lines text) ≤ i → content_of text ≡ at_line count (finished draft) Ok
  unfolding lines_from
  lines_end h = sym (sym (at_drop_all (lines_from count draft) (lines text) i h) ∙ r.left)

pub told : (text : List ℕ) (error : SetupFileError) → OutlinesText text (Err error) → ReadsSetupFile text (Err error)
told text (Unreadable line problem) h = h
told text OutOfMemory h = absurd h
