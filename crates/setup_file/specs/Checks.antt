-- What is known of a text before any memory is taken.
use Rattle.std.specs.Prelude.{◌≡◌, ℕ, List, Option, Some, None, Result, Ok, Err}
use Rattle.setup_file.specs.declared.error.Problem.{Problem}
use Rattle.setup_file.specs.declared.error.SetupFileError.{SetupFileError}
use Rattle.setup_file.specs.declared.error.SetupFileError.TheVariants.{OutOfMemory, Unreadable}
use Rattle.setup_file.specs.declared.outline.Outline.{Outline}
use Rattle.setup_file.specs.declared.outline.StoreOutline.{StoreOutline}
use Rattle.setup_file.specs.declared.seen.Seen.{Seen}
use Rattle.setup_file.specs.Items.{StoreContent}
use Rattle.setup_file.specs.Outlines.{IsFew, few_policies, OutlinesStore, Outlines}
use Rattle.setup_file.specs.SetupFiles.{SetupContent, DraftContent, content_of}

-- A store that stands, or none does
abbrev pub StoreStands : Option StoreOutline → Option StoreContent → Type 0
StoreStands (Some outline) (Some store) = OutlinesStore outline store
StoreStands None None = Unit {0}
StoreStands outline store = ⊥

-- What was seen is the outline of a draft.
pub record Stands (seen : Seen) (draft : DraftContent) : Type 0 where
  pub order : seen.order ≡ draft.order
  pub cells : StoreStands seen.cells draft.cells
  pub rights : StoreStands seen.rights draft.rights
  pub policies : IsFew few_policies 64 seen.policies draft.policies

-- What checking a line promises.
abbrev pub ChecksLine : Result DraftContent Problem → Seen → Result (Unit {0}) Problem → Type 0
ChecksLine said after (Ok _) = (draft : DraftContent) × (said ≡ Ok draft) × Stands after draft
ChecksLine said after (Err problem) = said ≡ Err problem

-- What checking promises behind the last line.
abbrev pub ChecksEnd : Result SetupContent Problem → Result Outline Problem → Type 0
ChecksEnd said (Ok outline) = (file : SetupContent) × (said ≡ Ok file) × Outlines outline file
ChecksEnd said (Err problem) = said ≡ Err problem

-- The outline of what the text comes to; or its first line that cannot be read is told.
abbrev pub OutlinesText : List ℕ → Result Outline SetupFileError → Type 0
OutlinesText text (Ok outline) = (file : SetupContent) × (content_of text ≡ Ok file) × Outlines outline file
OutlinesText text (Err (Unreadable line problem)) = content_of text ≡ Err (record { line = line; problem = problem })
OutlinesText text (Err OutOfMemory) = ⊥
