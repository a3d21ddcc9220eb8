-- What an item that the code holds adds to a draft.
use Rattle.std.specs.Prelude.{◌≡◌, Option, Some, None, Result, Ok, Err}
use Rattle.setup_file.specs.declared.error.Problem.{Problem}
use Rattle.setup_file.specs.declared.item.Item.{Item}
use Rattle.setup_file.specs.declared.item.Item.TheVariants.{Order, Cells, Rights, Policy}
use Rattle.setup_file.specs.Items.{store_made}
use Rattle.setup_file.specs.SetupFiles.{DraftContent, with_order, with_cells, with_rights, with_policy}
use Rattle.setup_file.specs.WordsLeft.{words_left}

abbrev pub with_item : Item → DraftContent → Result DraftContent Problem
with_item (Order order) draft = with_order (Some order) draft
with_item (Cells make words) draft = with_cells (store_made make (words_left words)) draft
with_item (Rights make words) draft = with_rights (store_made make (words_left words)) draft
with_item (Policy policy) draft = with_policy (Some policy) draft

-- nothing, where a line has no item
abbrev pub with_line_item : Option Item → DraftContent → Result DraftContent Problem
with_line_item None draft = Ok draft
with_line_item (Some item) draft = with_item item draft

-- A line adds its item; or it has no item, and that problem.
abbrev pub SaysItem : (DraftContent → Result DraftContent Problem) → Result Item Problem → Type 0
SaysItem with_line (Ok item) = (draft : DraftContent) → with_line draft ≡ with_item item draft
SaysItem with_line (Err problem) = (draft : DraftContent) → with_line draft ≡ Err problem

-- the same of a line that may be empty
abbrev pub SaysLine : (DraftContent → Result DraftContent Problem) → Result (Option Item) Problem → Type 0
SaysLine with_line (Ok item) = (draft : DraftContent) → with_line draft ≡ with_line_item item draft
SaysLine with_line (Err problem) = (draft : DraftContent) → with_line draft ≡ Err problem
