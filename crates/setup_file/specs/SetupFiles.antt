-- What the text of a set-up file comes to.
use Rattle.std.specs.Prelude.{◌≡◌, ℕ, ◌+◌, cond, List, [], ◌∷◌, ◌++◌, Option, Some, None, Result, Ok, Err, codes, vec_items, ◌==◌}
use Rattle.std.specs.List.{slice_split}
use Rattle.std.specs.Option.{option_map}
use Rattle.std.specs.Str.{bytes_eq}
use Rattle.protocol.specs.declared.policy.Policy.{Policy}
use Rattle.setup_file.specs.declared.draft.Draft.{Draft}
use Rattle.setup_file.specs.declared.error.LineError.{LineError}
use Rattle.setup_file.specs.declared.error.LineError.TheVariants.{NoMemory, AtLine}
use Rattle.setup_file.specs.declared.error.Problem.{Problem}
use Rattle.setup_file.specs.declared.error.Problem.TheVariants.{NoItem, BadOrder, BadStore, BadPolicy, Repeated, NoOrder, NoCells, NoRights}
use Rattle.setup_file.specs.declared.error.SetupFileError.{SetupFileError}
use Rattle.setup_file.specs.declared.error.SetupFileError.TheVariants.{OutOfMemory, Unreadable}
use Rattle.setup_file.specs.declared.setup.OrderLine.{OrderLine}
use Rattle.setup_file.specs.declared.setup.SetupFile.{SetupFile}
use Rattle.setup_file.specs.Items.{StoreContent, store_content, order_of, store_of, policy_of}
use Rattle.setup_file.specs.Words.{words_of}

-- A set-up.
pub record SetupContent : Type 0 where
  pub order : OrderLine
  pub cells : StoreContent
  pub rights : StoreContent
  pub policies : List Policy

-- What the lines so far say.
pub record DraftContent : Type 0 where
  pub order : Option OrderLine
  pub cells : Option StoreContent
  pub rights : Option StoreContent
  pub policies : List Policy

-- a draft, unless its item stands already
abbrev pub once : {A : Type 0} → Option A → DraftContent → Result DraftContent Problem
once None draft = Ok draft
once (Some _) draft = Err Repeated

-- the order; none is given where its words have no such form, and so below
abbrev pub with_order : Option OrderLine → DraftContent → Result DraftContent Problem
with_order None draft = Err BadOrder
with_order (Some order) draft = once draft.order (record draft { order = Some order })

-- the cells
abbrev pub with_cells : Option StoreContent → DraftContent → Result DraftContent Problem
with_cells None draft = Err BadStore
with_cells (Some cells) draft = once draft.cells (record draft { cells = Some cells })

-- the rights
abbrev pub with_rights : Option StoreContent → DraftContent → Result DraftContent Problem
with_rights None draft = Err BadStore
with_rights (Some rights) draft = once draft.rights (record draft { rights = Some rights })

-- one more policy
abbrev pub with_policy : Option Policy → DraftContent → Result DraftContent Problem
with_policy None draft = Err BadPolicy
with_policy (Some policy) draft = Ok (record draft { policies = draft.policies ++ policy ∷ [] })

-- The first word of a line says of which kind its item is. A line with no word is skipped.
abbrev pub with_words : List (List ℕ) → DraftContent → Result DraftContent Problem
with_words [] draft = Ok draft
with_words (item ∷ more) draft =
    cond (bytes_eq item (codes "order")) (with_order (order_of more) draft)
    (cond (bytes_eq item (codes "cells")) (with_cells (store_of more) draft)
    (cond (bytes_eq item (codes "rights")) (with_rights (store_of more) draft)
    (cond (bytes_eq item (codes "policy")) (with_policy (policy_of more) draft) (Err NoItem))))

-- the set-up of what stands exactly once, looked for in this order, and the policies
abbrev pub with_all : Option OrderLine → Option StoreContent → Option StoreContent → List Policy → Result SetupContent Problem
with_all None cells rights policies = Err NoOrder
with_all (Some order) None rights policies = Err NoCells
with_all (Some order) (Some cells) None policies = Err NoRights
with_all (Some order) (Some cells) (Some rights) policies = Ok (record { order = order; cells = cells; rights = rights; policies = policies })

-- What the draft comes to behind the last line.
abbrev pub finished : DraftContent → Result SetupContent Problem
finished draft = with_all draft.order draft.cells draft.rights draft.policies

-- A problem, and the number of its line from 1.
pub record Place : Type 0 where
  pub line : ℕ
  pub problem : Problem

-- reading goes on with what was read; a problem gets the number of its line
abbrev pub at_line : {A B : Type 0} → ℕ → Result A Problem → (A → Result B Place) → Result B Place
at_line line (Ok a) more = more a
at_line line (Err problem) more = Err (record { line = line; problem = problem })

-- Line by line, behind so many of them. The last one's number is how many there are.
unfoldable pub lines_from : ℕ → DraftContent → List (List ℕ) → Result SetupContent Place
lines_from count draft [] = at_line count (finished draft) Ok
lines_from count draft (line ∷ more) = at_line (count + 1) (with_words (words_of line) draft) (λ next. lines_from (count + 1) next more)

-- the draft with which reading begins
abbrev pub no_items : DraftContent
no_items = record { order = None; cells = None; rights = None; policies = [] }

-- What a text comes to: its set-up, or its first line that cannot be read. Lines are separated by line feeds.
abbrev pub content_of : List ℕ → Result SetupContent Place
content_of text = lines_from 0 no_items (slice_split (λ b. b == 10) text)

-- The text says a set-up.
abbrev pub IsReadable : List ℕ → Type 0
IsReadable text = (setup : SetupContent) × (content_of text ≡ Ok setup)

-- the set-up that the code holds
abbrev pub setup_content : SetupFile → SetupContent
setup_content file = record { order = file.order; cells = store_content file.cells; rights = store_content file.rights; policies = vec_items file.policies }

-- the draft that the code holds
abbrev pub draft_content : Draft → DraftContent
draft_content draft =
    record { order = draft.order; cells = option_map store_content draft.cells; rights = option_map store_content draft.rights; policies = vec_items draft.policies }

-- What reading one line promises of the draft behind it, where there was memory.
abbrev pub ReadsLine : Result DraftContent Problem → Draft → Result (Unit {0}) LineError → Type 0
ReadsLine said after (Ok _) = said ≡ Ok (draft_content after)
ReadsLine said after (Err (AtLine problem)) = said ≡ Err problem
ReadsLine said after (Err (NoMemory _)) = Unit {0}

-- a line's error, with the number of the line
abbrev pub error_at : ℕ → LineError → SetupFileError
error_at line (NoMemory _) = OutOfMemory
error_at line (AtLine problem) = Unreadable line problem

-- What reading a text promises. There is no want of memory for a text that cannot be read.
abbrev pub ReadsSetupFile : List ℕ → Result SetupFile SetupFileError → Type 0
ReadsSetupFile text (Ok file) = content_of text ≡ Ok (setup_content file)
ReadsSetupFile text (Err (Unreadable line problem)) = content_of text ≡ Err (record { line = line; problem = problem })
ReadsSetupFile text (Err OutOfMemory) = IsReadable text
