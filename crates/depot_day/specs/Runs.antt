-- What is printed of a set-up file and a tape.
use Rattle.std.specs.Prelude.{◌≡◌, ℕ, List, [], ◌∷◌, Ok, Err, Result, codes, vec_items}
use Rattle.protocol.specs.Refusals.{answered, refused}
use Rattle.lines.specs.Lines.{line}
use Rattle.setup_file.specs.SetupFiles.{SetupContent, content_of}
use Rattle.setup_file.specs.declared.error.SetupFileError.TheVariants as file_error
use Rattle.depot_day.specs.declared.error.DepotError.{DepotError}
use Rattle.depot_day.specs.declared.error.DepotError.TheVariants.{OutOfMemory, SetupFile}
use Rattle.depot_day.specs.declared.printed.Printed.{Printed}
use Rattle.depot_day.specs.declared.printed.Printed.TheVariants.{Report, Refusal}
use Rattle.depot_day.specs.Making.{making_check, day_setup, morning_lists}
use Rattle.depot_day.specs.Reports.{Reports}

-- The bytes to print
abbrev pub printed_bytes : Printed → List ℕ
printed_bytes (Report text) = vec_items text
printed_bytes (Refusal text) = text.items

-- By the text of the set-up file, and the tape: the report of the day, or the line of what is refused while the order, the stores or the set-up are made.
-- Memory is wanting, for the file or for the day, only where the text can be read and nothing is refused.
abbrev pub RunsDepot : List ℕ → List ℕ → Result Printed DepotError → Type 0
RunsDepot text tape (Ok (Report report)) =
    (file : SetupContent) × (content_of text ≡ Ok file) × (making_check file ≡ answered tt)
    × Reports (day_setup file) (morning_lists file) tape (vec_items report)
RunsDepot text tape (Ok (Refusal said)) =
    (file : SetupContent) × (content_of text ≡ Ok file)
    × (n : ℕ) × (making_check file ≡ refused n) × (said.items ≡ line (codes "R") (n ∷ []))
RunsDepot text tape (Err OutOfMemory) =
    (file : SetupContent) × (content_of text ≡ Ok file) × (making_check file ≡ answered tt)
RunsDepot text tape (Err (SetupFile file_error.OutOfMemory)) =
    (file : SetupContent) × (content_of text ≡ Ok file) × (making_check file ≡ answered tt)
RunsDepot text tape (Err (SetupFile (file_error.Unreadable number problem))) =
    content_of text ≡ Err (record { line = number; problem = problem })
