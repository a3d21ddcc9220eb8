-- What an error says.
use Rattle.std.specs.Prelude.{ℕ, List, codes}
use Rattle.setup_file.specs.Messages as setup_file
use Rattle.depot_day.specs.declared.error.DepotError.{DepotError}
use Rattle.depot_day.specs.declared.error.DepotError.TheVariants.{OutOfMemory, SetupFile}

abbrev pub message : DepotError → List ℕ
message OutOfMemory = codes "there is not enough memory for the day"
message (SetupFile error) = setup_file.message error
