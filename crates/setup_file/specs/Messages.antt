-- What an error says, byte by byte.
use Rattle.std.specs.Prelude.{ℕ, List, ◌++◌, codes, decimal}
use Rattle.setup_file.specs.declared.error.Problem.{Problem}
use Rattle.setup_file.specs.declared.error.Problem.TheVariants.{NoItem, BadOrder, BadStore, BadPolicy, Repeated, NoOrder, NoCells, NoRights}
use Rattle.setup_file.specs.declared.error.SetupFileError.{SetupFileError}
use Rattle.setup_file.specs.declared.error.SetupFileError.TheVariants.{OutOfMemory, Unreadable}

-- what is wrong with a line, or missing, and the right form
abbrev pub problem_words : Problem → List ℕ
problem_words NoItem = codes "a line begins with `order`, `cells`, `rights` or `policy`"
problem_words BadOrder = codes "an order is `order vector` or `order ladder READ WRITE RESTRICT`, with numbers up to 4294967295"
problem_words BadStore = codes "a store is `slice NUMBER ..`, `table NUMBER ..` or `log PLACES NUMBER ..`, with places up to 65535 and numbers up to 4294967295"
problem_words BadPolicy = codes "a policy is `policy SUBJECT cell NUMBER` or `policy SUBJECT policy NUMBER`, with numbers up to 65535"
problem_words Repeated = codes "`order`, `cells` and `rights` each stand on one line only"
problem_words NoOrder = codes "the order is missing: `order vector` or `order ladder READ WRITE RESTRICT`"
problem_words NoCells = codes "the cells are missing: `cells slice NUMBER ..`, `cells table NUMBER ..` or `cells log PLACES NUMBER ..`"
problem_words NoRights = codes "the rights are missing: `rights slice NUMBER ..`, `rights table NUMBER ..` or `rights log PLACES NUMBER ..`"

-- with the number of the line
abbrev pub message : SetupFileError → List ℕ
message OutOfMemory = codes "there is not enough memory for the set-up file"
message (Unreadable line problem) = codes "line " ++ decimal line ++ codes ": " ++ problem_words problem
