-- How a set-up is written as a text: a line for each item, with a space between its words.
use Rattle.std.specs.Prelude.{◌≡◌, ℕ, ◌≤◌, List, [], ◌∷◌, ◌++◌, map, Result, Ok, Err, codes, decimal}
use Rattle.std.specs.List.{flat_map, join_with_byte, AllByRecursion}
use Rattle.protocol.specs.declared.policy.Object.{Object}
use Rattle.protocol.specs.declared.policy.Object.TheVariants.{OfCell, OfPolicy}
use Rattle.protocol.specs.declared.policy.Policy.{Policy}
use Rattle.setup_file.specs.declared.error.SetupFileError.{SetupFileError}
use Rattle.setup_file.specs.declared.error.SetupFileError.TheVariants.{OutOfMemory, Unreadable}
use Rattle.setup_file.specs.declared.setup.Make.{Make}
use Rattle.setup_file.specs.declared.setup.Make.TheVariants.{Slice, Table, Log}
use Rattle.setup_file.specs.declared.setup.OrderLine.{OrderLine}
use Rattle.setup_file.specs.declared.setup.OrderLine.TheVariants.{Vector, Ladder}
use Rattle.setup_file.specs.declared.setup.SetupFile.{SetupFile}
use Rattle.setup_file.specs.Items.{StoreContent}
use Rattle.setup_file.specs.SetupFiles.{SetupContent, setup_content}

-- the words of an order, behind `order`
abbrev pub order_words : OrderLine → List (List ℕ)
order_words Vector = codes "vector" ∷ []
order_words (Ladder read write restrict) = codes "ladder" ∷ decimal read ∷ decimal write ∷ decimal restrict ∷ []

-- the make of a store
abbrev pub make_words : Make → List (List ℕ)
make_words Slice = codes "slice" ∷ []
make_words Table = codes "table" ∷ []
make_words (Log places) = codes "log" ∷ decimal places ∷ []

-- the words of a store, behind `cells` or `rights`
abbrev pub store_words : StoreContent → List (List ℕ)
store_words store = make_words store.make ++ map decimal store.numbers

-- an object and its number
abbrev pub object_words : Object → List (List ℕ)
object_words (OfCell cell) = codes "cell" ∷ decimal cell ∷ []
object_words (OfPolicy policy) = codes "policy" ∷ decimal policy ∷ []

-- the words of a policy, behind `policy`
abbrev pub policy_words : Policy → List (List ℕ)
policy_words policy = decimal policy.subject ∷ object_words policy.object

-- The words of every item.
abbrev pub item_words : SetupContent → List (List (List ℕ))
item_words setup =
    (codes "order" ∷ order_words setup.order) ∷ (codes "cells" ∷ store_words setup.cells) ∷ (codes "rights" ∷ store_words setup.rights) ∷ map (λ policy. codes "policy" ∷ policy_words policy) setup.policies

-- the words of a line with a space between each two, and a line feed
abbrev pub line_of : List (List ℕ) → List ℕ
line_of words = join_with_byte 32 words ++ codes "\n"

-- The text of a set-up.
abbrev pub text_of : SetupContent → List ℕ
text_of setup = flat_map line_of (item_words setup)

-- thresholds have four bytes
abbrev pub FitsOrder : OrderLine → Type 0
FitsOrder Vector = Unit {0}
FitsOrder (Ladder read write restrict) = (read ≤ 4294967295) × (write ≤ 4294967295) × (restrict ≤ 4294967295)

-- places have two
abbrev pub FitsMake : Make → Type 0
FitsMake Slice = Unit {0}
FitsMake Table = Unit {0}
FitsMake (Log places) = places ≤ 65535

-- the numbers of a store have four
abbrev pub FitsStore : StoreContent → Type 0
FitsStore store = FitsMake store.make × AllByRecursion (λ n. n ≤ 4294967295) store.numbers

-- the number of an object has two
abbrev pub FitsObject : Object → Type 0
FitsObject (OfCell cell) = cell ≤ 65535
FitsObject (OfPolicy policy) = policy ≤ 65535

-- a subject has two
abbrev pub FitsPolicy : Policy → Type 0
FitsPolicy policy = (policy.subject ≤ 65535) × FitsObject policy.object

-- What a set-up of a program is.
abbrev pub Fits : SetupContent → Type 0
Fits setup = FitsOrder setup.order × FitsStore setup.cells × FitsStore setup.rights × AllByRecursion FitsPolicy setup.policies

-- Reading gave the set-up; or there was no memory.
abbrev pub Gives : SetupContent → Result SetupFile SetupFileError → Type 0
Gives setup (Ok file) = setup_content file ≡ setup
Gives setup (Err OutOfMemory) = Unit {0}
Gives setup (Err (Unreadable line problem)) = ⊥
