-- What the words behind `order`, `cells`, `rights` and `policy` say; none where they have no such form.
use Rattle.std.specs.Prelude.{ℕ, cond, List, [], ◌∷◌, Option, Some, None, codes, vec_items, option_and_then}
use Rattle.std.specs.Str.{bytes_eq}
use Rattle.protocol.specs.declared.policy.Object.{Object}
use Rattle.protocol.specs.declared.policy.Object.TheVariants.{OfCell, OfPolicy}
use Rattle.protocol.specs.declared.policy.Policy.{Policy}
use Rattle.setup_file.specs.declared.setup.OrderLine.{OrderLine}
use Rattle.setup_file.specs.declared.setup.OrderLine.TheVariants.{Vector, Ladder}
use Rattle.setup_file.specs.declared.setup.Make.{Make}
use Rattle.setup_file.specs.declared.setup.Make.TheVariants.{Slice, Table, Log}
use Rattle.setup_file.specs.declared.setup.StoreLine.{StoreLine}
use Rattle.setup_file.specs.Words.{long_of, short_of}

-- goes on with what is there
infixl 10 ◌>>=◌
abbrev pub ◌>>=◌ : {A B : Type 0} → Option A → (A → Option B) → Option B
o >>= f = option_and_then f o

-- the thresholds of operations 0, 1 and 2
abbrev pub ladder_of : List ℕ → List ℕ → List ℕ → Option OrderLine
ladder_of read write restrict = do
  r ← long_of read
  w ← long_of write
  s ← long_of restrict
  Some (Ladder r w s)

-- `vector`, or `ladder` and its thresholds
abbrev pub order_of : List (List ℕ) → Option OrderLine
order_of (kind ∷ []) = cond (bytes_eq kind (codes "vector")) (Some Vector) None
order_of (kind ∷ read ∷ write ∷ restrict ∷ []) = cond (bytes_eq kind (codes "ladder")) (ladder_of read write restrict) None
order_of _ = None

-- every word as a number
unfoldable pub numbers_of : List (List ℕ) → Option (List ℕ)
numbers_of [] = Some []
numbers_of (word ∷ more) = do
  n ← long_of word
  ns ← numbers_of more
  Some (n ∷ ns)

-- A store: how it is made, and its numbers.
pub record StoreContent : Type 0 where
  pub make : Make
  pub numbers : List ℕ

-- `log` has its places behind it
abbrev pub log_of : List (List ℕ) → Option (Make × List (List ℕ))
log_of [] = None
log_of (places ∷ more) = do
  n ← short_of places
  Some (Log n, more)

-- `slice`, `table` or `log`, and the words behind
abbrev pub make_of : List (List ℕ) → Option (Make × List (List ℕ))
make_of [] = None
make_of (kind ∷ more) = cond (bytes_eq kind (codes "slice")) (Some (Slice, more)) (cond (bytes_eq kind (codes "table")) (Some (Table, more)) (cond (bytes_eq kind (codes "log")) (log_of more) None))

-- so made, with the words as its numbers
abbrev pub store_made : Make → List (List ℕ) → Option StoreContent
store_made make words = do
  numbers ← numbers_of words
  Some (record { make = make; numbers = numbers })

-- a make, and then numbers
abbrev pub store_of : List (List ℕ) → Option StoreContent
store_of words = do
  p ← make_of words
  store_made p.0 p.1

-- the store that the code holds
abbrev pub store_content : StoreLine → StoreContent
store_content store = record { make = store.make; numbers = vec_items store.numbers }

-- `cell` or `policy`, with a number
abbrev pub object_called : List ℕ → ℕ → Option Object
object_called kind n = cond (bytes_eq kind (codes "cell")) (Some (OfCell n)) (cond (bytes_eq kind (codes "policy")) (Some (OfPolicy n)) None)

-- a subject and an object
abbrev pub policy_of : List (List ℕ) → Option Policy
policy_of (subject ∷ kind ∷ number ∷ []) = do
  s ← short_of subject
  n ← short_of number
  o ← object_called kind n
  Some (record { subject = s; object = o })
policy_of _ = None
