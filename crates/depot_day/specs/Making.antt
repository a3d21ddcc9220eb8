-- What making the order and the stores of a set-up file comes to.
use Rattle.std.specs.Prelude.{◌≡◌, ℕ, ◌+◌, ◌*◌, cond, ◌&&◌, List, length, nat_le}
use Rattle.protocol.specs.Refusals.{Outcome, answered, refused, ◌then◌}
use Rattle.protocol.specs.declared.policy.Policy.{Policy}
use Rattle.rights.specs.Orders.{ladder_check, vector_right, vector_joined, vector_allows, ladder_right, ladder_joined, ladder_allows}
use Rattle.stores.specs.Lists.{table_check}
use Rattle.serial.specs.Words.{Setup, Store, setup_of}
use Rattle.setup.specs.Admission.{setup_check}
use Rattle.makes.specs.Orders.{right_of, joined_of, allows_of}
use Rattle.makes.specs.declared.order.AnyOrder.{AnyOrder}
use Rattle.makes.specs.declared.store.AnyStore.{AnyStore}
use Rattle.makes.specs.declared.store.AnyStore.TheVariants as any_store
use Rattle.setup_file.specs.declared.setup.OrderLine.{OrderLine}
use Rattle.setup_file.specs.declared.setup.OrderLine.TheVariants.{Vector, Ladder}
use Rattle.setup_file.specs.declared.setup.Make.{Make}
use Rattle.setup_file.specs.declared.setup.Make.TheVariants.{Slice, Table, Log}
use Rattle.setup_file.specs.Items.{StoreContent}
use Rattle.setup_file.specs.SetupFiles.{SetupContent}

abbrev pub order_check : OrderLine → Outcome (Unit {0})
order_check Vector = answered tt
order_check (Ladder read write restrict) = ladder_check read write restrict

-- A log has its places behind its base, all free.
abbrev pub make_check : Make → List ℕ → Outcome (Unit {0})
make_check Slice numbers = answered tt
make_check Table numbers = table_check numbers
make_check (Log places) numbers = cond (nat_le (length numbers) 256 && nat_le 1 places) (answered tt) (refused 18)

-- The store is of the make.
abbrev pub IsMake : Make → AnyStore → Type 0
IsMake Slice (any_store.Slice _) = Unit {0}
IsMake Table (any_store.Table _) = Unit {0}
IsMake (Log _) (any_store.Log _) = Unit {0}
IsMake make store = ⊥

-- How many bytes a log takes with its places; no other store takes any.
abbrev pub bytes_of : Make → List ℕ → ℕ
bytes_of Slice numbers = 0
bytes_of Table numbers = 0
bytes_of (Log places) numbers = 4 * length numbers + 9 * places

-- The set-up of an order and a list of policies
abbrev pub setup_on : OrderLine → List Policy → Setup
setup_on Vector policies = setup_of vector_right vector_joined vector_allows policies
setup_on (Ladder read write restrict) policies = setup_of ladder_right ladder_joined (ladder_allows read write restrict) policies

-- The set-up of an order that was made
abbrev pub any_setup : AnyOrder → List Policy → Setup
any_setup order policies = setup_of (right_of order) (joined_of order) (allows_of order) policies

-- The order is that of the line.
abbrev pub IsOrderOf : OrderLine → AnyOrder → Type 0
IsOrderOf line order = (policies : List Policy) → any_setup order policies ≡ setup_on line policies

abbrev pub store_check : StoreContent → Outcome (Unit {0})
store_check store = make_check store.make store.numbers

-- The set-up of a file, and what its stores hold in the morning
abbrev pub day_setup : SetupContent → Setup
day_setup file = setup_on file.order file.policies

abbrev pub morning_lists : SetupContent → Store
morning_lists file = record { cells = file.cells.numbers; rights = file.rights.numbers }

-- What making all of it comes to: the order, the cells, the rights, and then the set-up on them.
abbrev pub making_check : SetupContent → Outcome (Unit {0})
making_check file =
    order_check file.order then store_check file.cells then store_check file.rights then setup_check (day_setup file).is_right file.cells.numbers file.rights.numbers file.policies
