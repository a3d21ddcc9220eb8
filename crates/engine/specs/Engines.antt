-- What an engine means in the words of the machine, and what each of its calls promises.
use Rattle.std.specs.Prelude.{◌≡◌, Bool, List, length, drop, nat_lt}
use Rattle.protocol.specs.declared.answer.Answer.{Answer}
use Rattle.protocol.specs.declared.policy.Object.{Object}
use Rattle.protocol.specs.declared.policy.Object.TheVariants.{OfCell, OfPolicy}
use Rattle.protocol.specs.declared.request.Request.{Request}
use Rattle.stores.specs.declared.store.Store as store
use Rattle.rights.specs.declared.order.RightsOrder as order
use Rattle.serial.specs.Words as words
use Rattle.serial.specs.Words.{Setup, Store, Change}
use Rattle.serial.specs.Requests.{Asked, asked}
use Rattle.serial.specs.Model.{State, perform}
use Rattle.serial.specs.OneDay.{Worked, WorkedInTurn}
use Rattle.serial.specs.Writes.{changes_by, changes_from}
use Rattle.engine.specs.declared.engine.Engine.{Engine}
use Rattle.engine.specs.Stores.{lists_of, first_cells, Lent, Wrote}
use Rattle.engine.specs.Tables.{table_state}

abbrev pub is_there : Setup → Store → Object → Bool
is_there S s (OfCell c) = nat_lt c (length s.cells)
is_there S s (OfPolicy p) = nat_lt p (length S.policies)

module _ {C R O : Type 0} where
  abbrev pub store_of : store.Ghosts C → store.Ghosts R → Engine C R O → Store
  store_of c r e = first_cells e.size (lists_of c r e.cells.now e.rights.now)

  abbrev pub state_of : store.Ghosts C → store.Ghosts R → Engine C R O → State
  state_of c r e = table_state (store_of c r e) e.tables

  abbrev pub setup_of : order.Ghosts O → Engine C R O → Setup
  setup_of o e = words.setup_of (o.right e.order.now) (o.joined e.order.now) (o.allows e.order.now) e.policies.now

  -- The engine still has the two stores that it was lent, and they the memory that they were lent; there are as many
  -- numbers in them, and cells that are not the engine's stay as they were.
  pub record Keeps (c : store.Ghosts C) (r : store.Ghosts R) (before after : Engine C R O) : Type 0 where
    pub same_cells : after.cells.ghost_name ≡ before.cells.ghost_name
    pub same_rights : after.rights.ghost_name ≡ before.rights.ghost_name
    pub lent : Lent c r before.cells.now before.rights.now after.cells.now after.rights.now
    pub as_many_cells : length (c.list after.cells.now) ≡ length (c.list before.cells.now)
    pub as_many_rights : length (r.list after.rights.now) ≡ length (r.list before.rights.now)
    pub same_size : after.size ≡ before.size
    pub other_cells_stay : drop before.size (c.list after.cells.now) ≡ drop before.size (c.list before.cells.now)

  -- These changes went into the engine's stores.
  abbrev pub Writes : store.Ghosts C → store.Ghosts R → Engine C R O → Engine C R O → List Change → Type 0
  Writes c r before after changes = Wrote c r before.cells.now before.rights.now after.cells.now after.rights.now changes

  -- The answer and the state after are those, the set-up stays, and just these changes went into the stores.
  pub record Goes (c : store.Ghosts C) (r : store.Ghosts R) (o : order.Ghosts O) (before : Engine C R O) (came : Answer × Engine C R O)
      (to : Answer × State) (changes : List Change) : Type 0 where
    pub answered : (came.0, state_of c r came.1) ≡ to
    pub same_setup : setup_of o came.1 ≡ setup_of o before
    pub keeps_stores : Keeps c r before came.1
    pub writes : Writes c r before came.1 changes

  -- What is asked of the engine is answered, and its state changed, as the machine performs it. A granted commit writes the changes of its
  -- transaction; anything else leaves the stores themselves as they are.
  abbrev pub Performs : store.Ghosts C → store.Ghosts R → order.Ghosts O → Engine C R O → Asked → Answer → Engine C R O → Type 0
  Performs c r o before a answer after =
      Goes c r o before (answer, after) (perform (setup_of o before) (state_of c r before) a) (changes_by (state_of c r before) a answer)

  -- A request is one step of the machine.
  abbrev pub Steps : store.Ghosts C → store.Ghosts R → order.Ghosts O → Engine C R O → Request → Answer → Engine C R O → Type 0
  Steps c r o before request answer after = Performs c r o before (asked request) answer after

  -- The requests were made in turn, with these answers: every run of the machine that led to the engine before leads on over them to the engine
  -- after, and what their commits wrote went into the stores.
  pub record Works (c : store.Ghosts C) (r : store.Ghosts R) (o : order.Ghosts O) (before : Engine C R O) (requests : List Request)
      (answers : List Answer) (after : Engine C R O) : Type 0 where
    pub worked : Worked (setup_of o before) (state_of c r before) requests answers (state_of c r after)
    pub in_turn : WorkedInTurn (setup_of o before) (state_of c r before) requests answers (state_of c r after)
    pub same_setup : setup_of o after ≡ setup_of o before
    pub keeps_stores : Keeps c r before after
    pub writes : Writes c r before after (changes_from (setup_of o before) (state_of c r before) requests)
