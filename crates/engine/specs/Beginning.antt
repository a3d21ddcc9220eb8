-- The engine that a set-up makes.
use Rattle.std.specs.Prelude.{List, []}
use Rattle.protocol.specs.Refusals.{Outcome, answered, refused}
use Rattle.protocol.specs.declared.policy.Policy.{Policy}
use Rattle.rights.specs.declared.order.RightsOrder as order
use Rattle.serial.specs.Words.{Setup, Store, setup_of}
use Rattle.serial.specs.Model.{State}
use Rattle.serial.specs.OneDay.{morning}
use Rattle.engine.specs.Stores.{first_cells}
use Rattle.engine.specs.Tables.{closed_state}

-- An order and a list of policies
abbrev pub setup_with : {O : Type 0} → order.Ghosts O → O → List Policy → Setup
setup_with o ord policies = setup_of (o.right ord) (o.joined ord) (o.allows ord) policies

-- By what the check of the set-up came to: the morning of the day, or no cell and no slot
abbrev pub begin_state : Outcome (Unit {0}) → Store → State
begin_state (answered u) s = morning s
begin_state (refused n) s = closed_state (first_cells 0 s)

abbrev pub begin_policies : Outcome (Unit {0}) → List Policy → List Policy
begin_policies (answered u) policies = policies
begin_policies (refused n) policies = []
