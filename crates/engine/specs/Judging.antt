-- The machine's judgements of calls, in parts.
use Rattle.std.specs.Prelude.{Some, None, Ok, Err, Option, Result}
use Rattle.protocol.specs.declared.policy.Object.{Object}
use Rattle.protocol.specs.declared.refusal.Refusal.{Refusal}
use Rattle.protocol.specs.declared.refusal.Refusal.TheVariants.{Absent, NotPermitted, TooManyChanges}
use Rattle.rights.specs.declared.order.Operation.{Operation}
use Rattle.rights.specs.declared.order.Operation.TheVariants.{Read, Write}
use Rattle.serial.specs.Words.{Setup, Store}
use Rattle.serial.specs.Changes.{room}
use Rattle.serial.specs.Model.{Transaction, unless, permitted}
use Rattle.engine.specs.Engines.{is_there}

abbrev pub refusal_in : Result (Unit {0}) Refusal → Option Refusal
refusal_in (Ok u) = None
refusal_in (Err f) = Some f

module _ (S : Setup) (s : Store) (x : Transaction) (o : Object) where
  abbrev pub judge_view : Option Refusal
  judge_view = unless (is_there S s o) Absent (unless (permitted S s x o Read) NotPermitted None)

  abbrev pub judge_change : Operation → Option Refusal
  judge_change operation = unless (permitted S s x o operation) NotPermitted (unless (room x.changes o) TooManyChanges None)

  abbrev pub judge_write : Option Refusal
  judge_write = unless (is_there S s o) Absent (judge_change Write)
