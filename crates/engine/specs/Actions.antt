-- What a request asks of a transaction
use Rattle.std.specs.Prelude.{ℕ}
use Rattle.serial.specs.Requests.{Asked, asks_call, asks_commit, asks_give_up}
use Rattle.engine.specs.declared.action.Action.{Action}
use Rattle.engine.specs.declared.action.Action.TheVariants.{Calls, Commits, GivesUp}

abbrev pub asks : ℕ → Action → Asked
asks t (Calls c) = asks_call t c
asks t Commits = asks_commit t
asks t GivesUp = asks_give_up t
