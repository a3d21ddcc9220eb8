-- A transaction with one lock more.
use Rattle.std.specs.Prelude.{◌||◌}
use Rattle.serial.specs.Locks.{Lock, same_lock}
use Rattle.serial.specs.Model.{Transaction}

abbrev pub with_lock : Transaction → Lock → Transaction
with_lock x asked = record { number = x.number; subject = x.subject; holds = (λ l. same_lock l asked || x.holds l); changes = x.changes }
