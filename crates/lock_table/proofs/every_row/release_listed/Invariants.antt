use Rattle.std.proofs.Common.{◌&&◌, take}
use Rattle.std.specs.List.{list_any}
use Rattle.locking.specs.Slots.{has}
use Rattle.lock_table.specs.Lists.{on_one_row}
use Rattle.lock_table.specs.Released.{LetGo}
use Rattle.lock_table.proofs.every_row.release_listed.Given as goal

abbrev pub invariant-loop-lock : goal.invariant-loop-lock
invariant-loop-lock l =
    LetGo (λ k lock. has l.gone.mask k && list_any (on_one_row lock) (take l.lock-index l.locks)) l.initial.cells l.initial.policies l.cells l.policies
