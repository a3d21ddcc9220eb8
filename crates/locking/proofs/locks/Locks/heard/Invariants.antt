use Rattle.std.proofs.Common.{◌≡◌, ℕ, Bool, take}
use Rattle.std.specs.List.{list_any}
use Rattle.locking.specs.Slots.{has}
use Rattle.locking.specs.Locks.{says_so}
use Rattle.locking.specs.declared.mode.LockAnswer.{LockAnswer}
use Rattle.locking.specs.declared.mode.LockAnswer.TheVariants.{Conflict, Signal}
use Rattle.locking.proofs.locks.Locks.heard.Given as goal

abbrev pub invariant-loop-held : goal.invariant-loop-held
invariant-loop-held g l =
    let row = g.R.LockRow in
    let said : LockAnswer → ℕ → Bool = λ answer k. list_any (λ m. says_so (row.holds l.fn.self.row m) (row.says m l.fn.asked) answer k) (take l.held-index l.modes) in
    ((k : ℕ) → has l.conflicts.mask k ≡ said Conflict k) × ((k : ℕ) → has l.signals.mask k ≡ said Signal k)
