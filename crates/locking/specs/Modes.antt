-- What a lock held by another transaction (first) says to a lock asked for (second), on the same cell or policy.
use Rattle.std.specs.Prelude.{ℕ, Bool}
use denote.Enum.Bare.{sameb}
use Rattle.locking.specs.contracts.mode.LockAnswer.{the_type}
use Rattle.locking.specs.declared.mode.CellMode.{CellMode}
use Rattle.locking.specs.declared.mode.CellMode.TheVariants.{ReadCell, WriteCell}
use Rattle.locking.specs.declared.mode.PolicyMode.{PolicyMode}
use Rattle.locking.specs.declared.mode.PolicyMode.TheVariants.{ReadPolicy, Relax, Restrict, Deploy}
use Rattle.locking.specs.declared.mode.Lock.{Lock}
use Rattle.locking.specs.declared.mode.Lock.TheVariants.{OnCell, OnPolicy}
use Rattle.locking.specs.declared.mode.LockAnswer.{LockAnswer}
use Rattle.locking.specs.declared.mode.LockAnswer.TheVariants.{Compatible, Conflict, Signal}

-- Read locks on a cell are shared; a write lock excludes every other.
abbrev pub cell_says : CellMode → CellMode → LockAnswer
cell_says ReadCell ReadCell = Compatible
cell_says ReadCell WriteCell = Conflict
cell_says WriteCell asked = Conflict

abbrev pub policy_says : PolicyMode → PolicyMode → LockAnswer
policy_says ReadPolicy ReadPolicy = Compatible
policy_says ReadPolicy Relax = Conflict
policy_says ReadPolicy Restrict = Conflict
policy_says ReadPolicy Deploy = Compatible
policy_says Relax asked = Conflict
policy_says Restrict asked = Conflict
policy_says Deploy ReadPolicy = Compatible
policy_says Deploy Relax = Compatible
policy_says Deploy Restrict = Signal
policy_says Deploy Deploy = Compatible

-- the derived `==` of answers
abbrev pub same_answer : LockAnswer → LockAnswer → Bool
same_answer = sameb the_type

abbrev pub lock_number : Lock → ℕ
lock_number (OnCell m i) = i
lock_number (OnPolicy m i) = i
