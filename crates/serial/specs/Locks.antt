-- Locks on cells and policies, and what one says to another.
use Rattle.std.specs.Prelude.{Bool, cond, List, [], ◌∷◌, ◌==◌}
use Rattle.locking.specs.Modes.{cell_says, policy_says}
pub use Rattle.locking.specs.Modes.{lock_number}
use Rattle.locking.specs.contracts.mode.LockPartialEq.TheImpl as derived
pub use Rattle.locking.specs.declared.mode.Lock.{Lock}
pub use Rattle.locking.specs.declared.mode.Lock.TheVariants.{OnCell, OnPolicy}
use Rattle.locking.specs.declared.mode.CellMode.TheVariants.{ReadCell, WriteCell}
use Rattle.locking.specs.declared.mode.PolicyMode.TheVariants.{ReadPolicy, Relax, Restrict, Deploy}
use Rattle.locking.specs.declared.mode.LockAnswer.{LockAnswer}
use Rattle.locking.specs.declared.mode.LockAnswer.TheVariants.{Compatible, Conflict, Signal}

-- What a held lock (first) says to another transaction that asks for a lock (second); locks on different objects are compatible.
abbrev pub says : Lock → Lock → LockAnswer
says (OnCell m i) (OnCell k j) = cond (i == j) (cell_says m k) Compatible
says (OnCell m i) (OnPolicy k j) = Compatible
says (OnPolicy m i) (OnCell k j) = Compatible
says (OnPolicy m i) (OnPolicy k j) = cond (i == j) (policy_says m k) Compatible

-- the derived `==` of locks
abbrev pub same_lock : Lock → Lock → Bool
same_lock = derived.ghosts.eq

-- The locks that there are on a lock's object
abbrev pub locks_beside : Lock → List Lock
locks_beside (OnCell m i) = OnCell ReadCell i ∷ OnCell WriteCell i ∷ []
locks_beside (OnPolicy m i) = OnPolicy ReadPolicy i ∷ OnPolicy Relax i ∷ OnPolicy Restrict i ∷ OnPolicy Deploy i ∷ []

-- Of two answers the worse: no, then signal, then yes.
abbrev pub worse : LockAnswer → LockAnswer → LockAnswer
worse Compatible b = b
worse Conflict b = Conflict
worse Signal Compatible = Signal
worse Signal Conflict = Conflict
worse Signal Signal = Signal

-- The worst that the held ones among some locks say
unfoldable pub held_say : (Lock → Bool) → Lock → List Lock → LockAnswer
held_say holds asked [] = Compatible
held_say holds asked (m ∷ ms) = worse (cond (holds m) (says m asked) Compatible) (held_say holds asked ms)
