-- A request is an open, a call of a transaction, or its end.
use Rattle.std.specs.Prelude.{ℕ}
use Rattle.protocol.specs.declared.request.Request.{Request}
use Rattle.protocol.specs.declared.request.Request.TheVariants.{Open, Deploy, Read, Write, Show, Set, Commit, GiveUp}
use Rattle.serial.specs.Words.{Call, Deploys, Reads, Writes, Shows, Sets}

-- An open by its subject, the others by their transaction
pub data Asked : Type 0 where
  asks_open : ℕ → Asked
  asks_call : ℕ → Call → Asked
  asks_commit : ℕ → Asked
  asks_give_up : ℕ → Asked

abbrev pub asked : Request → Asked
asked (Open subject) = asks_open subject
asked (Deploy transaction policy) = asks_call transaction (Deploys policy)
asked (Read transaction cell) = asks_call transaction (Reads cell)
asked (Write transaction cell value) = asks_call transaction (Writes cell value)
asked (Show transaction policy) = asks_call transaction (Shows policy)
asked (Set transaction policy right) = asks_call transaction (Sets policy right)
asked (Commit transaction) = asks_commit transaction
asked (GiveUp transaction) = asks_give_up transaction
