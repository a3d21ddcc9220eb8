-- What running the records of a tape comes to, on an engine that was made for them.
use Rattle.std.specs.Prelude.{◌≡◌, ℕ, List, ◌++◌, length, drop}
use Rattle.protocol.specs.declared.answer.Answer.{Answer}
use Rattle.stores.specs.declared.store.Store as store
use Rattle.rights.specs.declared.order.RightsOrder as order
use Rattle.records.specs.Tapes.{TapeReading}
use Rattle.engine.specs.declared.engine.Engine.{Engine}
use Rattle.engine.specs.Engines.{Works}
use Rattle.tape.specs.Runs.{tape_lines}

-- By what the records say, and the buffer before and after: the engine made their requests, and the lines of its answers and of their fault stand at
-- the buffer's front.
pub record RanRecords {C R O : Type 0} (c : store.Ghosts C) (r : store.Ghosts R) (o : order.Ghosts O) (before after : Engine C R O)
    (records : TapeReading) (buffer buffer' : List ℕ) (n : ℕ) : Type 0 where
  pub answers : List Answer
  pub works : Works c r o before records.requests answers after
  pub length_answered : n ≡ length (tape_lines answers records.fault)
  pub lines_written : buffer' ≡ tape_lines answers records.fault ++ drop n buffer
