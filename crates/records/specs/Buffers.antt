-- Writing bytes to the front of a buffer: refused with 12, and nothing written, where they exceed it.
use Rattle.std.specs.Prelude.{ℕ, cond, List, ◌++◌, length, drop, nat_le}
use Rattle.protocol.specs.Refusals.{Outcome, answered, refused}

-- the length of what was written
abbrev pub put_answer : List ℕ → List ℕ → Outcome ℕ
put_answer bs buffer = cond (nat_le (length bs) (length buffer)) (answered (length bs)) (refused 12)

-- the buffer after it: later bytes stay
abbrev pub put_front : List ℕ → List ℕ → List ℕ
put_front bs buffer = cond (nat_le (length bs) (length buffer)) (bs ++ drop (length bs) buffer) buffer
