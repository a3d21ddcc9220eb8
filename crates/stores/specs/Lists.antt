-- What the calls of a store come to, by its list.
use Rattle.std.specs.Prelude.{ℕ, cond, List, [], length, nat_le, nat_lt, slice_index}
use Rattle.protocol.specs.Refusals.{Outcome, answered, refused}

abbrev pub read_at : List ℕ → ℕ → Outcome ℕ
read_at ns at = cond (nat_lt at (length ns)) (answered (slice_index ns at)) (refused 4)

abbrev pub write_at : List ℕ → ℕ → Outcome (Unit {0})
write_at ns at = cond (nat_lt at (length ns)) (answered tt) (refused 4)

-- A table has room for 64 numbers.
abbrev pub table_check : List ℕ → Outcome (Unit {0})
table_check ns = cond (nat_le (length ns) 64) (answered tt) (refused 14)

abbrev pub table_of : List ℕ → List ℕ
table_of ns = cond (nat_le (length ns) 64) ns []
