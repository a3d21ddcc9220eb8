-- The records of requests: how they are written, and how bytes are read as records.
use Rattle.std.specs.Prelude.{ℕ, ◌<◌, cond, List, [], ◌∷◌, ◌++◌, length, take, drop, Some, None, Option, ◌==◌, nat_le, slice_index, slice_index_or}
use Rattle.protocol.specs.declared.request.Request.{Request}
use Rattle.protocol.specs.declared.request.Request.TheVariants.{Open, Deploy, Read, Write, Show, Set, Commit, GiveUp}
use Rattle.protocol.specs.Bytes.{two_bytes, four_bytes, two_at, four_at, field_bytes}
use Rattle.protocol.specs.Refusals.{Outcome, answered, refused}

-- The record of each request: one tagged field.
abbrev pub record_bytes : Request → List ℕ
record_bytes (Open subject) = field_bytes 1 (two_bytes subject)
record_bytes (Deploy transaction policy) = field_bytes 2 (two_bytes transaction ++ two_bytes policy)
record_bytes (Read transaction cell) = field_bytes 3 (two_bytes transaction ++ two_bytes cell)
record_bytes (Write transaction cell value) = field_bytes 4 (two_bytes transaction ++ two_bytes cell ++ four_bytes value)
record_bytes (Show transaction policy) = field_bytes 5 (two_bytes transaction ++ two_bytes policy)
record_bytes (Set transaction policy right) = field_bytes 6 (two_bytes transaction ++ two_bytes policy ++ four_bytes right)
record_bytes (Commit transaction) = field_bytes 7 (two_bytes transaction)
record_bytes (GiveUp transaction) = field_bytes 8 (two_bytes transaction)

-- What a request of a program is: its numbers have two bytes, a value or a right four.
abbrev pub Fits : Request → Type 0
Fits (Open subject) = subject < 65536
Fits (Deploy transaction policy) = (transaction < 65536) × (policy < 65536)
Fits (Read transaction cell) = (transaction < 65536) × (cell < 65536)
Fits (Write transaction cell value) = (transaction < 65536) × (cell < 65536) × (value < 4294967296)
Fits (Show transaction policy) = (transaction < 65536) × (policy < 65536)
Fits (Set transaction policy right) = (transaction < 65536) × (policy < 65536) × (right < 4294967296)
Fits (Commit transaction) = transaction < 65536
Fits (GiveUp transaction) = transaction < 65536

-- A field at the front of bytes, and the bytes behind it; none where the bytes are cut short.
pub record Parsed : Type 0 where
  pub tag : ℕ
  pub content : List ℕ
  pub rest : List ℕ

abbrev pub sized : ℕ → ℕ → List ℕ → Option Parsed
sized tag len after = cond (nat_le len (length after)) (Some (record { tag = tag; content = take len after; rest = drop len after })) None

abbrev pub field_of : List ℕ → Option Parsed
field_of bs = cond (nat_le 3 (length bs)) (sized (slice_index bs 0) (two_at bs 1) (drop 3 bs)) None

-- What a content of the right length says; any other length is fault 11.
abbrev pub of_length : {A : Type 0} → ℕ → List ℕ → A → Outcome A
of_length n content said = cond (length content == n) (answered said) (refused 11)

-- The request that a content says under each tag from 0 on; any other tag is fault 10.
abbrev pub request_of : ℕ → List ℕ → Outcome Request
request_of tag c =
    slice_index_or
    (refused 10
    ∷ of_length 2 c (Open (two_at c 0))
    ∷ of_length 4 c (Deploy (two_at c 0) (two_at c 2))
    ∷ of_length 4 c (Read (two_at c 0) (two_at c 2))
    ∷ of_length 8 c (Write (two_at c 0) (two_at c 2) (four_at c 4))
    ∷ of_length 4 c (Show (two_at c 0) (two_at c 2))
    ∷ of_length 8 c (Set (two_at c 0) (two_at c 2) (four_at c 4))
    ∷ of_length 2 c (Commit (two_at c 0))
    ∷ of_length 2 c (GiveUp (two_at c 0))
    ∷ [])
    tag (refused 10)

abbrev pub with_rest : List ℕ → Outcome Request → Outcome (Request × List ℕ)
with_rest rest (answered request) = answered (request, rest)
with_rest rest (refused fault) = refused fault

abbrev pub record_in : Option Parsed → Outcome (Request × List ℕ)
record_in None = refused 9
record_in (Some field) = with_rest field.rest (request_of field.tag field.content)

-- The request at the front of bytes, and the bytes behind its record; or the number of the fault.
abbrev pub record_of : List ℕ → Outcome (Request × List ℕ)
record_of bs = record_in (field_of bs)
