-- A tape is records one after another.
use Rattle.std.specs.Prelude.{◌≡◌, ℕ, zero, suc, ◌+◌, ◌-◌, ◌≤◌, cond, List, [], ◌∷◌, length, take, Some, None, Option, nat_le}
use Rattle.std.specs.List.{flat_map, AllByRecursion}
use Rattle.records.specs.declared.fault.FaultValues.{FaultValues}
use Rattle.protocol.specs.declared.request.Request.{Request}
use Rattle.records.specs.Records.{record_bytes, Fits, record_of}
use Rattle.protocol.specs.Refusals.{Outcome, answered, refused}

-- What a tape says: its requests up to its end, or up to its first fault, and that fault.
pub record TapeReading : Type 0 where
  pub requests : List Request
  pub fault : Option FaultValues

-- no request more
abbrev pub at_end : TapeReading
at_end = record { requests = []; fault = None }

-- a fault at once
abbrev pub at_fault : FaultValues → TapeReading
at_fault fault = record { requests = []; fault = Some fault }

abbrev pub stopped : ℕ → ℕ → ℕ → TapeReading
stopped fault number start = at_fault (record { fault = fault; number = number; start = start })

-- one request before the others
abbrev pub behind : Request → TapeReading → TapeReading
behind request tape = record { requests = request ∷ tape.requests; fault = tape.fault }

-- a request, and then what the bytes behind it say; or a fault
abbrev pub go_on : Outcome (Request × List ℕ) → (List ℕ → TapeReading) → (ℕ → TapeReading) → TapeReading
go_on (answered (request, rest)) more stop = behind request (more rest)
go_on (refused fault) more stop = stop fault

-- Record by record, at most so many of them: of a total of bytes these are left, and the record of that number begins them.
unfoldable pub records_from : ℕ → ℕ → ℕ → List ℕ → TapeReading
records_from zero total number left = at_end
records_from (suc most) total number [] = at_end
records_from (suc most) total number (b ∷ bs) = go_on (record_of (b ∷ bs)) (records_from most total (number + 1)) (λ fault. stopped fault number (total - length (b ∷ bs)))

-- A record has bytes, so there are at most as many records as bytes.
abbrev pub tape_of : List ℕ → TapeReading
tape_of bs = cond (nat_le (length bs) 60000) (records_from (length bs) (length bs) 1 bs) (stopped 13 0 0)

-- The records of requests, one after another.
abbrev pub tape_bytes : List Request → List ℕ
tape_bytes requests = flat_map record_bytes requests

-- The bytes up to a fault; all of them where there is none.
abbrev pub up_to : Option FaultValues → List ℕ → List ℕ
up_to None bs = bs
up_to (Some fault) bs = take fault.start bs

-- What reading a tape promises of the requests and the fault that it gives.
pub record ReadsTape (bytes : List ℕ) (tape : TapeReading) : Type 0 where
  pub reads : tape ≡ tape_of bytes
  -- up to the fault, the bytes are exactly those that writing the requests makes
  pub one_record_each : tape_bytes tape.requests ≡ up_to tape.fault bytes
  -- the tape that writing some requests made gives them back
  pub reads_back : (requests : List Request) → AllByRecursion Fits requests → length bytes ≤ 60000 → tape_bytes requests ≡ bytes → tape ≡ record { requests = requests; fault = None }
