-- The listing of a tape: a line for each record, the fault's line, and a line that says what was read.
use Rattle.std.specs.Prelude.{ℕ, ◌+◌, List, [], ◌∷◌, ◌++◌, length, Some, None, codes, decimal, Option}
use Rattle.records.specs.Faults.{fault_line}
use Rattle.records.specs.Records.{record_bytes}
use Rattle.records.specs.Tapes.{TapeReading, tape_of}
use Rattle.protocol.specs.Words.{words}
use Rattle.records.specs.declared.fault.FaultValues.{FaultValues}
use Rattle.protocol.specs.declared.request.Request.{Request}

-- A record's line: its number, its first byte, and the request in words.
abbrev pub request_line : ℕ → ℕ → Request → List ℕ
request_line number start request = decimal number ++ codes " " ++ decimal start ++ codes " " ++ words request ++ codes "\n"

-- The lines of records from a number and a first byte on.
unfoldable pub request_lines : ℕ → ℕ → List Request → List ℕ
request_lines number start [] = []
request_lines number start (request ∷ more) = request_line number start request ++ request_lines (number + 1) (start + length (record_bytes request)) more

abbrev pub ending : Option FaultValues → List ℕ
ending None = codes "read to the end"
ending (Some f) = codes "stopped at a fault"

-- how many bytes were read as records
abbrev pub read_size : Option FaultValues → ℕ → ℕ
read_size None size = size
read_size (Some f) size = f.start

abbrev pub summary : ℕ → ℕ → ℕ → List ℕ → List ℕ
summary count read size end = decimal count ++ codes " records, " ++ decimal read ++ codes " of " ++ decimal size ++ codes " bytes, " ++ end ++ codes "\n"

-- The last line: how many records, how many of so many bytes they took, and whether that was all.
abbrev pub last_line : ℕ → Option FaultValues → ℕ → List ℕ
last_line count fault size = summary count (read_size fault size) size (ending fault)

abbrev pub listing : TapeReading → ℕ → List ℕ
listing tape size = request_lines 1 0 tape.requests ++ fault_line tape.fault ++ last_line (length tape.requests) tape.fault size

abbrev pub listing_of : List ℕ → List ℕ
listing_of bytes = listing (tape_of bytes) (length bytes)
