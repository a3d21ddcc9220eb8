-- What a reader of a tape has still to read.
use Rattle.std.specs.Prelude.{ℕ, ◌+◌, ◌-◌, length}
use Rattle.records.specs.declared.reader.TapeReader.{TapeReader}
use Rattle.records.specs.Tapes.{TapeReading, records_from}

-- what is still to come: the requests of the records that are left, up to the end or the first fault, and that fault
abbrev pub pending : TapeReader → TapeReading
pending reader = records_from (reader.total - reader.read) reader.total (reader.read + 1) reader.left.now

-- how many bytes are left
abbrev pub left_of : TapeReader → ℕ
left_of reader = length reader.left.now
