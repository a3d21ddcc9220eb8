-- The number of each fault, and its places: the record's number from 1 and its first byte from 0.
use Rattle.std.specs.Prelude.{ℕ, List, [], ◌++◌, Some, None, codes, decimal, Option}
use Rattle.records.specs.declared.fault.FieldFault.{FieldFault}
use Rattle.records.specs.declared.fault.FieldFault.TheVariants.{Cut}
use Rattle.records.specs.declared.fault.RecordFault.{RecordFault}
use Rattle.records.specs.declared.fault.RecordFault.TheVariants.{Field, UnknownTag, WrongLength}
use Rattle.records.specs.declared.fault.TapeFault.{TapeFault}
use Rattle.records.specs.declared.fault.TapeFault.TheVariants.{TooLong, Record}
use Rattle.records.specs.declared.fault.FaultValues.{FaultValues}

abbrev pub field_number : FieldFault → ℕ
field_number Cut = 9

abbrev pub record_number : RecordFault → ℕ
record_number (Field fault) = field_number fault
record_number UnknownTag = 10
record_number WrongLength = 11

abbrev pub fault_values : TapeFault → FaultValues
fault_values TooLong = record { fault = 13; number = 0; start = 0 }
fault_values (Record placed) = record { fault = record_number placed.fault; number = placed.number; start = placed.start }

-- A fault in words: F, its number, the record's number and its first byte.
abbrev pub values_words : FaultValues → List ℕ
values_words f = codes "F " ++ decimal f.fault ++ codes " " ++ decimal f.number ++ codes " " ++ decimal f.start

abbrev pub values_line : FaultValues → List ℕ
values_line f = values_words f ++ codes "\n"

-- No line where there is no fault
abbrev pub fault_line : Option FaultValues → List ℕ
fault_line None = []
fault_line (Some f) = values_line f
