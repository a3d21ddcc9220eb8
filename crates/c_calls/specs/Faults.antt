-- What C is told of a tape, in three numbers.
use Rattle.std.specs.Prelude.{◌≡◌, ℕ, List, Some, None, Option}
use Rattle.records.specs.declared.fault.FaultValues.{FaultValues}
use Rattle.records.specs.Tapes.{tape_of}

-- The fault, or 0 three times where there is none
abbrev pub fault_or_none : Option FaultValues → FaultValues
fault_or_none None = record { fault = 0; number = 0; start = 0 }
fault_or_none (Some values) = values

-- The tape's first fault
abbrev pub TellsTape : List ℕ → FaultValues → Type 0
TellsTape tape told = told ≡ fault_or_none (tape_of tape).fault
