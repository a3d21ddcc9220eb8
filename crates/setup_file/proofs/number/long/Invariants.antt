use Rattle.setup_file.proofs.Numbers.{DigitsRead}
use Rattle.setup_file.proofs.number.long.Given as goal

abbrev pub invariant-loop-byte : goal.invariant-loop-byte
invariant-loop-byte l = DigitsRead l.word l.byte-index l.value
