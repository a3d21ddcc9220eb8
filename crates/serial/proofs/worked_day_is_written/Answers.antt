use Rattle.serial.proofs.worked_day_is_written.Goals as goal
use Rattle.serial.proofs.Writes.{day_is_written}

pub returns : goal.returns
returns c = day_is_written
