use Rattle.serial.proofs.worked_day_is_serial.Goals as goal
use Rattle.serial.proofs.OneDay.{every_day_is_done}

pub returns : goal.returns
returns c = every_day_is_done
