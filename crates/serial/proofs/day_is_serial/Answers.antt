use Rattle.serial.proofs.day_is_serial.Goals as goal
use Rattle.serial.proofs.Main.{day_is_serial}

pub returns : goal.returns
returns c = day_is_serial
