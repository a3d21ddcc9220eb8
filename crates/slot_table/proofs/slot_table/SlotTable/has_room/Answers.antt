use Rattle.std.proofs.Common.{refl}
use Rattle.serial.specs.Changes.{room, latest}
use Rattle.slot_table.specs.Tables.{slot_at}
use Rattle.slot_table.proofs.SlotLists.{no_changes}
use Rattle.slot_table.proofs.slot_table.SlotTable.has_room.Goals as goal

pub returns-in-None : goal.returns-in-None
unfolding room latest
returns-in-None c = rw (no_changes (slot_at c.args.self.now c.args.slot.at) c.in-None.ensures) refl
