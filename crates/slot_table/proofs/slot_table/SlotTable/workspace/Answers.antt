use Rattle.std.proofs.Common.{sym, ◌∙◌}
use Rattle.slot_table.specs.Tables.{slot_at}
use Rattle.slot_table.proofs.SlotLists.{no_changes}
use Rattle.slot_table.proofs.slot_table.SlotTable.workspace.Goals as goal

pub returns-in-None : goal.returns-in-None
returns-in-None c = c.new.ensures ∙ sym (no_changes (slot_at c.args.self.now c.args.slot.at) c.in-None.ensures)
