use Rattle.std.proofs.lemmas.List.{take-replicate}
use Rattle.slot_table.specs.declared.slot.Slot.TheVariants.{Free}
use Rattle.slot_table.proofs.slot_table.SlotTable.with_limit.Goals as goal

pub returns-clause-slots : goal.returns-clause-slots
returns-clause-slots c = take-replicate c.args.limit 16 Free c.requires
