use Rattle.lock_table.proofs.OnRow.{cell_asked, policy_asked}
use Rattle.lock_table.proofs.every_row.ask_on_row.Goals as goal

pub returns-in-OnCell-clause-asked : goal.returns-in-OnCell-clause-asked
returns-in-OnCell-clause-asked c = rw c.in-OnCell.is (cell_asked _ _ _ c.in-OnCell.mode c.in-OnCell.cell c.args.slot.at c.ask_at.result c.requires.compatible c.requires.celled c.ask_at.ensures)

pub returns-in-OnPolicy-clause-asked : goal.returns-in-OnPolicy-clause-asked
returns-in-OnPolicy-clause-asked c =
    rw c.in-OnPolicy.is (policy_asked _ _ _ c.in-OnPolicy.mode c.in-OnPolicy.policy c.args.slot.at c.ask_at-in-OnPolicy.result c.requires.compatible c.requires.policed c.ask_at-in-OnPolicy.ensures)
