use Rattle.lock_table.proofs.Listing.{listed_covers}
use Rattle.lock_table.proofs.lock_table.LockTable.listed.Goals as goal

pub returns-clause-covers : goal.returns-clause-covers
returns-clause-covers c =
    let t = c.args.self.now in
    listed_covers (λ locks. locks.now) t.cells t.policies t.lists c.args.slot.at c.get.result c.as_slice.result t.listed c.args.slot.below c.get.ensures c.as_slice.ensures.rows
