use Rattle.std.proofs.Common.{Ok, Err, Result, refl, ◌∙◌, arith}
use Rattle.std.specs.Result.{OnErr}
use Rattle.std.proofs.lemmas.List.{length-set}
use Rattle.lock_table.proofs.Tables.{same_table}
use Rattle.lock_table.proofs.Listing.{rows_stay, listed_more}
use Rattle.lock_table.proofs.lock_table.LockTable.ask_row.Goals as goal

always : {T E P : Type 0} (r : Result T E) → P → OnErr r P
always (Ok x) p = tt
always (Err e) p = p

pub returns-in_err-struck-clause-stays : goal.returns-in_err-struck-clause-stays
returns-in_err-struck-clause-stays c =
    let t = c.args.self.now in
    let stay = rows_stay t.cells c.ask_on_row.new.cells t.policies c.ask_on_row.new.policies c.args.lock c.args.slot.at c.in_err-struck.field-0.0 c.in_err-struck.ensures.asked in
    always c.from_residual.result (same_table t _ stay.0 stay.1 refl)

pub invariant_of-self-2-clause-slotted : goal.invariant_of-self-2-clause-slotted
invariant_of-self-2-clause-slotted c = length-set c.args.self.now.lists c.get.result c.push.new.self ∙ c.args.self.now.slotted

pub invariant_of-self-2-clause-listed : goal.invariant_of-self-2-clause-listed
invariant_of-self-2-clause-listed c =
    let t = c.args.self.now in
    listed_more t.cells c.ask_on_row.new.cells t.policies c.ask_on_row.new.policies t.lists c.args.lock c.args.slot.at _ c.in_ok-struck.ensures.asked.1 t.listed c.get.result c.push.new.self c.get.ensures (omega (arith, t.slotted, c.get.ensures)) c.push.ensures.rows
