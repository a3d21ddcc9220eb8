use Rattle.std.proofs.Common.{sym, refl, ◌∙◌}
use Rattle.locking.specs.Slots.{has}
use Rattle.lock_table.specs.Held.{held}
use Rattle.slot_table.specs.Tables.{used}
use Rattle.engine.proofs.Strikes.{blocker_found, not_nobody, idle_granted, got}
use Rattle.engine.proofs.tables.Tables.acquire.Goals as goal

pub unreachable-requires : goal.unreachable-requires
unreachable-requires c =
    let told = rw c.in-Blocked.is at c.in-Err.ensures in
    told.1.somebody (not_nobody c.args.self.now c.args.asker.slot.at c.requires.transaction c.args.lock c.requires.there (has c.in-Blocked.blocked.by.mask) told.1.exact (sym c.in-None.ensures))

pub returns-in-Some : goal.returns-in-Some
returns-in-Some c =
    let told = rw c.in-Blocked.is at c.in-Err.ensures in
    (blocker_found c.args.self.now c.args.asker c.args.lock c.requires (has c.in-Blocked.blocked.by.mask) told.1.exact ∙ sym c.in-Some.ensures, refl, told.2)

pub invariant_of-self : goal.invariant_of-self
invariant_of-self c =
    record {
      idle = idle_granted c.args.self.now c.args.asker.slot.at c.requires.transaction c.args.lock c.requires.there (held c.ask.new.self) (has c.in-Ok.struck.mask) c.in-Ok.ensures.1
          (used c.abort.new.self) _ _ c.abort.ensures.slots;
    }

pub returns-in-Ok : goal.returns-in-Ok
returns-in-Ok c =
    let each = rw c.number.ensures at c.abort.ensures.slots in
    got c.args.self.now c.args.asker c.args.lock c.requires _ (has c.in-Ok.struck.mask) c.in-Ok.ensures.1 c.abort.ensures.size each _ c.count.ensures c.abort.ensures.counts
