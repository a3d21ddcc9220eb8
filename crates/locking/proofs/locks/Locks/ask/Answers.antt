use Rattle.locking.specs.Slots.{has}
use Rattle.locking.proofs.LockLaws.{left_free, granted}
use Rattle.locking.proofs.locks.Locks.ask.Goals as goal

pub invariant_of-result : goal.invariant_of-result
invariant_of-result g c =
    let row = g.R.LockRow in
    let free =
    left_free row.says (row.holds c.args.self.row) c.args.mode c.args.slot.at row.modes g.met.R.LockRow.each_mode
    (row.holds c.without.result) (has c.heard.result.conflicts.mask) (has c.heard.result.signals.mask) c.heard.ensures.conflicts (c.is_empty.ensures.0 c.if-not-is_empty.false) c.heard.ensures.signals c.without.ensures.same in
    record { compatible = c.with-row.ensures.fits (c.without.ensures.fits c.args.self.compatible) free }

pub returns : goal.returns
returns g c =
    let row = g.R.LockRow in
    let laws = g.met.R.LockRow in
    granted row.says (row.holds c.args.self.row) c.args.mode c.args.slot.at row.modes laws.each_mode
    (row.holds c.without.result) (has c.heard.result.conflicts.mask) (has c.heard.result.signals.mask) c.heard.ensures.conflicts (c.is_empty.ensures.0 c.if-not-is_empty.false) c.heard.ensures.signals c.without.ensures.same
    g.R.Mode.PartialEq.eq laws.one_mode (laws.one_holder c.without.result) (row.holds c.with-row.result) c.with-row.ensures.same
