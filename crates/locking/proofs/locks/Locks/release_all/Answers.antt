use Rattle.locking.proofs.locks.Locks.release_all.Goals as goal

pub invariant_of-result : goal.invariant_of-result
invariant_of-result g c = record { compatible = c.without.ensures.fits c.args.self.compatible }
