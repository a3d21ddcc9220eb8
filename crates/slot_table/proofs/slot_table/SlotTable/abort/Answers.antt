use Rattle.std.proofs.Common.{◌≡◌, length, take, ◌∙◌, arith}
use Rattle.std.proofs.lemmas.List.{length-take}
use Rattle.locking.specs.Slots.{has}
use Rattle.slot_table.specs.Tables.{used}
use Rattle.slot_table.proofs.Aborting.{aborted_all, aborted_used, aborted_numbered, aborted_apart, aborted_count}
use Rattle.slot_table.proofs.slot_table.SlotTable.abort.Goals as goal

pub invariant_of-self : goal.invariant_of-self
invariant_of-self c =
    let e = c.args.self.now in
    let p = has c.args.struck.mask in
    let vs = c.loop-at.slot-items in
    let whole = e.sized in
    let same = c.loop-at.invariant.size in
    let size : length (take e.limit vs) ≡ length (used e) = grind (arith, length-take e.limit vs, length-take e.limit e.slots) in
    let struck = aborted_used p c.args.by c.args.policy e.slots vs same (aborted_all p c.args.by c.args.policy e.slots c.loop-at.at vs c.loop-at.invariant.below (omega arith)) e.limit in
    let few = aborted_count p c.args.by c.args.policy (used e) (take e.limit vs) size struck in
    record {
      sized = same ∙ e.sized;
      within = e.within;
      numbered = e.numbered;
      counted = omega arith;
      known = aborted_numbered p c.args.by c.args.policy (used e) (take e.limit vs) size struck e.counts.opened e.known;
      apart = aborted_apart p c.args.by c.args.policy (used e) (take e.limit vs) size struck e.apart;
    }
