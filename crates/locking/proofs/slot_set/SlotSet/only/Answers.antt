use Rattle.std.proofs.Common.{◌*◌, ◌%◌, ◌^◌, ap, ◌∙◌}
use Rattle.locking.specs.Slots.{has}
use Rattle.locking.proofs.BitLaws.{has_one}
use Rattle.locking.proofs.slot_set.SlotSet.only.Goals as goal

pub returns : goal.returns
returns c k = ap (λ i. has (1 * 2 ^ i % 2 ^ 16) k) c.get.ensures ∙ has_one c.args.slot.at k c.args.slot.below
