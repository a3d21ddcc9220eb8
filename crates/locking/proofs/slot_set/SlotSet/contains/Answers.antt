use Rattle.std.proofs.Common.{◌/◌, ◌^◌, eqb, ap, ◌∙◌}
use lib.Bits.{bit_and}
use Rattle.std.proofs.lemmas.Nat.Bits.{shr_and_one}
use Rattle.locking.specs.Slots.{has}
use Rattle.locking.proofs.slot_set.SlotSet.contains.Goals as goal

pub returns : goal.returns
unfolding has
returns c = ap (λ i. eqb (bit_and (c.args.self.mask / 2 ^ i) 1) 1) c.get.ensures ∙ ap (λ b. eqb b 1) (shr_and_one c.args.self.mask c.args.slot.at)
