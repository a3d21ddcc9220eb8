use Rattle.std.proofs.Common.{◌≡◌, ◌<◌, ◌≤◌, ◌^◌, refl, sym, subst, arith, w16}
use Rattle.std.specs.Int.{trailing_zeros}
use Rattle.locking.specs.Slots.{has, IsLowest}
use Rattle.locking.proofs.BitLaws.{lowest_in, no_lowest}
use Rattle.locking.proofs.slot_set.SlotSet.pop_lowest.Goals as goal

pub returns-in_err-slot : goal.returns-in_err-slot
returns-in_err-slot c =
    let m = c.args.self.now.mask in
    let fits : m < 2 ^ 16 = omega arith in
    let none : 16 ≤ trailing_zeros w16 m = omega (arith, c.in_err-slot.ensures) in
    rw c.from_residual.ensures (no_lowest m fits none, refl)

pub returns : goal.returns
returns c =
    let m = c.args.self.now.mask in
    let fits : m < 2 ^ 16 = omega arith in
    let at : c.in_ok-slot.slot.at ≡ trailing_zeros w16 m = c.in_ok-slot.ensures in
    let below = c.in_ok-slot.slot.below in
    (subst (IsLowest (has m)) (sym at) (lowest_in m fits (omega arith)), c.without.ensures)
