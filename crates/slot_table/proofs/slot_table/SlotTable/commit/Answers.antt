use Rattle.std.proofs.Common.{◌≡◌, ◌+◌, true, get_or, count_by, ap, ◌∙◌, arith}
use Rattle.slot_table.specs.declared.slot.Slot.TheVariants.{Free}
use Rattle.slot_table.specs.Slots.{is_open}
use Rattle.slot_table.specs.Tables.{used}
use Rattle.slot_table.proofs.Ending.{open_inside, freed_count}
use Rattle.slot_table.proofs.slot_table.SlotTable.commit.Goals as goal

pub invariant_of-self-clause-counted : goal.invariant_of-self-clause-counted
invariant_of-self-clause-counted c =
    let us = used c.args.self.now in
    let on : is_open (get_or us c.args.slot.at Free) ≡ true = ap is_open c.in-Some.ensures in
    let one : count_by is_open (used c.end.new.self) + 1 ≡ count_by is_open us =
    ap (λ vs. count_by is_open vs + 1) c.end.ensures.slots ∙ freed_count us c.args.slot.at (open_inside us c.args.slot.at on) on in
    let counted = c.args.self.now.counted in
    let opened = ap (λ n. n.opened) c.end.ensures.counts in
    let commits = ap (λ n. n.commits) c.end.ensures.counts in
    omega arith
