use Rattle.std.proofs.Common.{refl, set, sym, ap, ◌∙◌, subst, arith}
use Rattle.std.proofs.lemmas.List.{length-take, length-take-le, set_past}
use Rattle.slot_table.specs.declared.slot.Slot.TheVariants.{Free}
use Rattle.slot_table.specs.Edits.{Ends}
use Rattle.slot_table.specs.Tables.{used, slot_at}
use Rattle.slot_table.proofs.SlotLists.{used_set}
use Rattle.slot_table.proofs.Invariants.{turned, free_follows}
use Rattle.slot_table.proofs.Ending.{ended}
use Rattle.slot_table.proofs.slot_table.SlotTable.end.Goals as goal

pub invariant_of-self : goal.invariant_of-self
invariant_of-self c =
    let e = c.args.self.now in
    let whole = e.sized in
    let long = length-take-le e.limit e.slots (omega arith) in
    let t = turned e c.get-at.result Free (omega arith) (free_follows (slot_at e c.get-at.result)) in
    record { sized = t.sized; within = t.within; numbered = t.numbered; counted = t.counted; known = t.known; apart = t.apart }

pub returns-then-at-self : goal.returns-then-at-self
returns-then-at-self c =
    let e = c.args.self.now in
    let whole = e.sized in
    let long = length-take-le e.limit e.slots (omega arith) in
    let slots = used_set e c.get-at.result Free (omega arith) ∙ ap (λ k. set (used e) k Free) c.get-at.ensures in
    record { slots = slots; counts = refl; model = subst (Ends (used e) c.args.slot.at) (sym slots) (ended (used e) c.args.slot.at e.apart) }

pub returns-else-at-self : goal.returns-else-at-self
returns-else-at-self c =
    let e = c.args.self.now in
    let same = c.get-at.ensures in
    let slots = sym (set_past (used e) c.args.slot.at Free (omega (arith, length-take e.limit e.slots))) in
    record { slots = slots; counts = refl; model = subst (Ends (used e) c.args.slot.at) (sym slots) (ended (used e) c.args.slot.at e.apart) }
