use Rattle.std.proofs.Common.{get_or, refl, ap, ◌∙◌}
use Rattle.slot_table.specs.declared.slot.Slot.TheVariants.{Free}
use Rattle.slot_table.specs.Slots.{slots_from, is_open}
use Rattle.slot_table.specs.Tables.{used, slot_at, slots_of}
use Rattle.slot_table.specs.Edits.{put_in}
use Rattle.slot_table.proofs.Changing.{put_kinds, put_slots, put_used, put_here, put_table}
use Rattle.slot_table.proofs.slot_table.SlotTable.put.Goals as goal

pub invariant_of-self : goal.invariant_of-self
invariant_of-self c =
    let t = put_table c.args.self.now c.get-at.result c.args.object c.args.value c.if-at-self.true c.put_at.new.slots c.put_at.ensures.here c.put_at.ensures.others in
    record { sized = t.sized; within = t.within; numbered = t.numbered; counted = t.counted; known = t.known; apart = t.apart }

pub returns-then-at-self : goal.returns-then-at-self
returns-then-at-self c =
    let e = c.args.self.now in
    let at = c.get-at.result in
    let o = c.args.object in
    let v = c.args.value in
    let ss = c.put_at.new.slots in
    let s = get_or ss at Free in
    let told = c.put_at.ensures in
    let new = put_used e at o v c.if-at-self.true ss told.here told.others in
    let here = put_here e at o v c.if-at-self.true ss told.here told.others in
    record {
      model = λ h. ap (slots_from h 0) new ∙ put_slots (used e) at s o v e.apart h here ∙ ap (λ k. put_in (h k) o v (slot_at e k) (slots_of h e)) c.get-at.ensures;
      kinds = λ k. ap (λ vs. is_open (get_or vs k Free)) new ∙ put_kinds (used e) at s o v here k;
      counts = refl;
    }
