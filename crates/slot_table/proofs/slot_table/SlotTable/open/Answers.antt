use Rattle.std.proofs.Common.{◌+◌, sym, ap, ◌∙◌, subst, arith}
use Rattle.std.specs.List.{position}
use Rattle.protocol.specs.declared.answer.Answer.TheVariants.{Granted}
use Rattle.slot_table.specs.declared.slot.Slot.TheVariants.{Open}
use Rattle.slot_table.specs.Slots.{slots_from, is_free, Idle}
use Rattle.slot_table.specs.Tables.{used, state_of}
use Rattle.slot_table.proofs.SlotLists.{used_set}
use Rattle.slot_table.proofs.Opening.{opened, next_transaction, refused_number, refused_slot, inside, opened_idle, granted}
use Rattle.slot_table.proofs.slot_table.SlotTable.open.Goals as goal

pub returns-then-self-ge50000-clause-model : goal.returns-then-self-ge50000-clause-model
returns-then-self-ge50000-clause-model c s h _ = refused_number (state_of s h c.args.self.now) c.args.subject _ c.if-self-ge50000.true

pub returns-in_default-clause-model : goal.returns-in_default-clause-model
returns-in_default-clause-model c s h _ =
    let none = c.in_default.ensures ∙ ap (position is_free) c.as_slice.ensures in
    refused_slot (used c.args.self.now) h (state_of s h c.args.self.now) c.args.subject none c.if-self-ge50000.false

pub invariant_of-self : goal.invariant_of-self
invariant_of-self c =
    let e = c.args.self.now in
    let at = c.in-Some.ensures ∙ ap (position is_free) c.as_slice.ensures in
    let t = opened e c.in-Some.place at c.args.subject c.new.result (omega arith) in
    record { sized = t.sized; within = t.within; numbered = t.numbered; counted = t.counted; known = t.known; apart = t.apart }

pub returns : goal.returns
returns c =
    let e = c.args.self.now in
    let n = c.in-Some.place in
    let us = used e in
    let x = next_transaction e c.args.subject c.new.result in
    let at = c.in-Some.ensures ∙ ap (position is_free) c.as_slice.ensures in
    let new = used_set e n (Open x) (inside us n at) in
    record {
      model = λ s h idle.
          ap (λ vs. (Granted c.from.result, record { store = s; slots = slots_from h 0 vs; opened = e.counts.opened + 1; commits = e.counts.commits })) new
          ∙ granted us n at h idle e.counts.opened c.args.subject c.new.result c.new.ensures s e.counts.commits c.from.result c.from.ensures c.if-self-ge50000.false;
      idle = λ h idle. subst (λ vs. Idle vs h) (sym new) (opened_idle us n at h x idle);
    }
