use Rattle.std.proofs.Common.{ap, sym, ◌∙◌}
use Rattle.std.specs.List.{position}
use Rattle.slot_table.specs.Tables.{used}
use Rattle.slot_table.proofs.Searches.{named_by, found_used, finds_nobody, finds_free, stands_open, finds_aborted}
use Rattle.slot_table.proofs.slot_table.SlotTable.find.Goals as goal

pub returns-in_default : goal.returns-in_default
returns-in_default c h =
    finds_nobody h c.args.transaction (used c.args.self.now) (c.in_default.ensures ∙ ap (position (named_by c.args.transaction)) c.as_slice.ensures)

pub returns-in-Free : goal.returns-in-Free
returns-in-Free c h =
    let t = c.args.self.now in
    let at = c.in-Some.ensures ∙ ap (position (named_by c.args.transaction)) c.as_slice.ensures in
    finds_free h c.args.transaction (used t) c.in-Some.place at (sym c.in-Free.is ∙ found_used t (named_by c.args.transaction) c.in-Some.place _ at)

pub returns-in-Open : goal.returns-in-Open
returns-in-Open c h =
    let t = c.args.self.now in
    let at = c.in-Some.ensures ∙ ap (position (named_by c.args.transaction)) c.as_slice.ensures in
    let is = sym c.in-Open.is ∙ found_used t (named_by c.args.transaction) c.in-Some.place _ at in
    stands_open h c.args.transaction (used t) c.in-Some.place at c.in-Open.open is c.in-Some-new.slot c.in-Some-new.ensures

pub returns-in-Aborted : goal.returns-in-Aborted
returns-in-Aborted c h =
    let t = c.args.self.now in
    let at = c.in-Some.ensures ∙ ap (position (named_by c.args.transaction)) c.as_slice.ensures in
    let is = sym c.in-Aborted.is ∙ found_used t (named_by c.args.transaction) c.in-Some.place _ at in
    rw c.in-Some-new.ensures (finds_aborted h c.args.transaction (used t) c.in-Some.place at c.in-Aborted.id _ _ is)
