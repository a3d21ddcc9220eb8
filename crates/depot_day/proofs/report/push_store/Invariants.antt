use Rattle.std.proofs.Common.{◌≡◌, ◌++◌, drop}
use Rattle.lines.specs.Lines.{numbers_part, line}
use Rattle.depot_day.proofs.report.push_store.Given as goal

-- The name and the first numbers are written.
abbrev pub invariant-loop-at : goal.invariant-loop-at
invariant-loop-at g l =
    let list = g.S.Store.list l.store in
    l.text.items ++ numbers_part (drop l.at list) ≡ l.fn.text.items ++ line l.name list
