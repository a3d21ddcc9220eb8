use Rattle.std.proofs.Common.{◌≡◌, ◌<◌, length, rules}
use Rattle.std.proofs.lemmas.Result.{err_from_is_err_and}
use Rattle.records.specs.Faults.{fault_values}
use Rattle.records.proofs.Tapes.{from_ends, pending_goes, pending_stops}
use Rattle.records.proofs.reader.TapeReader.next_request.Goals as goal

pub returns-then-is_empty-clause-reads : goal.returns-then-is_empty-clause-reads
returns-then-is_empty-clause-reads c =
    let none : length c.args.self.now.left.now ≡ 0 = search rules in
    from_ends _ _ _ _ none

pub returns-in_err-request-clause-reads : goal.returns-in_err-request-clause-reads
returns-in_err-request-clause-reads c =
    let some : 0 < length c.args.self.now.left.now = search rules in
    let told = c.in_err-request.ensures in
    let p = err_from_is_err_and c.from_residual.result c.from_residual.ensures.1 in
    rw (p.1, p.2) (pending_stops _ _ _ c.args.self.now.within some (fault_values c.in_err-request.field-0.0) told.reads told.places.0 told.places.1)

pub returns-clause-reads : goal.returns-clause-reads
returns-clause-reads c =
    let some : 0 < length c.args.self.now.left.now = search rules in
    pending_goes _ _ _ c.args.self.now.within some _ _ c.in_ok-request.ensures.reads
