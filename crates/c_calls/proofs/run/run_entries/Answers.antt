use Rattle.std.proofs.Common.{refl, sym, ap, ◌∙◌, arith}
use Rattle.std.proofs.lemmas.List.{length-map}
use Rattle.std.proofs.lemmas.Result.{err_from_is_err_and}
use Rattle.protocol.specs.Refusals.{refused, refusal_number}
use Rattle.engine.specs.Beginning.{setup_with}
use Rattle.engine.specs.Stores.{lists_of}
use Rattle.engine.proofs.Writing.{wrote_none}
use Rattle.c_calls.specs.Policies.{policy_of, policies_of}
use Rattle.c_calls.proofs.Refusing.{too_many}
use Rattle.c_calls.proofs.run.run_entries.Goals as goal

pub returns-in_err-policies-clause-runs : goal.returns-in_err-policies-clause-runs
returns-in_err-policies-clause-runs g c =
    let a = c.args in
    let why = c.in_err-policies.ensures in
    let S = setup_with g.O.RightsOrder a.order.now (policies_of a.entries.now) in
    let before = lists_of g.C.Store g.R.Store a.cells.now a.rights.now in
    let p = err_from_is_err_and c.from_residual.result c.from_residual.ensures.1 in
    rw (p.1, p.2) (record {
      refuses = too_many S before a.tape.now a.lines.now (omega (arith, length-map a.entries.now policy_of, why.1)) ∙ ap (λ f. refused (refusal_number f)) (sym why.0);
      stores_stay = refl;
      nothing_written = wrote_none g.C.Store g.R.Store _ _;
      buffer_stays = refl;
    })
