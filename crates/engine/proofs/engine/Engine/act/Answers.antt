use Rattle.std.proofs.Common.{refl, ap, inl, inr, ◌∙◌}
use Rattle.std.proofs.lemmas.Bool.{eq-eqb}
use Rattle.engine.specs.Engines.{state_of}
use Rattle.engine.proofs.Acting.{goes_as, goes_nowhere, nobody_acts, calls, commits, gives_up, stays_aborted, ends_aborted, refused_writes, aborted_writes, call_writes, give_up_writes, commit_writes}
use Rattle.engine.proofs.engine.Engine.act.Goals as goal

pub returns-in-Nobody-default : goal.returns-in-Nobody-default
returns-in-Nobody-default g c =
    let e = c.args.self.now in
    let σ = state_of g.C.Store g.R.Store e in
    let found = rw c.in-Nobody-default.is-0 at c.find.ensures in
    goes_nowhere e (nobody_acts _ σ c.args.transaction c.args.action found) (refused_writes σ c.args.transaction c.args.action _)

pub returns-in-Open-Calls : goal.returns-in-Open-Calls
returns-in-Open-Calls g c =
    let σ = state_of g.C.Store g.R.Store c.args.self.now in
    let found = rw c.in-Open-Calls.is-0 at c.find.ensures in
    goes_as (rw c.answered.ensures c.call_in.ensures) (calls _ σ _ _ _ _ c.in-Open-Calls.is-1 found.0) (call_writes σ c.args.transaction c.args.action _ _ c.in-Open-Calls.is-1)

pub returns-in-Open-Commits : goal.returns-in-Open-Commits
returns-in-Open-Commits g c =
    let σ = state_of g.C.Store g.R.Store c.args.self.now in
    let found = rw c.in-Open-Commits.is-0 at c.find.ensures in
    let went = c.commit_in.ensures in
    goes_as went (commits _ σ _ _ _ c.in-Open-Commits.is-1 found.0 found.2)
    (commit_writes σ c.args.transaction _ c.args.action _ _ _ c.in-Open-Commits.is-1 found.0 went.answered)

pub returns-in-Open-GivesUp : goal.returns-in-Open-GivesUp
returns-in-Open-GivesUp g c =
    let σ = state_of g.C.Store g.R.Store c.args.self.now in
    let found = rw c.in-Open-GivesUp.is-0 at c.find.ensures in
    goes_as (c.end.ensures c.args.transaction (rw found.1.there (eq-eqb _ _ (found.1.number ∙ found.2)))) (gives_up _ σ _ _ _ c.in-Open-GivesUp.is-1 found.0)
    (give_up_writes σ c.args.transaction c.args.action _ c.in-Open-GivesUp.is-1)

pub returns-in-Aborted-Calls : goal.returns-in-Aborted-Calls
returns-in-Aborted-Calls g c =
    let e = c.args.self.now in
    let σ = state_of g.C.Store g.R.Store e in
    let found = rw c.in-Aborted-Calls.is-0 at c.find.ensures in
    goes_nowhere e (stays_aborted _ σ c.args.transaction _ _ _ _ c.in-Aborted-Calls.is-1 found.0) (aborted_writes σ c.args.transaction c.args.action _ _ _ refl)

pub returns-in-Aborted-Commits : goal.returns-in-Aborted-Commits
returns-in-Aborted-Commits g c =
    let σ = state_of g.C.Store g.R.Store c.args.self.now in
    let found = rw c.in-Aborted-Commits.is-0 at c.find.ensures in
    let went = c.end-in-Aborted-Commits.ensures c.args.transaction (rw found.1 (eq-eqb _ _ refl)) in
    goes_as went (ends_aborted _ σ _ _ _ _ (inl c.in-Aborted-Commits.is-1) found.0) (aborted_writes σ c.args.transaction c.args.action _ _ _ (ap (λ z. z.0) went.answered))

pub returns-in-Aborted-GivesUp : goal.returns-in-Aborted-GivesUp
returns-in-Aborted-GivesUp g c =
    let σ = state_of g.C.Store g.R.Store c.args.self.now in
    let found = rw c.in-Aborted-GivesUp.is-0 at c.find.ensures in
    let went = c.end-in-Aborted-GivesUp.ensures c.args.transaction (rw found.1 (eq-eqb _ _ refl)) in
    goes_as went (ends_aborted _ σ _ _ _ _ (inr c.in-Aborted-GivesUp.is-1) found.0) (aborted_writes σ c.args.transaction c.args.action _ _ _ (ap (λ z. z.0) went.answered))
