use Rattle.std.proofs.Common.{◌∙◌, ap}
use Rattle.c_calls.proofs.Refusing.{untouched_by}
use Rattle.c_calls.proofs.calls.run_tape.Goals as goal

pub returns-clause-untouched : goal.returns-clause-untouched
returns-clause-untouched c =
    let number = c.told.ensures.number in
    λ some.
    let stays = untouched_by _ _ _ _ _ _ _ c.run_on_slices-ran.result c.run_on_slices-ran.ensures (λ e. some (number ∙ e)) in
    (ap (λ s. s.cells) stays.0, ap (λ s. s.rights) stays.0, stays.2)
