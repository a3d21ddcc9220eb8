-- Refusals: of too many policies, and by the number that C is told.
use Rattle.std.proofs.Common.{◌≡◌, ◌≢◌, ℕ, ◌<◌, true, false, List, [], length, Ok, Err, Result, refl, ap}
use Rattle.std.specs.Prelude.{◌&&◌, nat_le}
use Rattle.std.proofs.lemmas.Bool.{cond-false, lt-leb}
use Rattle.protocol.specs.Refusals.{Outcome, answered, refused, outcome, ◌then◌}
use Rattle.protocol.specs.declared.refusal.Refusal.{Refusal}
use Rattle.serial.specs.Words.{Setup, Store, Change}
use Rattle.tape.specs.Runs.{room_check, run_check}
use Rattle.c_calls.specs.Numbers.{number_of}
use Rattle.c_calls.specs.Runs.{RunsBy}

pub too_many : (S : Setup) (before : Store) (tape buffer : List ℕ) → 64 < length S.policies → run_check S before tape buffer ≡ refused 14
too_many S before tape buffer many =
    let large : nat_le (length S.policies) 64 ≡ false = lt-leb (length S.policies) 64 many in
    let either : (nat_le (length before.cells) 256 && nat_le (length S.policies) 64) ≡ false =
    rw large (elim (nat_le (length before.cells) 256) as (λ b. (b && false) ≡ false) [ true ↦ refl | false ↦ refl ]) in
    ap (λ o. o then room_check tape buffer) (cond-false _ _ _ either)

-- Other than 0, nothing has changed.
pub untouched_by : (o : Outcome Setup) (before after : Store) (wrote : List Change → Type 0) (tape buffer buffer' : List ℕ) (ran : Result ℕ Refusal)
    → RunsBy o before after wrote tape buffer buffer' ran → number_of (outcome ran) ≢ 0 → (after ≡ before) × wrote [] × (buffer' ≡ buffer)
untouched_by o before after wrote tape buffer buffer' (Ok n) runs some = absurd (some refl)
untouched_by (answered S) before after wrote tape buffer buffer' (Err f) runs some = (runs.stores_stay, runs.nothing_written, runs.buffer_stays)
untouched_by (refused k) before after wrote tape buffer buffer' (Err f) runs some = (runs.stores_stay, runs.nothing_written, runs.buffer_stays)
