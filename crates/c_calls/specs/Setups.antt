-- The order of rights by thresholds, and what set-up refuses by it.
use Rattle.std.specs.Prelude.{ℕ, cond, List, [], ◌∷◌}
use Rattle.protocol.specs.Refusals.{Outcome, answered, refused}
use Rattle.log_store.specs.Log.{holds_log}
use Rattle.protocol.specs.declared.policy.Policy.{Policy}
use Rattle.rights.specs.Orders.{vector_right, vector_joined, vector_allows, ladder_right, ladder_joined, ladder_allows, are_thresholds}
use Rattle.serial.specs.Words.{Setup, setup_of}
use Rattle.setup.specs.Admission.{setup_check}

-- The vector order without thresholds, the ladder with three for read, write and restrict; any others are refused.
abbrev pub setup_by : List ℕ → List Policy → Outcome Setup
setup_by [] policies = answered (setup_of vector_right vector_joined vector_allows policies)
setup_by (read ∷ write ∷ restrict ∷ []) policies = cond (are_thresholds read write restrict) (answered (setup_of ladder_right ladder_joined (ladder_allows read write restrict) policies)) (refused 17)
setup_by _ policies = refused 17

-- What set-up refuses of the cells and the rights, once there is an order.
abbrev pub check_by : Outcome Setup → List ℕ → List ℕ → Outcome (Unit {0})
check_by (answered S) cells rights = setup_check S.is_right cells rights S.policies
check_by (refused number) cells rights = refused number

-- The same set-up where the bytes hold a log of so many numbers, else refusal 18; what was refused before stays refused.
abbrev pub on_log : ℕ → List ℕ → Outcome Setup → Outcome Setup
on_log count bytes (answered S) = cond (holds_log count bytes) (answered S) (refused 18)
on_log count bytes (refused number) = refused number

-- A set-up on two logs: the thresholds are asked first, then the cells' log, then the rights'.
abbrev pub setup_on_logs : List ℕ → List Policy → ℕ → List ℕ → ℕ → List ℕ → Outcome Setup
setup_on_logs thresholds policies cell_count cells right_count rights = on_log right_count rights (on_log cell_count cells (setup_by thresholds policies))
