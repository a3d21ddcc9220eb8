-- Who holds what on a policy, and which rows are compatible.
use Rattle.std.specs.Prelude.{ℕ, ◌≤◌, Bool}
use Rattle.locking.specs.Slots.{has, is_holder}
use Rattle.locking.specs.Locks.{Beside}
use Rattle.locking.specs.declared.mode.PolicyMode.{PolicyMode}
use Rattle.locking.specs.declared.mode.PolicyMode.TheVariants.{ReadPolicy, Relax, Restrict, Deploy}
use Rattle.locking.specs.declared.policy.PolicyRow.{PolicyRow}

-- whether slot k holds the lock
abbrev pub policy_holds : PolicyRow → PolicyMode → ℕ → Bool
policy_holds row ReadPolicy k = has row.readers k
policy_holds row Relax k = is_holder row.relaxer k
policy_holds row Restrict k = is_holder row.restricter k
policy_holds row Deploy k = has row.deployers k

-- Beside a slot that holds the first lock, no other holds the second.
abbrev pub Alone : PolicyRow → PolicyMode → PolicyMode → Type 0
Alone row m n = Beside (policy_holds row m) (policy_holds row n)

-- At most one slot holds relax or restrict, as either has one place; beside it no other reads, and beside restrict no other deploys.
abbrev pub PolicyCompatible : PolicyRow → Type 0
PolicyCompatible row =
    (row.relaxer ≤ 16)
    × (row.restricter ≤ 16)
    × Alone row Relax Restrict
    × Alone row Relax ReadPolicy
    × Alone row Restrict ReadPolicy
    × Alone row Restrict Deploy

abbrev pub no_policy : PolicyRow
no_policy = record { readers = 0; deployers = 0; relaxer = 16; restricter = 16 }
