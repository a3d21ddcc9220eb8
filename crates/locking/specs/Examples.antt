-- The worked examples of orders, of changes and of locks, over the definitions that the calls promise.
use Rattle.std.specs.Prelude.{◌≡◌, ℕ, Bool, true, false}
use Rattle.protocol.specs.Refusals.{answered}
use Rattle.rights.specs.Orders.{join_of, permits_of, change_of, vector_right, vector_joined, ladder_right, ladder_allows, ladder_check}
use Rattle.rights.specs.declared.change.ChangeKind.{ChangeKind}
use Rattle.rights.specs.declared.change.ChangeKind.TheVariants.{Relaxation, Restriction}
use Rattle.rights.specs.declared.order.Operation.{Operation}
use Rattle.rights.specs.declared.order.Operation.TheVariants.{Read, Write, Restrict}
use Rattle.locking.specs.Modes.{policy_says}
use Rattle.locking.specs.declared.mode.LockAnswer.TheVariants.{Compatible, Conflict, Signal}
use Rattle.locking.specs.declared.mode.PolicyMode.TheVariants.{Relax, Deploy}
use Rattle.locking.specs.declared.mode.PolicyMode.TheVariants as mode

abbrev vector_join : ℕ → ℕ → ℕ
vector_join = join_of vector_right vector_joined

abbrev vector_change : ℕ → ℕ → ChangeKind
vector_change = change_of vector_join

-- with the thresholds 10, 20 and 30
abbrev ladder_permits : ℕ → Operation → Bool
ladder_permits = permits_of ladder_right (ladder_allows 10 20 30)

pub record ExamplesStand (answer : Bool) : Type 0 where
  pub answer_is_yes : answer ≡ true
  pub vector_1_to_5_joins_to_5 : vector_join 1 5 ≡ 5
  pub vector_1_to_5_relaxes : vector_change 1 5 ≡ Relaxation
  pub vector_1_to_6_joins_to_7 : vector_join 1 6 ≡ 7
  pub vector_1_to_6_restricts : vector_change 1 6 ≡ Restriction
  pub vector_6_to_6_relaxes : vector_change 6 6 ≡ Relaxation
  pub vector_0_to_4_relaxes : vector_change 0 4 ≡ Relaxation
  pub vector_4_to_0_restricts : vector_change 4 0 ≡ Restriction
  pub ladder_10_20_30_is_accepted : ladder_check 10 20 30 ≡ answered tt
  pub ladder_20_permits_read : ladder_permits 20 Read ≡ true
  pub ladder_20_permits_write : ladder_permits 20 Write ≡ true
  pub ladder_20_forbids_restrict : ladder_permits 20 Restrict ≡ false
  pub deploy_allows_relax : policy_says Deploy Relax ≡ Compatible
  pub deploy_signals_restrict : policy_says Deploy mode.Restrict ≡ Signal
  pub relax_excludes_deploy : policy_says Relax Deploy ≡ Conflict
