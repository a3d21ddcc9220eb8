-- What a row of a policy proves as a row of locks.
use Rattle.std.proofs.Common.{◌≡◌, ℕ, Bool, true, false, [], ◌∷◌, arith}
use Rattle.std.proofs.lemmas.Bool.{true≢false}
use Rattle.std.proofs.lemmas.Bool.Decides.{nat_tests}
use denote.Enum.Bare.{sameb, same_true}
use Rattle.std.specs.List.{list_any}
use Rattle.locking.specs.PolicyLocks.{policy_holds, PolicyCompatible, no_policy}
use Rattle.std.proofs.Props.{props}
use Rattle.locking.specs.declared.policy.PolicyRow.{PolicyRow}
use Rattle.locking.specs.Modes.{policy_says}
use Rattle.locking.specs.Locks.{Beside, shared}
use Rattle.locking.specs.NoLocks.{has_zero, nobody, alone, one_is_beside}
use Rattle.locking.specs.contracts.mode.PolicyMode.{the_type}
use Rattle.locking.specs.declared.mode.PolicyMode.{PolicyMode}
use Rattle.locking.specs.declared.mode.PolicyMode.TheVariants.{ReadPolicy, Relax, Restrict, Deploy}

pub each_policy_mode : (p : PolicyMode → Bool) (m : PolicyMode) → p m ≡ true → list_any p (ReadPolicy ∷ Relax ∷ Restrict ∷ Deploy ∷ []) ≡ true
each_policy_mode p ReadPolicy e = grind (arith, nat_tests)
each_policy_mode p Relax e = grind (arith, nat_tests)
each_policy_mode p Restrict e = grind (arith, nat_tests)
each_policy_mode p Deploy e = grind (arith, nat_tests)

pub policy_one_mode : (m n : PolicyMode) → sameb the_type m n ≡ true → m ≡ n
policy_one_mode = same_true the_type tt

pub policy_one_holder : (row : PolicyRow) (m : PolicyMode) → shared policy_says m ≡ false → Beside (policy_holds row m) (policy_holds row m)
policy_one_holder row ReadPolicy e = absurd (true≢false e)
policy_one_holder row Relax e = one_is_beside row.relaxer
policy_one_holder row Restrict e = one_is_beside row.restricter
policy_one_holder row Deploy e = absurd (true≢false e)

pub no_policy_held : (m : PolicyMode) (k : ℕ) → policy_holds no_policy m k ≡ false
no_policy_held ReadPolicy k = has_zero k
no_policy_held Relax k = nobody k
no_policy_held Restrict k = nobody k
no_policy_held Deploy k = has_zero k

pub no_policy_fits : PolicyCompatible no_policy
no_policy_fits = (
  omega arith,
  omega arith,
  alone _ _ (no_policy_held Relax),
  alone _ _ (no_policy_held Relax),
  alone _ _ (no_policy_held Restrict),
  alone _ _ (no_policy_held Restrict),
)

pub policy_one_proof : (row : PolicyRow) → IsProp (PolicyCompatible row)
policy_one_proof row = hlevel props
