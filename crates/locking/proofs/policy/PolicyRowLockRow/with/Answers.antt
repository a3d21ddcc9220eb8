use Rattle.std.proofs.Common.{◌≡◌, ℕ, ◌≤◌, false, refl, arith, rules}
use denote.Enum.Bare.{sameb}
use Rattle.locking.specs.Modes.{policy_says, same_answer}
use Rattle.locking.specs.Locks.{put, shared, IsFree}
use Rattle.locking.specs.PolicyLocks.{policy_holds, Alone, PolicyCompatible}
use Rattle.locking.specs.PolicyLaws.{policy_one_mode, policy_one_holder}
use Rattle.locking.specs.contracts.mode.PolicyMode.{the_type}
use Rattle.locking.specs.declared.mode.LockAnswer.TheVariants.{Compatible}
use Rattle.locking.specs.declared.mode.PolicyMode.{PolicyMode}
use Rattle.locking.specs.declared.mode.PolicyMode.TheVariants.{ReadPolicy, Relax, Restrict, Deploy}
use Rattle.locking.specs.declared.policy.PolicyRow.{PolicyRow}
use Rattle.locking.proofs.LockLaws.{beside_after}
use Rattle.locking.proofs.policy.PolicyRowLockRow.with.Goals as goal

module _ (row after : PolicyRow) (mode : PolicyMode) (slot : ℕ) (free : IsFree policy_says (policy_holds row) mode slot) (same : (m : PolicyMode) (k : ℕ) → policy_holds after m k ≡ put (sameb the_type m mode) (shared policy_says m) (policy_holds row m) slot k) where
  alone : (m n : PolicyMode) → same_answer (policy_says m n) Compatible ≡ false → same_answer (policy_says n m) Compatible ≡ false → Alone row m n → Alone after m n
  alone m n apart apart' old =
      beside_after policy_says (policy_holds row) mode slot (sameb the_type) policy_one_mode free (policy_one_holder row) m n (policy_holds after m) (policy_holds after n) apart apart' old (same m) (same n)

  fits : after.relaxer ≤ 16 → after.restricter ≤ 16 → PolicyCompatible row → PolicyCompatible after
  fits relaxer restricter (_, _, one, quiet, silent, still) =
      (relaxer, restricter, alone Relax Restrict refl refl one, alone Relax ReadPolicy refl refl quiet, alone Restrict ReadPolicy refl refl silent, alone Restrict Deploy refl refl still)

pub returns-in-ReadPolicy-clause-fits : goal.returns-in-ReadPolicy-clause-fits
returns-in-ReadPolicy-clause-fits c old free =
    fits c.args.self (record c.args.self { readers = c.mask_with.result }) c.args.mode c.args.slot.at free (search rules) old.0 old.1 old

pub returns-in-Relax-clause-fits : goal.returns-in-Relax-clause-fits
returns-in-Relax-clause-fits c old free =
    fits c.args.self (record c.args.self { relaxer = c.get.result }) c.args.mode c.args.slot.at free (search rules) (omega (arith, c.get.ensures, c.args.slot.below)) old.1 old

pub returns-in-Restrict-clause-fits : goal.returns-in-Restrict-clause-fits
returns-in-Restrict-clause-fits c old free =
    fits c.args.self (record c.args.self { restricter = c.get-in-Restrict.result }) c.args.mode c.args.slot.at free (search rules) old.0 (omega (arith, c.get-in-Restrict.ensures, c.args.slot.below)) old

pub returns-in-Deploy-clause-fits : goal.returns-in-Deploy-clause-fits
returns-in-Deploy-clause-fits c old free =
    fits c.args.self (record c.args.self { deployers = c.mask_with-in-Deploy.result }) c.args.mode c.args.slot.at free (search rules) old.0 old.1 old
