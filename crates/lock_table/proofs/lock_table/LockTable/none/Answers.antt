use Rattle.std.proofs.Common.{sym, refl, ap, ◌∙◌, subst}
use Rattle.locking.specs.CellLocks.{cell_holds, CellCompatible}
use Rattle.locking.specs.PolicyLocks.{policy_holds, PolicyCompatible}
use Rattle.lock_table.proofs.Tables.{alike_fit, alike_held, alike_listed}
use Rattle.lock_table.proofs.lock_table.LockTable.none.Goals as goal

pub returns-clause-locks : goal.returns-clause-locks
returns-clause-locks c =
    alike_held c.to_row-cell.result c.to_row-policy.result
    (λ m k. ap (λ row. cell_holds row m k) c.to_row-cell.ensures ∙ c.none.ensures m k) (λ m k. ap (λ row. policy_holds row m k) c.to_row-policy.ensures ∙ c.none-2.ensures m k)

pub invariant_of-result : goal.invariant_of-result
invariant_of-result c =
    record {
      celled = refl;
      policed = refl;
      slotted = refl;
      compatible = alike_fit c.to_row-cell.result c.to_row-policy.result (subst CellCompatible (sym c.to_row-cell.ensures) c.none.result.compatible) (subst PolicyCompatible (sym c.to_row-policy.ensures) c.none-2.result.compatible);
      listed =
          alike_listed c.to_row-cell.result c.to_row-policy.result
          (λ m k. ap (λ row. cell_holds row m k) c.to_row-cell.ensures ∙ c.none.ensures m k) (λ m k. ap (λ row. policy_holds row m k) c.to_row-policy.ensures ∙ c.none-2.ensures m k) _;
    }
