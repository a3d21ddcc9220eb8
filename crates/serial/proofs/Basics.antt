-- Small facts on constructors.
use Rattle.std.proofs.Common.{◌≡◌, ℕ, true, refl, arith}
use Rattle.std.proofs.lemmas.Bool.Decides.{nat_tests}
use Rattle.protocol.specs.declared.policy.Object.{Object}
use Rattle.rights.specs.declared.change.ChangeKind.{ChangeKind}
use Rattle.rights.specs.declared.change.ChangeKind.TheVariants.{Relaxation, Restriction}
use Rattle.serial.specs.Words.{same_object}

pub by_kind : {A : Type 0} (k : ChangeKind) → (k ≡ Relaxation → A) → (k ≡ Restriction → A) → A
by_kind Relaxation f g = f refl
by_kind Restriction f g = g refl

-- nothing gives 0 ≡ 1, which `cc` finds wherever two constructors are said to be equal
pub never : {A : Type 0} → ◌≡◌ {A = ℕ} 0 1 → A
never z = cc

pub same_object_eq : (a b : Object) → same_object a b ≡ true → a ≡ b
same_object_eq a b e = grind (arith, nat_tests)

pub same_object_refl : (a : Object) → same_object a a ≡ true
same_object_refl a = grind (arith, nat_tests)
