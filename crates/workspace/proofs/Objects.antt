-- The derived equality of objects is the model's. Assumes nothing.
use Rattle.std.proofs.Common.{◌≡◌, refl}
use Rattle.protocol.specs.contracts.policy.ObjectPartialEq.TheImpl.{eq-value}
use Rattle.protocol.specs.declared.policy.Object.{Object}
use Rattle.protocol.specs.declared.policy.Object.TheVariants.{OfCell, OfPolicy}
use Rattle.serial.specs.Words.{same_object}

pub equal_is_same : (a b : Object) → eq-value.it a b ≡ same_object a b
equal_is_same (OfCell a) (OfCell b) = refl
equal_is_same (OfCell a) (OfPolicy b) = refl
equal_is_same (OfPolicy a) (OfCell b) = refl
equal_is_same (OfPolicy a) (OfPolicy b) = refl
