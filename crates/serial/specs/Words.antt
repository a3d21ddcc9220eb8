-- The words that the model and the serial executor share: rights, objects, the two lists of numbers, calls.
use Rattle.std.specs.Prelude.{◌≡◌, ℕ, Bool, true, false, ◌||◌, ◌⊎◌, List, [], ◌∷◌, ◌==◌}
use Rattle.protocol.specs.declared.policy.Object.{Object}
use Rattle.protocol.specs.declared.policy.Object.TheVariants.{OfCell, OfPolicy}
pub use Rattle.protocol.specs.declared.policy.Change.{Change}
pub use Rattle.protocol.specs.declared.call.Call.{Call}
pub use Rattle.protocol.specs.declared.call.Call.TheVariants.{Deploys, Reads, Writes, Shows, Sets}
use Rattle.protocol.specs.declared.policy.Policy.{Policy}
use Rattle.rights.specs.Orders.{join_of, permits_of, change_of}
use Rattle.rights.specs.declared.change.ChangeKind.{ChangeKind}
use Rattle.rights.specs.declared.change.ChangeKind.TheVariants.{Relaxation, Restriction}
use Rattle.rights.specs.declared.order.Operation.{Operation}
use Rattle.rights.specs.declared.order.Operation.TheVariants.{Write, Restrict}

-- What set-up fixes for the day: the order of rights, at every code, and the policies.
pub record Setup : Type 0 where
  pub is_right : ℕ → Bool
  pub join : ℕ → ℕ → ℕ
  pub permits : ℕ → Operation → Bool
  pub policies : List Policy

-- The laws of an order: the join of two rights is a right, and permits what either of them permits.
pub record Laws (S : Setup) : Type 0 where
  pub join_is_right : (a b : ℕ) → S.is_right a ≡ true → S.is_right b ≡ true → S.is_right (S.join a b) ≡ true
  pub join_permits : (a b : ℕ) (p : Operation) → S.is_right a ≡ true → S.is_right b ≡ true
      → (S.permits a p || S.permits b p) ≡ true → S.permits (S.join a b) p ≡ true

-- The setup of an order, by what it says of rights, with a policy list.
abbrev pub setup_of : (ℕ → Bool) → (ℕ → ℕ → ℕ) → (ℕ → Operation → Bool) → List Policy → Setup
setup_of right joined allows policies =
    record { is_right = right; join = join_of right joined; permits = permits_of right allows; policies = policies }

-- Whether a change of a right from old to new relaxes or restricts
unfoldable pub change_kind : Setup → ℕ → ℕ → ChangeKind
change_kind S old new = change_of S.join old new

-- The operation that a set asks for
abbrev pub set_operation : ChangeKind → Operation
set_operation Relaxation = Write
set_operation Restriction = Restrict

abbrev pub same_object : Object → Object → Bool
same_object (OfCell a) (OfCell b) = a == b
same_object (OfCell a) (OfPolicy b) = false
same_object (OfPolicy a) (OfCell b) = false
same_object (OfPolicy a) (OfPolicy b) = a == b

-- The numbers in force: what each cell holds, and the right of each policy.
pub record Store : Type 0 where
  pub cells : List ℕ
  pub rights : List ℕ

abbrev pub Member : {A : Type 0} → A → List A → Type 0
Member a [] = ⊥
Member a (x ∷ xs) = (a ≡ x) ⊎ Member a xs
