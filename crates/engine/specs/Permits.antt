-- What one policy permits, and by one lock.
use Rattle.std.specs.Prelude.{ℕ, Bool, false, ◌&&◌, Some, None, Option, slice_index}
use Rattle.std.specs.List.{slice_get}
use Rattle.protocol.specs.declared.policy.Object.{Object}
use Rattle.protocol.specs.declared.policy.Policy.{Policy}
use Rattle.rights.specs.declared.order.Operation.{Operation}
use Rattle.locking.specs.declared.mode.PolicyMode.TheVariants.{Deploy}
use Rattle.serial.specs.Words.{Setup, Store, same_object}
use Rattle.serial.specs.Locks.{Lock, OnCell, OnPolicy}

-- The policy e, the i-th, is deployed, has that object, and its right in force permits the operation.
abbrev pub permits_at : Setup → Store → (Lock → Bool) → Object → Operation → ℕ → Policy → Bool
permits_at S s holds o op i e = holds (OnPolicy Deploy i) && (same_object e.object o && S.permits (slice_index s.rights i) op)

module _ (S : Setup) (s : Store) (holds : Lock → Bool) (o : Object) (op : Operation) where
  -- The same of a policy that may be missing: then nothing.
  abbrev pub permits_if_there : ℕ → Option Policy → Bool
  permits_if_there i None = false
  permits_if_there i (Some e) = permits_at S s holds o op i e

  -- What the policy permits that the lock is on; a lock on a cell permits nothing.
  abbrev pub permits_by : Lock → Bool
  permits_by (OnCell mode cell) = false
  permits_by (OnPolicy mode policy) = permits_if_there policy (slice_get S.policies policy)
