-- Policies as C has them.
use Rattle.std.specs.Prelude.{ℕ, cond, List, map, ◌==◌}
use Rattle.protocol.specs.declared.policy.Object.{Object}
use Rattle.protocol.specs.declared.policy.Object.TheVariants.{OfCell, OfPolicy}
use Rattle.protocol.specs.declared.policy.Policy.{Policy}
use Rattle.c_calls.specs.declared.policy.PolicyEntry.{PolicyEntry}

-- A cell, or a policy, or a policy that is never there
abbrev pub object_of : ℕ → ℕ → Object
object_of kind number = cond (kind == 0) (OfCell number) (cond (kind == 1) (OfPolicy number) (OfPolicy 65535))

abbrev pub policy_of : PolicyEntry → Policy
policy_of entry = record { subject = entry.subject; object = object_of entry.kind entry.number }

abbrev pub policies_of : List PolicyEntry → List Policy
policies_of entries = map policy_of entries
