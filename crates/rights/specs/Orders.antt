-- What an order answers at every code, which changes relax, and the two orders of rights.
use Rattle.std.specs.Prelude.{ℕ, max, Bool, cond, ◌&&◌, ◌==◌, bit_and, bit_or, nat_le}
use Rattle.protocol.specs.Refusals.{Outcome, answered, refused}
use Rattle.rights.specs.declared.change.ChangeKind.{ChangeKind}
use Rattle.rights.specs.declared.change.ChangeKind.TheVariants.{Relaxation, Restriction}
use Rattle.rights.specs.declared.order.Operation.{Operation}
use Rattle.rights.specs.declared.order.Operation.TheVariants.{Read, Write, Restrict}

-- The answers at every code, from what an order says of rights: for a code that is no right the join is 0 and the permission is no.
abbrev pub join_of : (ℕ → Bool) → (ℕ → ℕ → ℕ) → ℕ → ℕ → ℕ
join_of right joined a b = cond (right a && right b) (joined a b) 0

abbrev pub permits_of : (ℕ → Bool) → (ℕ → Operation → Bool) → ℕ → Operation → Bool
permits_of right allows code operation = right code && allows code operation

-- A change relaxes exactly if the join of old and new is new.
abbrev pub change_of : (ℕ → ℕ → ℕ) → ℕ → ℕ → ChangeKind
change_of join old new = cond (join old new == new) Relaxation Restriction

-- The vector order: the rights are 0 to 7, and each operation has a weight.
abbrev pub vector_right : ℕ → Bool
vector_right code = nat_le code 7

-- contains each weight of either
abbrev pub vector_joined : ℕ → ℕ → ℕ
vector_joined a b = bit_or a b

abbrev pub weight : Operation → ℕ
weight Read = 4
weight Write = 2
weight Restrict = 1

-- contains the weight of the operation
abbrev pub vector_allows : ℕ → Operation → Bool
vector_allows code operation = bit_and code (weight operation) == weight operation

-- The ladder order: the rights are 0 to 100, and each operation has a threshold from 1 to 100.
abbrev pub ladder_right : ℕ → Bool
ladder_right code = nat_le code 100

-- is the larger
abbrev pub ladder_joined : ℕ → ℕ → ℕ
ladder_joined a b = max a b

-- The thresholds go as three numbers, and not as the order: the check has them before there is one, and the order's own type cites it.
abbrev pub threshold : ℕ → ℕ → ℕ → Operation → ℕ
threshold read write restrict Read = read
threshold read write restrict Write = write
threshold read write restrict Restrict = restrict

-- reaches the threshold of the operation
abbrev pub ladder_allows : ℕ → ℕ → ℕ → ℕ → Operation → Bool
ladder_allows read write restrict code operation = nat_le (threshold read write restrict operation) code

abbrev pub is_threshold : ℕ → Bool
is_threshold t = nat_le 1 t && nat_le t 100

abbrev pub are_thresholds : ℕ → ℕ → ℕ → Bool
are_thresholds read write restrict = is_threshold read && is_threshold write && is_threshold restrict

abbrev pub ladder_check : ℕ → ℕ → ℕ → Outcome (Unit {0})
ladder_check read write restrict = cond (are_thresholds read write restrict) (answered tt) (refused 17)

-- What a call comes to, its value left out.
abbrev pub verdict : {X : Type 0} → Outcome X → Outcome (Unit {0})
verdict (answered value) = answered tt
verdict (refused number) = refused number
