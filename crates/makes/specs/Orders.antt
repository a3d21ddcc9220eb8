-- What either order says of rights.
use Rattle.std.specs.Prelude.{ℕ, Bool}
use Rattle.rights.specs.Orders.{vector_right, vector_joined, vector_allows, ladder_right, ladder_joined, ladder_allows}
use Rattle.rights.specs.declared.order.Operation.{Operation}
use Rattle.makes.specs.declared.order.AnyOrder.{AnyOrder}
use Rattle.makes.specs.declared.order.AnyOrder.TheVariants.{Vector, Ladder}

abbrev pub right_of : AnyOrder → ℕ → Bool
right_of (Vector o) = vector_right
right_of (Ladder o) = ladder_right

abbrev pub joined_of : AnyOrder → ℕ → ℕ → ℕ
joined_of (Vector o) = vector_joined
joined_of (Ladder o) = ladder_joined

abbrev pub allows_of : AnyOrder → ℕ → Operation → Bool
allows_of (Vector o) = vector_allows
allows_of (Ladder o) = ladder_allows o.read o.write o.restrict
