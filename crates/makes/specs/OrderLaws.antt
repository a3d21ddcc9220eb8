-- The laws of an order, by those of the two.
use Rattle.std.specs.Prelude.{◌≡◌, ℕ, true, ◌||◌}
use Rattle.rights.specs.VectorLaws.{vector_join_is_right, vector_join_permits}
use Rattle.rights.specs.LadderLaws.{ladder_join_is_right, ladder_join_permits}
use Rattle.rights.specs.declared.order.Operation.{Operation}
use Rattle.makes.specs.Orders.{right_of, joined_of, allows_of}
use Rattle.makes.specs.declared.order.AnyOrder.{AnyOrder}
use Rattle.makes.specs.declared.order.AnyOrder.TheVariants.{Vector, Ladder}

pub join_is_right : (o : AnyOrder) (a b : ℕ) → right_of o a ≡ true → right_of o b ≡ true → right_of o (joined_of o a b) ≡ true
join_is_right (Vector o) a b h k = vector_join_is_right a b h k
join_is_right (Ladder o) a b h k = ladder_join_is_right a b h k

pub join_permits : (o : AnyOrder) (a b : ℕ) (p : Operation) → right_of o a ≡ true → right_of o b ≡ true → (allows_of o a p || allows_of o b p) ≡ true → allows_of o (joined_of o a b) p ≡ true
join_permits (Vector o) a b p h k e = vector_join_permits a b p h k e
join_permits (Ladder o) a b p h k e = ladder_join_permits o.read o.write o.restrict a b p h k e
