-- What the serial executor grants, as a relation: some deployed policy with that object permits the operation.
use Rattle.std.proofs.Common.{◌≡◌, ℕ, Bool, true, ◌&&◌, List, [], ◌∷◌, get_or, Some, Option, refl, arith}
use Rattle.std.proofs.lemmas.Bool.Decides.{nat_tests}
use Rattle.std.specs.List.{slice_get}
use Rattle.protocol.specs.declared.policy.Object.{Object}
use Rattle.protocol.specs.declared.policy.Object.TheVariants.{OfCell, OfPolicy}
use Rattle.protocol.specs.declared.policy.Policy.{Policy}
use Rattle.rights.specs.declared.order.Operation.{Operation}
use Rattle.rights.specs.declared.order.Operation.TheVariants.{Read, Write}
use Rattle.serial.specs.Words.{Setup, Store, Call, Deploys, Reads, Writes, Shows, Sets, set_operation, Member, change_kind}
use Rattle.serial.specs.Serial.{Entry, Session, begin, recall, any_of, has_object, allows, grants_call, reply, note_call, execute, executed, Agrees, Replays}
use Rattle.serial.proofs.Basics.{same_object_refl}

abbrev pub Allowed : Setup → Store → Session → Object → Operation → Type 0
Allowed S s e o op =
    (i : ℕ) × (pol : Policy) × Member i e.deployed × (slice_get S.policies i ≡ Some pol) × (pol.object ≡ o) × (S.permits (get_or s.rights i 0) op ≡ true)

abbrev pub Grants : Setup → Store → Session → Call → ℕ → Type 0
Grants S s e (Deploys p) a = (pol : Policy) × (slice_get S.policies p ≡ Some pol) × (e.subject ≡ Some pol.subject)
Grants S s e (Reads c) a = Allowed S s e (OfCell c) Read × (a ≡ recall e.changes (OfCell c) (get_or s.cells c 0))
Grants S s e (Writes c v) a = Allowed S s e (OfCell c) Write
Grants S s e (Shows p) a = Allowed S s e (OfPolicy p) Read × (a ≡ recall e.changes (OfPolicy p) (get_or s.rights p 0))
Grants S s e (Sets p v) a = Allowed S s e (OfPolicy p) (set_operation (change_kind S (get_or s.rights p 0) v))

-- the session where each call is granted
unfoldable pub session : Option ℕ → List Entry → Session
session u [] = begin u
session u (k ∷ l) = note_call (session u l) k.call

unfoldable pub Follows : Setup → Store → Option ℕ → List Entry → Type 0
Follows S s u [] = Unit {0}
Follows S s u (k ∷ l) = Follows S s u l × Grants S s (session u l) k.call k.answer

any_of_from : (f : ℕ → Bool) (l : List ℕ) (i : ℕ) → Member i l → f i ≡ true → any_of f l ≡ true
unfolding any_of
any_of_from f [] i m e = absurd m
any_of_from f (j ∷ l) i m e = grind (arith, any_of_from f l i)

allowed_allows : (S : Setup) (s : Store) (e : Session) (o : Object) (op : Operation) → Allowed S s e o op → allows S s e o op ≡ true
unfolding allows
allowed_allows S s e o op (i, pol, m, n, q, g) =
    any_of_from (λ j. has_object (slice_get S.policies j) o && S.permits (get_or s.rights j 0) op) e.deployed i m
    (grind (arith, same_object_refl))

grants_true : (S : Setup) (s : Store) (e : Session) (c : Call) (a : ℕ) → Grants S s e c a → grants_call S s e c ≡ true
grants_true S s e c a g = grind (arith, nat_tests, allowed_allows S s e)

pub follows_executed : (S : Setup) (s : Store) (u : Option ℕ) (l : List Entry) → Follows S s u l → executed S s u l ≡ session u l
unfolding Follows session executed execute
follows_executed S s u [] f = refl
follows_executed S s u (k ∷ l) f = grind (arith, follows_executed S s u l f.0, grants_true S s (session u l) k.call k.answer f.1)

agrees : (S : Setup) (s : Store) (e : Session) (c : Call) (a : ℕ) → Grants S s e c a → Agrees c a (Some (reply s e c))
agrees S s e c a g = grind arith

pub follows_replays : (S : Setup) (s : Store) (u : Option ℕ) (l : List Entry) → Follows S s u l → Replays S s u l
unfolding Follows Replays execute
follows_replays S s u [] f = tt
follows_replays S s u (k ∷ l) f = (
  follows_replays S s u l f.0,
  rw (follows_executed S s u l f.0, grants_true S s (session u l) k.call k.answer f.1) (agrees S s (session u l) k.call k.answer f.1),
)
