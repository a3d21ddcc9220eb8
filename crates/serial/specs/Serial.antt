-- The serial executor: it runs one transaction after the other on two plain lists. It has no locks, no slots and no workspace of one
-- change for each object: a transaction's changes are noted as they come, the newest first.
use Rattle.std.specs.Prelude.{◌≡◌, ℕ, Bool, true, false, cond, ◌&&◌, ◌||◌, List, [], ◌∷◌, Some, None, Option, ◌==◌, slice_index, slice_set}
use Rattle.std.specs.List.{slice_get}
use Rattle.protocol.specs.declared.policy.Object.{Object}
use Rattle.protocol.specs.declared.policy.Object.TheVariants.{OfCell, OfPolicy}
use Rattle.protocol.specs.declared.policy.Policy.{Policy}
use Rattle.rights.specs.declared.order.Operation.{Operation}
use Rattle.rights.specs.declared.order.Operation.TheVariants.{Read, Write}
use Rattle.serial.specs.Words.{Setup, change_kind, set_operation, same_object, Store, Change, Call, Deploys, Reads, Writes, Shows, Sets}

-- A granted call with its answer
pub record Entry : Type 0 where
  pub call : Call
  pub answer : ℕ

-- A transaction as the executor gets it: its subject, if it was opened, and its granted calls, the newest first
pub record Transcript : Type 0 where
  pub subject : Option ℕ
  pub calls : List Entry

-- What the executor remembers of the transaction that it runs
pub record Session : Type 0 where
  pub subject : Option ℕ
  pub deployed : List ℕ
  pub changes : List Change

abbrev pub begin : Option ℕ → Session
begin u = record { subject = u; deployed = []; changes = [] }

-- The latest change of an object, else another number
unfoldable pub recall : List Change → Object → ℕ → ℕ
recall [] o d = d
recall (k ∷ ks) o d = cond (same_object k.object o) k.value (recall ks o d)

unfoldable pub any_of : (ℕ → Bool) → List ℕ → Bool
any_of f [] = false
any_of f (i ∷ is) = f i || any_of f is

abbrev pub has_object : Option Policy → Object → Bool
has_object None o = false
has_object (Some pol) o = same_object pol.object o

abbrev pub has_subject : Option Policy → Option ℕ → Bool
has_subject None u = false
has_subject (Some pol) None = false
has_subject (Some pol) (Some u) = pol.subject == u

-- Whether a policy that was deployed earlier in the transaction has that object, and its right in the list permits the operation
unfoldable pub allows : Setup → Store → Session → Object → Operation → Bool
allows S s e o op = any_of (λ i. has_object (slice_get S.policies i) o && S.permits (slice_index s.rights i) op) e.deployed

-- Whether a call is granted; a set is a relaxation or a restriction of the right in the list.
abbrev pub grants_call : Setup → Store → Session → Call → Bool
grants_call S s e (Deploys p) = has_subject (slice_get S.policies p) e.subject
grants_call S s e (Reads c) = allows S s e (OfCell c) Read
grants_call S s e (Writes c v) = allows S s e (OfCell c) Write
grants_call S s e (Shows p) = allows S s e (OfPolicy p) Read
grants_call S s e (Sets p v) = allows S s e (OfPolicy p) (set_operation (change_kind S (slice_index s.rights p) v))

abbrev pub reply : Store → Session → Call → ℕ
reply s e (Deploys p) = 0
reply s e (Reads c) = recall e.changes (OfCell c) (slice_index s.cells c)
reply s e (Writes c v) = 0
reply s e (Shows p) = recall e.changes (OfPolicy p) (slice_index s.rights p)
reply s e (Sets p v) = 0

abbrev pub note_change : Session → Object → ℕ → Session
note_change e o v = record { subject = e.subject; deployed = e.deployed; changes = record { object = o; value = v } ∷ e.changes }

abbrev pub note_call : Session → Call → Session
note_call e (Deploys p) = record { subject = e.subject; deployed = p ∷ e.deployed; changes = e.changes }
note_call e (Reads c) = e
note_call e (Writes c v) = note_change e (OfCell c) v
note_call e (Shows p) = e
note_call e (Sets p v) = note_change e (OfPolicy p) v

-- One call: its answer, or none where it is refused; what is refused changes nothing.
abbrev pub execute_if : Bool → Store → Session → Call → Option ℕ × Session
execute_if true s e c = (Some (reply s e c), note_call e c)
execute_if false s e c = (None, e)

unfoldable pub execute : Setup → Store → Session → Call → Option ℕ × Session
execute S s e c = execute_if (grants_call S s e c) s e c

-- The session after the calls of a transaction, its newest call first
unfoldable pub executed : Setup → Store → Option ℕ → List Entry → Session
executed S s u [] = begin u
executed S s u (k ∷ l) = (execute S s (executed S s u l) k.call).1

-- The call is granted; a read and a show with that answer.
abbrev pub Agrees : Call → ℕ → Option ℕ → Type 0
Agrees (Deploys p) a o = (b : ℕ) × (o ≡ Some b)
Agrees (Reads c) a o = o ≡ Some a
Agrees (Writes c v) a o = (b : ℕ) × (o ≡ Some b)
Agrees (Shows p) a o = o ≡ Some a
Agrees (Sets p v) a o = (b : ℕ) × (o ≡ Some b)

-- Each of the calls of a transaction, in its turn, is granted, and reads and shows answer the same.
unfoldable pub Replays : Setup → Store → Option ℕ → List Entry → Type 0
Replays S s u [] = Unit {0}
Replays S s u (k ∷ l) = Replays S s u l × Agrees k.call k.answer (execute S s (executed S s u l) k.call).0

abbrev pub write_at : Store → Object → ℕ → Store
write_at s (OfCell c) v = record { cells = slice_set s.cells c v; rights = s.rights }
write_at s (OfPolicy p) v = record { cells = s.cells; rights = slice_set s.rights p v }

-- The lists after the changes went into them, the oldest change first
unfoldable pub written : List Change → Store → Store
written [] s = s
written (k ∷ ks) s = write_at (written ks s) k.object k.value

-- At the transaction's end its changes go into the lists.
unfoldable pub finish : Setup → Store → Option ℕ → List Entry → Store
finish S s u l = written (executed S s u l).changes s

-- The lists after some transactions, the last of them first
unfoldable pub serial_store : Setup → Store → (ℕ → Transcript) → List ℕ → Store
serial_store S s transcripts [] = s
serial_store S s transcripts (t ∷ ts) = finish S (serial_store S s transcripts ts) (transcripts t).subject (transcripts t).calls

-- Each of them, in its turn, replays on the lists that those before it left.
unfoldable pub SerialGrants : Setup → Store → (ℕ → Transcript) → List ℕ → Type 0
SerialGrants S s transcripts [] = Unit {0}
SerialGrants S s transcripts (t ∷ ts) = SerialGrants S s transcripts ts × Replays S (serial_store S s transcripts ts) (transcripts t).subject (transcripts t).calls
