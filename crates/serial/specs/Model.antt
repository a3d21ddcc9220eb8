-- The engine as a pure machine: slots with transactions, their locks, and what each request is answered.
use Rattle.std.specs.Prelude.{ℕ, zero, suc, min, Bool, true, false, cond, ◌&&◌, ◌||◌, List, [], ◌∷◌, map, length, Some, None, Option, ◌==◌, nat_lt, slice_index}
use Rattle.std.specs.List.{slice_get}
use Rattle.protocol.specs.declared.policy.Object.{Object}
use Rattle.protocol.specs.declared.policy.Object.TheVariants.{OfCell, OfPolicy}
use Rattle.protocol.specs.declared.policy.Policy.{Policy}
use Rattle.protocol.specs.declared.refusal.Refusal.{Refusal}
use Rattle.protocol.specs.declared.refusal.Refusal.TheVariants.{TooManyOpened, NoFreeSlot, NoSuchTransaction, Absent, OtherSubject, NotPermitted, TooManyChanges, NotARight}
use Rattle.protocol.specs.declared.request.Request.{Request}
use Rattle.protocol.specs.declared.answer.Answer.{Answer}
use Rattle.protocol.specs.declared.answer.Answer.TheVariants.{Granted, Refused, Wait, Aborted}
use Rattle.rights.specs.declared.change.ChangeKind.{ChangeKind}
use Rattle.rights.specs.declared.change.ChangeKind.TheVariants.{Relaxation, Restriction}
use Rattle.rights.specs.declared.order.Operation.{Operation}
use Rattle.rights.specs.declared.order.Operation.TheVariants.{Read, Write}
use Rattle.locking.specs.declared.mode.CellMode.TheVariants.{ReadCell, WriteCell}
use Rattle.locking.specs.declared.mode.PolicyMode.{PolicyMode}
use Rattle.locking.specs.declared.mode.PolicyMode.TheVariants.{ReadPolicy, Relax, Restrict, Deploy}
use Rattle.locking.specs.declared.mode.LockAnswer.{LockAnswer}
use Rattle.locking.specs.declared.mode.LockAnswer.TheVariants.{Compatible, Conflict, Signal}
use Rattle.serial.specs.Words.{Setup, change_kind, set_operation, same_object, Store, Change, Call, Deploys, Reads, Writes, Shows, Sets}
use Rattle.serial.specs.Changes.{put, room, seen, apply}
use Rattle.serial.specs.Locks.{Lock, OnCell, OnPolicy, lock_number, same_lock, locks_beside, held_say}
use Rattle.serial.specs.Requests.{Asked, asks_open, asks_call, asks_commit, asks_give_up, asked}

-- Transactions, slots and the engine's state

pub record Transaction : Type 0 where
  pub number : ℕ
  pub subject : ℕ
  pub holds : Lock → Bool
  pub changes : List Change

-- An aborted transaction has lost its locks and its workspace: its slot keeps its number, who struck it, and over which policy.
pub data Slot : Type 0 where
  free : Slot
  open_slot : Transaction → Slot
  aborted_slot : ℕ → ℕ → ℕ → Slot

-- The numbers in force, the slots, how many transactions were opened and how many committed
pub record State : Type 0 where
  pub store : Store
  pub slots : List Slot
  pub opened : ℕ
  pub commits : ℕ

abbrev pub with_slots : State → List Slot → State
with_slots σ l = record { store = σ.store; slots = l; opened = σ.opened; commits = σ.commits }

abbrev pub named : Slot → ℕ → Bool
named free t = false
named (open_slot x) t = x.number == t
named (aborted_slot i b p) t = i == t

-- The slot of the transaction of that number; free if it has none
unfoldable pub find : ℕ → List Slot → Slot
find t [] = free
find t (s ∷ l) = cond (named s t) s (find t l)

abbrev pub is_free : Slot → Bool
is_free free = true
is_free (open_slot x) = false
is_free (aborted_slot i b p) = false

unfoldable pub any_free : List Slot → Bool
any_free [] = false
any_free (s ∷ l) = is_free s || any_free l

-- The slots with a transaction put into the first free one
unfoldable pub place : Transaction → List Slot → List Slot
place x [] = []
place x (s ∷ l) = cond (is_free s) (open_slot x ∷ l) (s ∷ place x l)

abbrev pub replace_slot : Transaction → Slot → Slot
replace_slot x s = cond (named s x.number) (open_slot x) s

unfoldable pub replace : Transaction → List Slot → List Slot
replace x l = map (replace_slot x) l

abbrev pub free_slot : ℕ → Slot → Slot
free_slot t s = cond (named s t) free s

-- The slots after the transaction has ended
unfoldable pub end : ℕ → List Slot → List Slot
end t l = map (free_slot t) l

-- Refusals

unfoldable pub any_policy : (ℕ → Policy → Bool) → List Policy → Bool
any_policy f [] = false
any_policy f (e ∷ es) = f zero e || any_policy (λ i. f (suc i)) es

-- Permitted is what some policy that the transaction has deployed, with that object, permits by its right in force.
unfoldable pub permitted : Setup → Store → Transaction → Object → Operation → Bool
permitted S s x o op =
    any_policy (λ i e. x.holds (OnPolicy Deploy i) && (same_object e.object o && S.permits (slice_index s.rights i) op)) S.policies

abbrev pub is_subject : Option Policy → ℕ → Bool
is_subject None u = false
is_subject (Some e) u = e.subject == u

abbrev pub unless : Bool → Refusal → Option Refusal → Option Refusal
unless true f rest = rest
unless false f rest = Some f

-- The refusals of an open transaction's calls, in their order. A set is judged by the right in force, whatever the transaction has set before.
unfoldable pub judge : Setup → Store → Transaction → Call → Option Refusal
judge S s x (Deploys p) =
    unless (nat_lt p (length S.policies)) Absent
    (unless (is_subject (slice_get S.policies p) x.subject) OtherSubject None)
judge S s x (Reads c) =
    unless (nat_lt c (length s.cells)) Absent
    (unless (permitted S s x (OfCell c) Read) NotPermitted None)
judge S s x (Writes c v) =
    unless (nat_lt c (length s.cells)) Absent
    (unless (permitted S s x (OfCell c) Write) NotPermitted
    (unless (room x.changes (OfCell c)) TooManyChanges None))
judge S s x (Shows p) =
    unless (nat_lt p (length S.policies)) Absent
    (unless (permitted S s x (OfPolicy p) Read) NotPermitted None)
judge S s x (Sets p v) =
    unless (nat_lt p (length S.policies)) Absent
    (unless (S.is_right v) NotARight
    (unless (permitted S s x (OfPolicy p) (set_operation (change_kind S (slice_index s.rights p) v))) NotPermitted
    (unless (room x.changes (OfPolicy p)) TooManyChanges None)))

-- Locks asked for

abbrev pub set_mode : ChangeKind → PolicyMode
set_mode Relaxation = Relax
set_mode Restriction = Restrict

-- The lock that a call asks for
unfoldable pub lock_for : Setup → Store → Call → Lock
lock_for S s (Deploys p) = OnPolicy Deploy p
lock_for S s (Reads c) = OnCell ReadCell c
lock_for S s (Writes c v) = OnCell WriteCell c
lock_for S s (Shows p) = OnPolicy ReadPolicy p
lock_for S s (Sets p v) = OnPolicy (set_mode (change_kind S (slice_index s.rights p) v)) p

-- What the locks of the transaction y say to x, which asks for a lock. A lock that x already holds is granted, and its own locks never count.
unfoldable pub verdict : Transaction → Lock → Transaction → LockAnswer
verdict x asked y = cond (x.holds asked || x.number == y.number) Compatible (held_say y.holds asked (locks_beside asked))

abbrev pub is_conflict : LockAnswer → Bool
is_conflict Compatible = false
is_conflict Conflict = true
is_conflict Signal = false

abbrev pub is_signal : LockAnswer → Bool
is_signal Compatible = false
is_signal Conflict = false
is_signal Signal = true

-- The lower of two numbers, where there are any
abbrev pub lower : Option ℕ → Option ℕ → Option ℕ
lower None b = b
lower (Some a) None = Some a
lower (Some a) (Some b) = Some (min a b)

abbrev pub blocks : Transaction → Lock → Slot → Option ℕ
blocks x asked free = None
blocks x asked (open_slot y) = cond (is_conflict (verdict x asked y)) (Some y.number) None
blocks x asked (aborted_slot i b p) = None

-- The lowest-numbered transaction whose locks say no
unfoldable pub blocker : Transaction → Lock → List Slot → Option ℕ
blocker x asked [] = None
blocker x asked (s ∷ l) = lower (blocks x asked s) (blocker x asked l)

abbrev pub note_signalled : Transaction → Lock → Slot → List ℕ → List ℕ
note_signalled x asked free l = l
note_signalled x asked (open_slot y) l = cond (is_signal (verdict x asked y)) (y.number ∷ l) l
note_signalled x asked (aborted_slot i b p) l = l

-- The numbers of the transactions whose locks say signal
unfoldable pub signalled : Transaction → Lock → List Slot → List ℕ
signalled x asked [] = []
signalled x asked (s ∷ l) = note_signalled x asked s (signalled x asked l)

-- Each of them is aborted.
abbrev pub strike : Transaction → Lock → Slot → Slot
strike x asked free = free
strike x asked (open_slot y) =
    cond (is_signal (verdict x asked y)) (aborted_slot y.number x.number (lock_number asked)) (open_slot y)
strike x asked (aborted_slot i b p) = aborted_slot i b p

-- Calls

abbrev pub changed : Call → List Change → List Change
changed (Deploys p) ks = ks
changed (Reads c) ks = ks
changed (Writes c v) ks = put (OfCell c) v ks
changed (Shows p) ks = ks
changed (Sets p v) ks = put (OfPolicy p) v ks

-- The transaction with one lock more and the call's change
unfoldable pub advance : Transaction → Lock → Call → Transaction
advance x asked c =
    record { number = x.number; subject = x.subject; holds = (λ m. same_lock m asked || x.holds m); changes = changed c x.changes }

-- What a granted call is answered; a set with the number of those it struck
unfoldable pub call_answer : Store → Transaction → Call → ℕ → ℕ
call_answer s x (Deploys p) n = 0
call_answer s x (Reads c) n = seen s x.changes (OfCell c)
call_answer s x (Writes c v) n = 0
call_answer s x (Shows p) n = seen s x.changes (OfPolicy p)
call_answer s x (Sets p v) n = n

unfoldable pub call_granted : State → Transaction → Call → Lock → Answer × State
call_granted σ x c asked = (
  Granted (call_answer σ.store x c (length (signalled x asked σ.slots))),
  with_slots σ (replace (advance x asked c) (map (strike x asked) σ.slots)),
)

-- A call that has to wait strikes nobody.
unfoldable pub call_unblocked : State → Transaction → Call → Lock → Option ℕ → Answer × State
call_unblocked σ x c asked None = call_granted σ x c asked
call_unblocked σ x c asked (Some u) = (Wait u, σ)

unfoldable pub call_judged : Setup → State → Transaction → Call → Option Refusal → Answer × State
call_judged S σ x c None =
    call_unblocked σ x c (lock_for S σ.store c) (blocker x (lock_for S σ.store c) σ.slots)
call_judged S σ x c (Some f) = (Refused f, σ)

unfoldable pub call_in : Setup → State → Call → Slot → Answer × State
call_in S σ c free = (Refused NoSuchTransaction, σ)
call_in S σ c (open_slot x) = call_judged S σ x c (judge S σ.store x c)
call_in S σ c (aborted_slot i b p) = (Aborted b p, σ)

-- Opens and ends

abbrev pub new_transaction : ℕ → ℕ → Transaction
new_transaction t u = record { number = t; subject = u; holds = (λ m. false); changes = [] }

-- Whether a number is left, and whether a slot is free
unfoldable pub open_in : State → ℕ → Bool → Bool → Answer × State
open_in σ u false b = (Refused TooManyOpened, σ)
open_in σ u true false = (Refused NoFreeSlot, σ)
open_in σ u true true = (
  Granted (suc σ.opened),
  record {
    store = σ.store;
    slots = place (new_transaction (suc σ.opened) u) σ.slots;
    opened = suc σ.opened;
    commits = σ.commits;
  },
)

unfoldable pub commit_in : State → ℕ → Slot → Answer × State
commit_in σ t free = (Refused NoSuchTransaction, σ)
commit_in σ t (open_slot x) = (
  Granted (suc σ.commits),
  record { store = apply x.changes σ.store; slots = end t σ.slots; opened = σ.opened; commits = suc σ.commits },
)
commit_in σ t (aborted_slot i b p) = (Aborted b p, with_slots σ (end t σ.slots))

unfoldable pub give_up_in : State → ℕ → Slot → Answer × State
give_up_in σ t free = (Refused NoSuchTransaction, σ)
give_up_in σ t (open_slot x) = (Granted 0, with_slots σ (end t σ.slots))
give_up_in σ t (aborted_slot i b p) = (Aborted b p, with_slots σ (end t σ.slots))

unfoldable pub perform : Setup → State → Asked → Answer × State
perform S σ (asks_open u) = open_in σ u (nat_lt σ.opened 50000) (any_free σ.slots)
perform S σ (asks_call t c) = call_in S σ c (find t σ.slots)
perform S σ (asks_commit t) = commit_in σ t (find t σ.slots)
perform S σ (asks_give_up t) = give_up_in σ t (find t σ.slots)

-- One request: its answer, and the state after it
abbrev pub step : Setup → State → Request → Answer × State
step S σ r = perform S σ (asked r)

abbrev pub answer : Setup → State → Request → Answer
answer S σ r = (step S σ r).0

abbrev pub after : Setup → State → Request → State
after S σ r = (step S σ r).1
