-- The list of the signalled transactions.
use Rattle.std.proofs.Common.{◌≡◌, ℕ, true, List, [], ◌∷◌, arith}
use Rattle.std.proofs.lemmas.Bool.Decides.{nat_tests}
use Rattle.serial.specs.Words.{Member}
use Rattle.serial.specs.Locks.{Lock}
use Rattle.serial.specs.Model.{Slot, open_slot, Transaction, find, verdict, is_signal, signalled, note_signalled}
use Rattle.serial.specs.Day.{NoDuplicate}
use Rattle.serial.proofs.Granted.{Distinct}

abbrev pub IsSignalled : Transaction → Lock → List Slot → ℕ → Type 0
IsSignalled x l slots u = (z : Transaction) × (find u slots ≡ open_slot z) × (is_signal (verdict x l z) ≡ true)

pub signalled_found : (x : Transaction) (l : Lock) (slots : List Slot) → Distinct slots → (u : ℕ) → Member u (signalled x l slots) → IsSignalled x l slots u
unfolding signalled find
signalled_found x l [] d u m = absurd m
signalled_found x l (s ∷ slots) d u m = grind (arith, nat_tests, signalled_found x l slots d.1 u, d.0 u)

pub signalled_there : (x : Transaction) (l : Lock) (slots : List Slot) (u : ℕ) → IsSignalled x l slots u → Member u (signalled x l slots)
unfolding signalled find
signalled_there x l [] u (z, e, g) = grind arith
signalled_there x l (s ∷ slots) u (z, e, g) = grind (arith, nat_tests, signalled_there x l slots u)

note_once : (x : Transaction) (l : Lock) (s : Slot) (us : List ℕ) → ((y : Transaction) → s ≡ open_slot y → Member y.number us → ⊥) → NoDuplicate us → NoDuplicate (note_signalled x l s us)
note_once x l s us new d = grind arith

pub signalled_once : (x : Transaction) (l : Lock) (slots : List Slot) → Distinct slots → NoDuplicate (signalled x l slots)
unfolding signalled
signalled_once x l [] d = tt
signalled_once x l (s ∷ slots) d =
    note_once x l s (signalled x l slots)
    (λ y e m. grind (arith, nat_tests, d.0 y.number, signalled_found x l slots d.1 y.number m))
    (signalled_once x l slots d.1)
