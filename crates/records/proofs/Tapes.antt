-- The records of a tape, one by one.
use Rattle.std.proofs.Common.{◌≡◌, ℕ, zero, suc, ◌+◌, ◌-◌, ◌*◌, ◌<◌, ◌≤◌, List, [], ◌∷◌, ◌++◌, length, Some, None, Option, sym, refl, ap, ◌∙◌, ap₂, arith, lit≤}
use Rattle.std.proofs.lemmas.List.{length-append, length-take}
use Rattle.std.specs.List.{AllByRecursion}
use Rattle.std.proofs.lemmas.Bool.{cond-true, cond-false, le-leb, lt-leb}
use Rattle.records.specs.declared.fault.FaultValues.{FaultValues}
use Rattle.protocol.specs.declared.request.Request.{Request}
use Rattle.protocol.specs.declared.request.Request.TheVariants.{Open, Deploy, Read, Write, Show, Set, Commit, GiveUp}
use Rattle.records.specs.Records.{record_bytes, Fits, record_of}
use Rattle.protocol.specs.Refusals.{answered, refused}
use Rattle.records.specs.Tapes.{TapeReading, at_end, at_fault, stopped, behind, go_on, records_from, tape_of, tape_bytes, up_to, ReadsTape}
use Rattle.records.proofs.Records.{record_back}

-- A record has at least five bytes.
pub record_size : (q : Request) → 5 ≤ length (record_bytes q)
record_size (Open s) = lit≤ tt
record_size (Deploy t p) = lit≤ tt
record_size (Read t c) = lit≤ tt
record_size (Write t c v) = lit≤ tt
record_size (Show t p) = lit≤ tt
record_size (Set t p r) = lit≤ tt
record_size (Commit t) = lit≤ tt
record_size (GiveUp t) = lit≤ tt

-- one record of what is left

pub from_goes : (most total number : ℕ) (left rest : List ℕ) (q : Request) → 0 < length left → record_of left ≡ answered (q, rest) → records_from (suc most) total number left ≡ behind q (records_from most total (number + 1) rest)
unfolding records_from
from_goes most total number [] rest q h e = absurd (omega arith)
from_goes most total number (b ∷ bs) rest q h e = ap (λ o. go_on o (records_from most total (number + 1)) (λ fault. stopped fault number (total - length (b ∷ bs)))) e

pub from_stops : (most total number fault : ℕ) (left : List ℕ) → 0 < length left → record_of left ≡ refused fault → records_from (suc most) total number left ≡ stopped fault number (total - length left)
unfolding records_from
from_stops most total number fault [] h e = absurd (omega arith)
from_stops most total number fault (b ∷ bs) h e = ap (λ o. go_on o (records_from most total (number + 1)) (λ f. stopped f number (total - length (b ∷ bs)))) e

pub from_ends : (most total number : ℕ) (left : List ℕ) → length left ≡ 0 → records_from most total number left ≡ at_end
unfolding records_from
from_ends zero total number left h = refl
from_ends (suc most) total number [] h = refl
from_ends (suc most) total number (b ∷ bs) h = absurd (omega arith)

-- requests that were read before
abbrev pub ahead : List Request → TapeReading → TapeReading
ahead requests tape = record { requests = requests ++ tape.requests; fault = tape.fault }

-- Of the total, so many records were read, and some bytes are left.
module _ (total read : ℕ) (left : List ℕ) (within : read + length left ≤ total) (some : 0 < length left) where
  pub pending_goes : (rest : List ℕ) (q : Request) → record_of left ≡ answered (q, rest) → records_from (total - read) total (read + 1) left ≡ behind q (records_from (total - (read + 1)) total (read + 1 + 1) rest)
  pending_goes rest q said =
      let most : total - read ≡ suc (total - (read + 1)) = omega arith in
      ap (λ k. records_from k total (read + 1) left) most ∙ from_goes _ total (read + 1) left rest q some said

  pub pending_stops : (values : FaultValues) → record_of left ≡ refused values.fault → values.number ≡ read + 1 → values.start ≡ total - length left → records_from (total - read) total (read + 1) left ≡ at_fault values
  pending_stops values said number start =
      let most : total - read ≡ suc (total - (read + 1)) = omega arith in
      ap (λ k. records_from k total (read + 1) left) most
      ∙ from_stops _ total (read + 1) values.fault left some said
      ∙ ap₂ (λ n s. at_fault (record { fault = values.fault; number = n; start = s })) (sym number) (sym start)

-- the records of requests give the requests back
records_back : (requests : List Request) → AllByRecursion Fits requests → (most total number : ℕ) → length (tape_bytes requests) ≤ most → records_from most total number (tape_bytes requests) ≡ record { requests = requests; fault = None }
records_back [] fits most total number h = from_ends most total number [] refl
records_back (q ∷ qs) fits zero total number h = let s = length-append (record_bytes q) (tape_bytes qs) in let some = record_size q in absurd (omega arith)
records_back (q ∷ qs) (fit, fits) (suc most) total number h =
    let s = length-append (record_bytes q) (tape_bytes qs) in
    let some = record_size q in
    let more = records_back qs fits most total (number + 1) (omega arith) in
    from_goes most total number (record_bytes q ++ tape_bytes qs) (tape_bytes qs) q (omega arith) (record_back q fit (tape_bytes qs)) ∙ ap (behind q) more

tape_back : (requests : List Request) (bytes : List ℕ) → AllByRecursion Fits requests → length bytes ≤ 60000 → tape_bytes requests ≡ bytes → tape_of bytes ≡ record { requests = requests; fault = None }
tape_back requests bytes fits h e =
    cond-true _ _ _ (le-leb (length bytes) 60000 h)
    ∙ ap (λ bs. records_from (length bytes) (length bytes) 1 bs) (sym e)
    ∙ records_back requests fits (length bytes) (length bytes) 1 (omega (arith, ap length e))

pub tape_read : (bytes : List ℕ) (tape : TapeReading) → tape ≡ tape_of bytes → tape_bytes tape.requests ≡ up_to tape.fault bytes → ReadsTape bytes tape
tape_read bytes tape e f = record { reads = e; one_record_each = f; reads_back = λ requests fits h same. e ∙ tape_back requests bytes fits h same }

-- How many records a tape has at most

pub requests_size : (requests : List Request) → 5 * length requests ≤ length (tape_bytes requests)
requests_size [] = omega arith
requests_size (q ∷ qs) = omega (arith, record_size q, requests_size qs, length-append (record_bytes q) (tape_bytes qs))

pub length_up_to : (fault : Option FaultValues) (bytes : List ℕ) → length (up_to fault bytes) ≤ length bytes
length_up_to None bytes = omega arith
length_up_to (Some f) bytes = omega (arith, length-take f.start bytes)

pub tape_short : (bytes : List ℕ) → length bytes ≤ 60000 → records_from (length bytes) (length bytes) 1 bytes ≡ tape_of bytes
tape_short bytes h = sym (cond-true _ _ _ (le-leb (length bytes) 60000 h))

pub tape_long : (bytes : List ℕ) → 60000 < length bytes → stopped 13 0 0 ≡ tape_of bytes
tape_long bytes h = sym (cond-false _ _ _ (lt-leb (length bytes) 60000 h))
