-- How long the lines of an answer and of a fault are at most, by the types of their numbers.
use Rattle.std.proofs.Common.{◌≡◌, ℕ, ◌<◌, ◌≤◌, [], ◌∷◌, ◌++◌, length, arith, append_assoc, length-append}
use Rattle.std.specs.Prelude.{codes}
use Rattle.std.specs.Fmt.{decimal}
use Rattle.std.proofs.lemmas.Fmt.{length-decimal-le}
use Rattle.protocol.specs.Refusals.{refusal_number}
use Rattle.protocol.specs.declared.answer.Answer.TheVariants.{Granted, Refused, Wait, Aborted}
use Rattle.protocol.specs.declared.refusal.Refusal.{Refusal}
use Rattle.records.specs.declared.fault.FaultValues.{FaultValues}
use Rattle.records.specs.Faults.{values_line}
use Rattle.lines.specs.Lines.{line, answer_line}

pub granted_short : (number : ℕ) → number < 4294967296 → length (answer_line (Granted number)) ≤ 14
granted_short number fits = omega (arith, length-decimal-le 10 number (omega arith) (omega arith) (omega arith), length-append (decimal number) (10 ∷ []))

refusal_below : (refusal : Refusal) → refusal_number refusal < 100
refusal_below refusal = grind arith

pub refused_short : (refusal : Refusal) → length (answer_line (Refused refusal)) ≤ 14
refused_short refusal =
    let below = refusal_below refusal in
    omega (arith, length-decimal-le 2 (refusal_number refusal) (omega arith) (omega arith) (omega arith), length-append (decimal (refusal_number refusal)) (10 ∷ []))

pub wait_short : (transaction : ℕ) → transaction < 65536 → length (answer_line (Wait transaction)) ≤ 14
wait_short transaction fits = omega (arith, length-decimal-le 5 transaction (omega arith) (omega arith) (omega arith), length-append (decimal transaction) (10 ∷ []))

pub aborted_short : (by policy : ℕ) → by < 65536 → policy < 65536 → length (answer_line (Aborted by policy)) ≤ 14
aborted_short by policy by_fits policy_fits =
    omega (
      arith,
      length-decimal-le 5 by (omega arith) (omega arith) (omega arith),
      length-decimal-le 5 policy (omega arith) (omega arith) (omega arith),
      length-append (decimal by) (32 ∷ decimal policy ++ 10 ∷ []),
      length-append (decimal policy) (10 ∷ []),
    )

pub values_short : (f : FaultValues) → f.fault < 256 → f.number < 4294967296 → f.start < 4294967296 → length (values_line f) ≤ 28
values_short f fault_fits number_fits start_fits =
    let fault = length-decimal-le 3 f.fault (omega arith) (omega arith) (omega arith) in
    let number = length-decimal-le 10 f.number (omega arith) (omega arith) (omega arith) in
    let start = length-decimal-le 10 f.start (omega arith) (omega arith) (omega arith) in
    simp length-append (omega arith)

-- the line of a fault, as a line of numbers
pub values_line_is : (f : FaultValues) → line (codes "F") (f.fault ∷ f.number ∷ f.start ∷ []) ≡ values_line f
values_line_is f = simp append_assoc
