-- Bytes that were written to the front of a buffer, and bytes that exceed it.
use Rattle.std.proofs.Common.{◌≡◌, ℕ, ◌-◌, ◌<◌, ◌≤◌, leb, List, ◌++◌, length, take, drop, sym, refl, ap, ◌∙◌, ⊎_elim, arith}
use borrow.Rule.Slice.PartMut.{put_mid}
use Rattle.std.proofs.lemmas.List.{append-nil, drop_all, length-drop}
use Rattle.std.proofs.lemmas.Bool.{cond-true, cond-false, le-leb, lt-leb, leb-true, leb-false, cases_Bool}
use Rattle.std.specs.Prelude.{Ok, Err, Result}
use Rattle.std.specs.Result.{IsOk}
use Rattle.protocol.specs.Refusals.{answered, refused, outcome, refusal_number}
use Rattle.protocol.specs.declared.refusal.Refusal.{Refusal}
use Rattle.records.specs.Buffers.{put_answer, put_front}

pub put : (bs buffer : List ℕ) → length bs ≤ length buffer → bs ++ drop (length bs) buffer ≡ put_front bs buffer
put bs buffer fits = sym (cond-true _ _ _ (le-leb (length bs) (length buffer) fits))

pub exceeds : (bs xs buffer : List ℕ) → xs ≡ bs → length buffer < length xs → (refused 12 ≡ put_answer bs buffer) × (buffer ≡ put_front bs buffer)
exceeds bs xs buffer is over =
    let no_room = lt-leb (length bs) (length buffer) (omega (arith, ap length is)) in
    (sym (cond-false _ _ _ no_room), sym (cond-false _ _ _ no_room))

-- what an answer says of the lengths
pub fits_from : (bs buffer : List ℕ) (n : ℕ) → answered n ≡ put_answer bs buffer → (n ≡ length bs) × (length bs ≤ length buffer)
fits_from bs buffer n e =
    ⊎_elim
    (λ t. let same = e ∙ cond-true _ _ _ t in ((cc), leb-true _ _ t))
    (λ f. let other = e ∙ cond-false _ _ _ f in let z : ◌≡◌ {A = ℕ} 0 1 = cc in absurd (omega arith))
    (cases_Bool (leb (length bs) (length buffer)))

pub exceeds_from : (bs buffer : List ℕ) (k : ℕ) → refused k ≡ put_answer bs buffer → (k ≡ 12) × (length buffer < length bs)
exceeds_from bs buffer k e =
    ⊎_elim
    (λ t. let other = e ∙ cond-true _ _ _ t in let z : ◌≡◌ {A = ℕ} 0 1 = cc in absurd (omega arith))
    (λ f. let same = e ∙ cond-false _ _ _ f in ((cc), leb-false _ _ f))
    (cases_Bool (leb (length bs) (length buffer)))

-- a write to all that stands from a place on
pub written_behind : (buffer : List ℕ) (i : ℕ) (bs : List ℕ) → put_mid i (length buffer - i) buffer bs ≡ take i buffer ++ bs
written_behind buffer i bs =
    let none = drop_all (length buffer - i) (drop i buffer) (omega (arith, length-drop i buffer)) in
    ap (λ xs. take i buffer ++ (bs ++ xs)) none ∙ ap (λ xs. take i buffer ++ xs) (append-nil bs)

-- what is no longer than the buffer is written
pub is_written : (r : Result ℕ Refusal) (bs xs buffer : List ℕ) → xs ≡ bs → outcome r ≡ put_answer xs buffer → length bs ≤ length buffer → IsOk r
is_written (Ok n) bs xs buffer is e room = refl
is_written (Err f) bs xs buffer is e room = absurd (omega (arith, ap length is, (exceeds_from xs buffer (refusal_number f) e).1))
