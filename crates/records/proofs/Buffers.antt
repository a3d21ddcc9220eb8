-- Bytes written to the front of a buffer.
use Rattle.std.proofs.Common.{◌≡◌, ℕ, ◌+◌, ◌≤◌, List, ◌++◌, length, drop, sym, ap, ◌∙◌, ap₂, arith}
use borrow.Rule.Slice.PartMut.{put_mid}
use Rattle.std.proofs.lemmas.List.{append_assoc, length-append, take_at, drop_at, drop-drop}
use Rattle.std.proofs.lemmas.Bool.{cond-true, le-leb}
use Rattle.records.specs.Buffers.{put_answer, put_front}
use Rattle.protocol.specs.Refusals.{answered}

pub put_length : (bs buffer : List ℕ) (n : ℕ) → n ≡ length bs → length bs ≤ length buffer → answered n ≡ put_answer bs buffer
put_length bs buffer n e h = ap answered e ∙ sym (cond-true _ _ _ (le-leb (length bs) (length buffer) h))

-- bytes at the front, and more copied behind them
pub put_behind : (head more buffer : List ℕ) (n k : ℕ) → length head ≡ n → k ≡ length more → n + k ≤ length buffer → put_mid n k (head ++ drop n buffer) more ≡ put_front (head ++ more) buffer
put_behind head more buffer n k e f h =
    let size : length (head ++ more) ≡ n + k = length-append head more ∙ omega (arith, e, f) in
    ap₂ (λ front rest. front ++ (more ++ drop k rest)) (take_at head (drop n buffer) n e) (drop_at head (drop n buffer) n e)
    ∙ ap (λ rest. head ++ (more ++ rest)) (drop-drop k n buffer ∙ ap (λ i. drop i buffer) (sym size))
    ∙ sym (append_assoc head more _)
    ∙ sym (cond-true _ _ _ (le-leb _ (length buffer) (omega arith)))
