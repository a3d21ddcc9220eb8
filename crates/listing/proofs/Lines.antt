-- The lines of records, one by one.
use Rattle.std.proofs.Common.{◌≡◌, ℕ, ◌+◌, ◌<◌, ◌≤◌, List, ◌++◌, length, get_or, drop, sym, ap, ◌∙◌, ap₂, arith}
use Rattle.std.proofs.lemmas.List.{append_assoc, append-nil, length-append, at_drop_more, at_drop_all}
use Rattle.records.specs.Records.{record_bytes}
use Rattle.records.specs.Tapes.{tape_bytes}
use Rattle.protocol.specs.declared.request.Request.{Request}
use Rattle.listing.specs.Listings.{request_line, request_lines}

-- so many records have their lines, and the next one begins at that byte
pub record Listed (requests : List Request) (i start : ℕ) (lines : List ℕ) : Type 0 where
  pub size : start + length (tape_bytes (drop i requests)) ≡ length (tape_bytes requests)
  pub said : lines ++ request_lines (i + 1) start (drop i requests) ≡ request_lines 1 0 requests

module _ (requests : List Request) (i start : ℕ) (lines : List ℕ) (listed : Listed requests i start lines) where
  pub listed_more : (d : Request) (n : ℕ) (more : List ℕ) → i < length requests → n ≡ length (record_bytes (get_or requests i d)) → more ≡ lines ++ request_line (i + 1) start (get_or requests i d) → Listed requests (i + 1) (start + n) more
  unfolding request_lines
  listed_more d n more h long out =
      let q = get_or requests i d in
      let next = at_drop_more (λ xs. xs) requests i d h in
      let bytes : length (tape_bytes (drop i requests)) ≡ length (record_bytes q) + length (tape_bytes (drop (i + 1) requests)) = ap (λ xs. length (tape_bytes xs)) next ∙ length-append (record_bytes q) _ in
      record {
        size = omega (arith, listed.size);
        said = ap₂ (λ ls k. ls ++ request_lines (i + 1 + 1) (start + k) (drop (i + 1) requests)) out long
            ∙ append_assoc lines (request_line (i + 1) start q) _
            ∙ ap (λ xs. lines ++ request_lines (i + 1) start xs) (sym next)
            ∙ listed.said;
      }

  pub listed_all : length requests ≤ i → lines ≡ request_lines 1 0 requests
  unfolding request_lines
  listed_all h = sym (append-nil lines) ∙ ap (λ xs. lines ++ xs) (sym (at_drop_all (request_lines (i + 1) start) requests i h)) ∙ listed.said
