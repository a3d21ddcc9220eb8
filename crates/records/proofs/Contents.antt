-- What a content of a known length says, and that its bytes are those of what it says.
use Rattle.std.proofs.Common.{◌≡◌, ◌≢◌, ℕ, ◌<◌, List, ◌++◌, length, get_or, sym, refl, ap, ◌∙◌, ap₂}
use Rattle.std.proofs.lemmas.List.FromFn.{fill_by_all}
use Rattle.std.proofs.lemmas.Bool.{cond-true, cond-false, eq-eqb, ne_eqb}
use Rattle.protocol.specs.Bytes.{two_bytes, four_bytes, two_at, four_at}
use Rattle.records.specs.Records.{of_length, request_of}
use Rattle.protocol.specs.Refusals.{answered, refused}
use Rattle.protocol.specs.declared.request.Request.{Request}
use Rattle.protocol.proofs.Numbers.{two_bytes_of, four_bytes_of}

says : {A : Type 0} (n : ℕ) (xs : List ℕ) (a b : A) → length xs ≡ n → a ≡ b → answered a ≡ of_length n xs b
says n xs a b l e = ap answered e ∙ sym (cond-true _ _ _ (eq-eqb (length xs) n l))

-- a content of the length of its tag says its request, and one of another length fault 11
module _ (tag k n : ℕ) (xs : List ℕ) (q : Request) (is : tag ≡ k) (row : of_length n xs q ≡ request_of k xs) where
  pub of_its_length : length xs ≡ n → answered q ≡ request_of tag xs
  of_its_length l = says n xs q q l refl ∙ row ∙ ap (λ t. request_of t xs) (sym is)

  pub of_another : length xs ≢ n → refused 11 ≡ request_of tag xs
  of_another l = sym (cond-false _ (answered q) (refused 11) (ne_eqb (length xs) n l)) ∙ row ∙ ap (λ t. request_of t xs) (sym is)

-- every element of the list is a byte
abbrev pub Bytes : List ℕ → Type 0
Bytes xs = (k : ℕ) → get_or xs k 0 < 256

pub whole_eight : (xs : List ℕ) → Bytes xs → length xs ≡ 8 → xs ≡ two_bytes (two_at xs 0) ++ two_bytes (two_at xs 2) ++ four_bytes (four_at xs 4)
whole_eight xs fit l =
    let a = two_bytes_of _ _ (fit 0) (fit 1) in
    let b = two_bytes_of _ _ (fit 2) (fit 3) in
    let c = four_bytes_of _ _ _ _ (fit 4) (fit 5) (fit 6) (fit 7) in
    fill_by_all (λ k. get_or xs k 0) xs 8 0 l (λ k h. refl) ∙ sym (ap₂ (λ us vs. us ++ vs) (ap₂ (λ us vs. us ++ vs) a b) c)
