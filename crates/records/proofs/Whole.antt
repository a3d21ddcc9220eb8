-- Bytes that read as a request are exactly those that writing it makes, and so are the bytes of a whole tape.
use Rattle.std.proofs.Common.{◌≡◌, ℕ, zero, suc, ◌+◌, ◌-◌, ◌*◌, ◌<◌, ◌≤◌, leb, ltb, List, [], ◌∷◌, ◌++◌, length, get_or, take, drop, Some, None, Option, sym, refl, ap, ◌∙◌, ap₂, subst, ⊎_elim, arith}
use Rattle.std.proofs.lemmas.List.{length-append, get_or-take, get_or-drop, get_or_past, get_or-append-add, take-append-drop, length-take, length-take-le}
use Rattle.std.proofs.lemmas.List.FromFn.{fill_by_all}
use Rattle.std.proofs.lemmas.Bool.{cond-true, cond-false, leb-true, leb-false, ltb-true, ltb-false, eqb-true, cases_Bool}
use Rattle.protocol.specs.Bytes.{two_bytes, two_at, four_at, field_bytes}
use Rattle.protocol.specs.Refusals.{Outcome, answered, refused}
use Rattle.protocol.specs.declared.request.Request.{Request}
use Rattle.protocol.specs.declared.request.Request.TheVariants.{Open, Deploy, Read, Write, Show, Set, Commit, GiveUp}
use Rattle.protocol.proofs.Numbers.{two_bytes_of}
use Rattle.records.specs.declared.fault.FaultValues.{FaultValues}
use Rattle.records.specs.Records.{record_bytes, Parsed, sized, field_of, of_length, request_of, with_rest, record_in, record_of}
use Rattle.records.specs.Tapes.{TapeReading, stopped, go_on, records_from, tape_of, tape_bytes, up_to, ReadsTape}
use Rattle.records.proofs.Contents.{Bytes, whole_eight}
use Rattle.records.proofs.Tapes.{record_size, tape_read, tape_short, tape_long}

-- A content

whole_two : (xs : List ℕ) → Bytes xs → length xs ≡ 2 → xs ≡ two_bytes (two_at xs 0)
whole_two xs fit l = fill_by_all (λ k. get_or xs k 0) xs 2 0 l (λ k h. refl) ∙ sym (two_bytes_of _ _ (fit 0) (fit 1))

whole_four : (xs : List ℕ) → Bytes xs → length xs ≡ 4 → xs ≡ two_bytes (two_at xs 0) ++ two_bytes (two_at xs 2)
whole_four xs fit l =
    fill_by_all (λ k. get_or xs k 0) xs 4 0 l (λ k h. refl)
    ∙ sym (ap₂ (λ us vs. us ++ vs) (two_bytes_of _ _ (fit 0) (fit 1)) (two_bytes_of _ _ (fit 2) (fit 3)))

-- what a content of some length says is written as that content
of_content : (n tag : ℕ) (xs said : List ℕ) (p q : Request) → (length xs ≡ n → xs ≡ said) → field_bytes tag said ≡ record_bytes p → of_length n xs p ≡ answered q → field_bytes tag xs ≡ record_bytes q
of_content n tag xs said p q whole bytes e =
    ⊎_elim
    (λ t. let same : answered p ≡ answered q = sym (cond-true _ _ _ t) ∙ e in
    let is : p ≡ q = cc in
    ap (field_bytes tag) (whole (eqb-true (length xs) n t)) ∙ bytes ∙ ap record_bytes is)
    (λ f. let other : refused 11 ≡ answered q = sym (cond-false _ _ _ f) ∙ e in absurd (cc))
    (cases_Bool _)

request_whole : (tag : ℕ) (xs : List ℕ) (q : Request) → Bytes xs → request_of tag xs ≡ answered q → field_bytes tag xs ≡ record_bytes q
request_whole zero xs q fit e = absurd (cc)
request_whole (suc zero) xs q fit e = of_content 2 1 xs _ (Open (two_at xs 0)) q (whole_two xs fit) refl e
request_whole (suc (suc zero)) xs q fit e = of_content 4 2 xs _ (Deploy (two_at xs 0) (two_at xs 2)) q (whole_four xs fit) refl e
request_whole (suc (suc (suc zero))) xs q fit e = of_content 4 3 xs _ (Read (two_at xs 0) (two_at xs 2)) q (whole_four xs fit) refl e
request_whole (suc (suc (suc (suc zero)))) xs q fit e = of_content 8 4 xs _ (Write (two_at xs 0) (two_at xs 2) (four_at xs 4)) q (whole_eight xs fit) refl e
request_whole (suc (suc (suc (suc (suc zero))))) xs q fit e = of_content 4 5 xs _ (Show (two_at xs 0) (two_at xs 2)) q (whole_four xs fit) refl e
request_whole (suc (suc (suc (suc (suc (suc zero)))))) xs q fit e = of_content 8 6 xs _ (Set (two_at xs 0) (two_at xs 2) (four_at xs 4)) q (whole_eight xs fit) refl e
request_whole (suc (suc (suc (suc (suc (suc (suc zero))))))) xs q fit e = of_content 2 7 xs _ (Commit (two_at xs 0)) q (whole_two xs fit) refl e
request_whole (suc (suc (suc (suc (suc (suc (suc (suc zero)))))))) xs q fit e = of_content 2 8 xs _ (GiveUp (two_at xs 0)) q (whole_two xs fit) refl e
request_whole (suc (suc (suc (suc (suc (suc (suc (suc (suc more))))))))) xs q fit e = absurd (cc)

-- A field, and a record

first_three : (bs : List ℕ) → 3 ≤ length bs → bs ≡ get_or bs 0 0 ∷ get_or bs 1 0 ∷ get_or bs 2 0 ∷ drop 3 bs
first_three [] h = absurd (omega arith)
first_three (a ∷ []) h = absurd (omega arith)
first_three (a ∷ b ∷ []) h = absurd (omega arith)
first_three (a ∷ b ∷ c ∷ more) h = refl

bytes_take : (n : ℕ) (xs : List ℕ) → Bytes xs → Bytes (take n xs)
bytes_take n xs fit k =
    ⊎_elim
    (λ t. rw (get_or-take n xs k 0 (ltb-true k n t)) (fit k))
    (λ f. omega (arith, get_or_past (take n xs) k 0 (omega (arith, ltb-false k n f, length-take n xs))))
    (cases_Bool (ltb k n))

bytes_drop : (n : ℕ) (xs : List ℕ) → Bytes xs → Bytes (drop n xs)
bytes_drop n xs fit k = omega (arith, get_or-drop n xs k 0, fit (n + k))

sized_whole : (a b c : ℕ) (after : List ℕ) (f : Parsed) → b < 256 → c < 256 → Bytes after → sized a (b * 256 + c) after ≡ Some f
    → (a ∷ b ∷ c ∷ after ≡ field_bytes f.tag f.content ++ f.rest) × Bytes f.content
sized_whole a b c after f hb hc fit e =
    let len = b * 256 + c in
    ⊎_elim
    (λ t. let same : Some (record { tag = a; content = take len after; rest = drop len after }) ≡ Some f = sym (cond-true _ _ _ t) ∙ e in
    let is : record { tag = a; content = take len after; rest = drop len after } ≡ f = cc in
    let long : length (take len after) ≡ len = length-take-le len after (leb-true len (length after) t) in
    let head : a ∷ b ∷ c ∷ [] ≡ a ∷ two_bytes (length (take len after)) = ap (λ xs. a ∷ xs) (sym (two_bytes_of b c hb hc) ∙ ap two_bytes (sym long)) in
    let whole : a ∷ b ∷ c ∷ after ≡ field_bytes a (take len after) ++ drop len after =
    ap (λ xs. a ∷ b ∷ c ∷ xs) (sym (take-append-drop len after)) ∙ ap (λ xs. xs ++ (take len after ++ drop len after)) head in
    (whole ∙ ap (λ (g : Parsed). field_bytes g.tag g.content ++ g.rest) is, let P : Parsed → Type 0 = λ g. Bytes g.content in subst P is (bytes_take len after fit)))
    (λ f'. let none : None ≡ Some f = sym (cond-false _ _ _ f') ∙ e in absurd (cc))
    (cases_Bool (leb len (length after)))

field_whole : (bs : List ℕ) (f : Parsed) → Bytes bs → field_of bs ≡ Some f → (bs ≡ field_bytes f.tag f.content ++ f.rest) × Bytes f.content
field_whole bs f fit e =
    ⊎_elim
    (λ t. let w = sized_whole (get_or bs 0 0) (get_or bs 1 0) (get_or bs 2 0) (drop 3 bs) f (fit 1) (fit 2) (bytes_drop 3 bs fit) (sym (cond-true _ _ _ t) ∙ e) in
    (first_three bs (leb-true 3 (length bs) t) ∙ w.0, w.1))
    (λ f'. let none : None ≡ Some f = sym (cond-false _ _ _ f') ∙ e in absurd (cc))
    (cases_Bool (leb 3 (length bs)))

rest_is : (o : Outcome Request) (rest rest' : List ℕ) (q : Request) → with_rest rest o ≡ answered (q, rest') → (o ≡ answered q) × (rest ≡ rest')
rest_is (answered p) rest rest' q e =
    let same : (p, rest) ≡ (q, rest') = cc in
    (ap (λ (u : Request × List ℕ). answered u.0) same, ap (λ (u : Request × List ℕ). u.1) same)
rest_is (refused k) rest rest' q e = absurd (cc)

in_whole : (o : Option Parsed) (bs rest : List ℕ) (q : Request) → Bytes bs → field_of bs ≡ o → record_in o ≡ answered (q, rest) → bs ≡ record_bytes q ++ rest
in_whole None bs rest q fit is e = absurd (cc)
in_whole (Some f) bs rest q fit is e =
    let w = field_whole bs f fit is in
    let r = rest_is (request_of f.tag f.content) f.rest rest q e in
    w.0 ∙ ap₂ (λ us vs. us ++ vs) (request_whole f.tag f.content q w.1 r.0) r.1

record_whole : (bs rest : List ℕ) (q : Request) → Bytes bs → record_of bs ≡ answered (q, rest) → bs ≡ record_bytes q ++ rest
record_whole bs rest q fit e = in_whole (field_of bs) bs rest q fit refl e

-- A tape

-- The bytes of the requests are what is left, all of it or up to the fault; so many bytes stand before it.
abbrev Reaches : Option FaultValues → ℕ → List ℕ → List ℕ → Type 0
Reaches None before left bs = bs ≡ left
Reaches (Some f) before left bs = (n : ℕ) × (before + n ≡ f.start) × (bs ≡ take n left)

take_behind : (xs ys : List ℕ) (n : ℕ) → take (length xs + n) (xs ++ ys) ≡ xs ++ take n ys
take_behind [] ys n = let e : 0 + n ≡ n = omega arith in ap (λ k. take k ys) e
take_behind (x ∷ xs) ys n =
    let e : suc (length xs) + n ≡ suc (length xs + n) = omega arith in
    ap (λ k. take k (x ∷ xs ++ ys)) e ∙ ap (λ zs. x ∷ zs) (take_behind xs ys n)

one_more : (fault : Option FaultValues) (before : ℕ) (left rest bs record_ : List ℕ) → left ≡ record_ ++ rest → Reaches fault (before + length record_) rest bs → Reaches fault before left (record_ ++ bs)
one_more None before left rest bs record_ e r = ap (λ xs. record_ ++ xs) r ∙ sym e
one_more (Some f) before left rest bs record_ e (n, at, is) =
    (length record_ + n, omega arith, ap (λ xs. record_ ++ xs) is ∙ sym (take_behind record_ rest n) ∙ ap (take (length record_ + n)) (sym e))

-- one record of what is left, and what is said of the bytes behind it
module _ (total number before : ℕ) (left : List ℕ) (fit : Bytes left) (more : List ℕ → TapeReading) (t : before + length left ≡ total)
    (go : (rest : List ℕ) → Bytes rest → length rest < length left → (before' : ℕ) → before' + length rest ≡ total → Reaches (more rest).fault before' rest (tape_bytes (more rest).requests)) where
  abbrev from : Outcome (Request × List ℕ) → TapeReading
  from o = go_on o more (λ fault. stopped fault number (total - length left))

  reaches_record : (o : Outcome (Request × List ℕ)) → record_of left ≡ o → Reaches (from o).fault before left (tape_bytes (from o).requests)
  reaches_record (answered (q, rest)) e =
      let whole = record_whole left rest q fit e in
      let size : length left ≡ length (record_bytes q) + length rest = ap length whole ∙ length-append (record_bytes q) rest in
      let some = record_size q in
      let rest_fit : Bytes rest = λ k. omega (arith, ap (λ xs. get_or xs (length (record_bytes q) + k) 0) whole, get_or-append-add (record_bytes q) rest k 0, fit (length (record_bytes q) + k)) in
      one_more (more rest).fault before left rest (tape_bytes (more rest).requests) (record_bytes q) whole (go rest rest_fit (omega arith) (before + length (record_bytes q)) (omega arith))
  reaches_record (refused fault) e = (0, omega arith, refl)

reaches : (most total number before : ℕ) (left : List ℕ) → Bytes left → length left ≤ most → before + length left ≡ total
    → Reaches (records_from most total number left).fault before left (tape_bytes (records_from most total number left).requests)
unfolding records_from
reaches zero total number before [] fit h t = refl
reaches zero total number before (b ∷ bs) fit h t = absurd (omega arith)
reaches (suc most) total number before [] fit h t = refl
reaches (suc most) total number before (b ∷ bs) fit h t =
    reaches_record total number before (b ∷ bs) fit (records_from most total (number + 1)) t
    (λ rest rest_fit shorter before' t'. reaches most total (number + 1) before' rest rest_fit (omega arith) t')
    (record_of (b ∷ bs)) refl

up_to_fault : (fault : Option FaultValues) (bytes bs : List ℕ) → Reaches fault 0 bytes bs → bs ≡ up_to fault bytes
up_to_fault None bytes bs r = r
up_to_fault (Some f) bytes bs (n, at, is) = is ∙ ap (λ k. take k bytes) (let e : n ≡ f.start = omega arith in e)

-- Of any bytes: up to the tape's fault, they are exactly those that writing its requests makes.
one_record_each : (bytes : List ℕ) → Bytes bytes → tape_bytes (tape_of bytes).requests ≡ up_to (tape_of bytes).fault bytes
one_record_each bytes fit =
    let P : TapeReading → Type 0 = λ tape. tape_bytes tape.requests ≡ up_to tape.fault bytes in
    ⊎_elim
    (λ t. let most : length bytes ≤ length bytes = omega arith in
    subst P (tape_short bytes (leb-true (length bytes) 60000 t)) (up_to_fault _ bytes _ (reaches (length bytes) (length bytes) 1 0 bytes fit most (omega arith))))
    (λ f. subst P (tape_long bytes (leb-false (length bytes) 60000 f)) refl)
    (cases_Bool (leb (length bytes) 60000))

pub reads_tape : (bytes : List ℕ) → Bytes bytes → ReadsTape bytes (tape_of bytes)
reads_tape bytes fit = tape_read bytes (tape_of bytes) refl (one_record_each bytes fit)
