-- Reading a record gives back the request that it was made of.
use Rattle.std.proofs.Common.{◌≡◌, ℕ, ◌<◌, ◌≤◌, List, ◌++◌, length, ap, ◌∙◌, ap₂, arith, lit≤}
use Rattle.protocol.specs.Bytes.{two_bytes, four_bytes, two_at, four_at, field_bytes}
use Rattle.records.specs.Records.{record_bytes, Fits, request_of, with_rest, record_in, record_of}
use Rattle.protocol.specs.Refusals.{Outcome, answered}
use Rattle.protocol.specs.declared.request.Request.{Request}
use Rattle.protocol.specs.declared.request.Request.TheVariants.{Open, Deploy, Read, Write, Show, Set, Commit, GiveUp}
use Rattle.records.proofs.Fields.{field_back}
use Rattle.protocol.proofs.Numbers.{two_back, four_back}

long : (make : ℕ → ℕ → ℕ → Request) (a b n : ℕ) → a < 65536 → b < 65536 → n < 4294967296 → ◌≡◌ {A = Outcome Request} (answered (make (two_at (two_bytes a) 0) (two_at (two_bytes b) 0) (four_at (four_bytes n) 0))) (answered (make a b n))
long make a b n f g h = ap₂ (λ x y. answered (make x y (four_at (four_bytes n) 0))) (two_back a f) (two_back b g) ∙ ap (λ z. answered (make a b z)) (four_back n h)

-- a field whose content says a request
back : (tag : ℕ) (content rest : List ℕ) (q : Request) → length content ≤ 8 → request_of tag content ≡ answered q → record_of (field_bytes tag content ++ rest) ≡ answered (q, rest)
back tag content rest q short said = ap record_in (field_back tag content rest (omega arith)) ∙ ap (with_rest rest) said

pub record_back : (q : Request) → Fits q → (rest : List ℕ) → record_of (record_bytes q ++ rest) ≡ answered (q, rest)
record_back (Open s) f rest = back 1 (two_bytes s) rest (Open s) (lit≤ tt) (ap (λ n. answered (Open n)) (two_back s f))
record_back (Deploy t p) (f, g) rest = back 2 (two_bytes t ++ two_bytes p) rest (Deploy t p) (lit≤ tt) (ap₂ (λ m n. answered (Deploy m n)) (two_back t f) (two_back p g))
record_back (Read t c) (f, g) rest = back 3 (two_bytes t ++ two_bytes c) rest (Read t c) (lit≤ tt) (ap₂ (λ m n. answered (Read m n)) (two_back t f) (two_back c g))
record_back (Write t c v) (f, g, h) rest = back 4 (two_bytes t ++ two_bytes c ++ four_bytes v) rest (Write t c v) (lit≤ tt) (long Write t c v f g h)
record_back (Show t p) (f, g) rest = back 5 (two_bytes t ++ two_bytes p) rest (Show t p) (lit≤ tt) (ap₂ (λ m n. answered (Show m n)) (two_back t f) (two_back p g))
record_back (Set t p r) (f, g, h) rest = back 6 (two_bytes t ++ two_bytes p ++ four_bytes r) rest (Set t p r) (lit≤ tt) (long Set t p r f g h)
record_back (Commit t) f rest = back 7 (two_bytes t) rest (Commit t) (lit≤ tt) (ap (λ n. answered (Commit n)) (two_back t f))
record_back (GiveUp t) f rest = back 8 (two_bytes t) rest (GiveUp t) (lit≤ tt) (ap (λ n. answered (GiveUp n)) (two_back t f))
