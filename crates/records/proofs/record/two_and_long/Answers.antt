use Rattle.std.proofs.Common.{◌≡◌, ◌++◌, length, sym, ap, ◌∙◌, ap₂, rules}
use Rattle.protocol.specs.Bytes.{two_bytes, four_bytes}
use Rattle.records.proofs.Contents.{Bytes, whole_eight}
use Rattle.records.proofs.record.two_and_long.Goals as goal

pub returns-clause-whole : goal.returns-clause-whole
returns-clause-whole c =
    let xs = c.args.bytes in
    let fit : Bytes xs = λ k. search rules in
    let long : length xs ≡ 8 = search rules in
    let m = c.from_be_bytes.ensures in
    let n = c.from_be_bytes-2.ensures in
    let v = c.from_be_bytes-3.ensures in
    whole_eight xs fit long ∙ ap₂ (λ us vs. us ++ vs) (ap₂ (λ a b. two_bytes a ++ two_bytes b) (sym m) (sym n)) (ap four_bytes (sym v))
