use Rattle.std.proofs.Common.{◌≡◌, ◌*◌, length, set, refl, ap, ◌∙◌, ap₂, arith}
use Rattle.log_store.specs.Log.{spliced}
use Rattle.log_store.proofs.Checkpoints.{copied, copied_more, copied_all}
use Rattle.log_store.proofs.writes.format.Goals as goal

pub loop-i-preserved : goal.loop-i-preserved
loop-i-preserved c =
    let ns = c.args.numbers.now in
    let i = c.loop-i.i in
    c.put.ensures ∙ ap₂ (λ b bs. spliced b (4 * i) bs) c.loop-i.invariant c.to_be_bytes.ensures ∙ copied_more (length ns) ns c.args.bytes.now refl i _ c.loop-i-test.true refl

pub returns : goal.returns
returns c =
    let ns = c.args.numbers.now in
    let t = c.args.bytes.now in
    let end : c.loop-i.i ≡ length ns = omega arith in
    ap (λ b. set b (4 * length ns) 0) (c.loop-i.invariant ∙ ap (copied ns t) end) ∙ copied_all (length ns) ns t refl (omega arith)
