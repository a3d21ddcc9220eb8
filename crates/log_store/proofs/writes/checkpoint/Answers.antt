use Rattle.std.proofs.Common.{◌≡◌, ◌*◌, ◌<◌, get_or, set, ap, ◌∙◌, subst, ap₂, arith, below_more}
use Rattle.log_store.specs.Log.{listed, log_list, spliced, used}
use Rattle.log_store.proofs.Checkpoints.{copied, copied_at, copied_more, copied_all, log_formatted}
use Rattle.log_store.proofs.LogLaws.{length_log}
use Rattle.log_store.proofs.writes.checkpoint.Goals as goal

pub loop-i-preserved : goal.loop-i-preserved
loop-i-preserved c =
    let n = c.args.count in
    let t = c.args.bytes.now in
    let i = c.loop-i.i in
    let x = c.number_after-number.result in
    let copy = c.loop-i.invariant.0 in
    let fields : c.used-fields.result ≡ used n t = c.used-fields.ensures.used ∙ ap₂ used c.new.ensures.count c.new.ensures.bytes in
    let number = c.number_after-number.ensures ∙ ap₂ (λ m b. get_or (listed m b c.used-fields.result) i 0) c.new-in-loop-i.ensures.count (c.new-in-loop-i.ensures.bytes ∙ copy) ∙ ap (λ k. get_or (listed n (copied (log_list n t) t i) k) i 0) fields ∙ copied_at n t i c.loop-i-test.true in (
      c.put.ensures ∙ ap₂ (λ b bs. spliced b (4 * i) bs) copy c.to_be_bytes.ensures ∙ copied_more n (log_list n t) t (length_log n t) i x c.loop-i-test.true number,
      below_more (λ j. get_or (log_list n t) j 0 < 4294967296) i c.loop-i.invariant.1 (subst (λ y. y < 4294967296) number c.number_after-number.type_inv),
    )

pub returns : goal.returns
returns c =
    let n = c.args.count in
    let t = c.args.bytes.now in
    let end : c.loop-i.i ≡ n = omega arith in
    let bytes = ap (λ b. set b (4 * n) 0) (c.loop-i.invariant.0 ∙ ap (copied (log_list n t) t) end) ∙ copied_all n (log_list n t) t (length_log n t) (omega arith) in
    record {
      bytes = bytes;
      list = ap (log_list n) bytes ∙ log_formatted n (log_list n t) t (length_log n t) (λ i l. c.loop-i.invariant.1 i (omega arith));
    }
