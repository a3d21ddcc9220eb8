use Rattle.std.proofs.Common.{◌≡◌, cond, sym, ap, ◌∙◌}
use Rattle.std.proofs.lemmas.Bool.{cond-false, cond-true}
use Rattle.log_store.specs.Log.{holds_log, log_list}
use Rattle.log_store.proofs.Sizes.{list_made}
use Rattle.log_store.proofs.held.LogStore.new.Goals as goal
use Rattle.log_store.proofs.held.LogStore.new.Goals.{then-holds_log, else-holds_log}

pub returns-clause-list : goal.returns-clause-list
returns-clause-list c =
    let t = c.args.bytes.now in
    let n = c.args.count in
    let count : c.if-holds_log.count ≡ cond (holds_log n t) n 0 =
    elim c.if-holds_log.branch [
      | then-holds_log w ↦ w.count-is ∙ sym (cond-true _ _ _ (sym c.holds_log.ensures ∙ w.if-holds_log.true))
      | else-holds_log w ↦ w.count-is ∙ sym (cond-false _ _ _ (sym c.holds_log.ensures ∙ w.if-holds_log.false))
    ] in
    ap (λ m. log_list m t) count ∙ list_made n t
