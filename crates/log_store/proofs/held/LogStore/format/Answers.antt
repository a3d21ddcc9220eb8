use Rattle.std.proofs.Common.{rules, ◌≡◌, true, length, sym, ap, ◌∙◌}
use Rattle.log_store.specs.Log.{fits, log_of}
use Rattle.log_store.proofs.Sound.{list_formatted}
use Rattle.log_store.proofs.held.LogStore.format.Goals as goal

pub returns-clause-list : goal.returns-clause-list
returns-clause-list c =
    let ns = c.args.numbers.now in
    let t = c.args.bytes.now in
    let room : fits (length ns) t ≡ true = sym c.fits.ensures ∙ c.if-not-fits.false in
    ap (log_of (length ns)) c.format.ensures ∙ list_formatted ns t room (λ i _. search rules)
