use Rattle.std.proofs.Common.{◌≡◌, ℕ, List, IfOk, string_bytes, subst, append_assoc}
use Rattle.listing.specs.Listings.{summary, ending}
use Rattle.listing.proofs.last_line.Goals as goal

pub returns : goal.returns
returns c =
    let says = λ (read : ℕ) (end : List ℕ). IfOk c.format.result (λ line. string_bytes line ≡ summary c.args.count read c.args.size end) in
    let said : says c.read_size-read.result c.ending-ending.result.now = simp append_assoc c.format.ensures.ok in
    subst (λ read. says read (ending c.args.fault)) c.read_size-read.ensures (subst (says c.read_size-read.result) c.ending-ending.ensures said)
