use Rattle.std.proofs.Common.{ap, ◌∙◌, sym, arith}
use Rattle.std.specs.List.{prefix_len}
use Rattle.log_store.proofs.Places.{is_used, used_le, used_places}
use Rattle.log_store.proofs.log.Log.used.Goals as goal

pub returns : goal.returns
returns c =
    let n = c.args.self.now.count in
    let t = c.args.self.now.bytes.now in
    let most = used_le n t in
    let used = c.count_used.ensures ∙ ap (prefix_len is_used) c.places.ensures ∙ sym (used_places n t) in
    record { within = omega arith; used = used }
