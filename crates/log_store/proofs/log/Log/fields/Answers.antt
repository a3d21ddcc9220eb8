use Rattle.std.proofs.Common.{take, ap, ap₂, ◌∙◌, sym}
use Rattle.std.specs.List.{prefix_len}
use Rattle.log_store.proofs.Places.{is_used, used_places}
use Rattle.log_store.proofs.log.Log.fields.Goals as goal

pub returns : goal.returns
returns c = ap₂ take (c.count_used.ensures ∙ ap (prefix_len is_used) c.places-places.ensures ∙ sym (used_places c.args.self.now.count c.args.self.now.bytes.now)) c.places-places.ensures
