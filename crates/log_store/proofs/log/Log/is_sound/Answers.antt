use Rattle.std.proofs.Common.{ap, ◌∙◌, sym}
use Rattle.std.specs.List.{list_all}
use Rattle.log_store.specs.Log.{field_at}
use Rattle.log_store.proofs.Places.{all_fields_places, used_le}
use Rattle.log_store.proofs.log.Log.is_sound.Goals as goal

pub returns : goal.returns
returns c =
    let n = c.args.self.now.count in
    let t = c.args.self.now.bytes.now in
    c.all_fields.ensures ∙ ap (list_all (λ x. field_at n x 0)) c.fields.ensures ∙ sym (all_fields_places n t _ (used_le n t))
