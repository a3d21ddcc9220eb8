use Rattle.std.proofs.Common.{Some, None, length, ap, ◌∙◌, sym, arith}
use Rattle.std.proofs.lemmas.List.{length-take-le}
use Rattle.std.specs.Option.{option_map}
use Rattle.log_store.proofs.Places.{length_places, number_found}
use Rattle.log_store.proofs.log.Log.number_after.Goals as goal

pub slice_bounds-last_of-end : goal.slice_bounds-last_of-end
slice_bounds-last_of-end c =
    let n = c.args.self.now.count in
    let t = c.args.self.now.bytes.now in
    let long = length_places n t in
    let size = ap length c.places.ensures in
    sym (length-take-le c.args.fields c.places.result.now (omega arith))

pub returns-in-Some : goal.returns-in-Some
returns-in-Some c =
    let t = c.args.self.now.bytes.now in
    let last = sym (ap (option_map (λ x. x.now)) c.in-Some.is) ∙ c.last_of.ensures in
    c.value_of.ensures ∙ number_found c.args.self.now.count t c.args.position c.args.fields c.places.result.now (Some c.in-Some.field.now) c.requires.counted c.requires.within c.places.ensures last

pub returns-in-None : goal.returns-in-None
returns-in-None c =
    let t = c.args.self.now.bytes.now in
    let last = sym (ap (option_map (λ x. x.now)) c.in-None.is) ∙ c.last_of.ensures in
    c.number32.ensures ∙ number_found c.args.self.now.count t c.args.position c.args.fields c.places.result.now None c.requires.counted c.requires.within c.places.ensures last
