use Rattle.std.proofs.Common.{ℕ, sym, ◌∙◌, rules, tests}
use Rattle.std.proofs.lemmas.Iterator.{YieldsList-from_slice}
use Rattle.std.proofs.lemmas.Iterator.Adapters.{option_map_id}
use Rattle.std.proofs.lemmas.Iterator.Consumers.{YieldsList-at, YieldsList-from_enumerate, YieldsList-from_filter, YieldsList-from_filter_map, min_from_yields_List}
use Rattle.locking.specs.Slots.{has}
use Rattle.slot_table.specs.declared.slot.Slot.{Slot}
use Rattle.slot_table.specs.Lowest.{number_if_open}
use Rattle.slot_table.proofs.Lowest.{least_is}
use Rattle.slot_table.proofs.scan.lowest_of.Goals as goal

pub returns : goal.returns
returns c =
    sym (option_map_id c.min.result)
    ∙ min_from_yields_List c.filter_map.result c.min.result c.min.ensures.ran
    (YieldsList-from_filter_map _ (λ (e : ℕ × Slot). number_if_open e.1)
    (YieldsList-at c.filter_map.ensures.source
    (YieldsList-from_filter _ (λ (e : ℕ × Slot). has c.args.set.mask e.0) (YieldsList-from_enumerate (YieldsList-from_slice c.args.slots.now cc) (cc)) c.filter.ensures.closure (λ x b q k. search (rules, tests))))
    c.filter_map.ensures.closure (λ x r q k. search (rules, tests)))
    ∙ least_is (has c.args.set.mask) 0 c.args.slots.now
