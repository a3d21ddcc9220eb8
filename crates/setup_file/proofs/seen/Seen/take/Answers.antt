use Rattle.std.proofs.Common.{◌≡◌, ◌∷◌, [], ◌++◌, Some, Ok, sym, refl, ap, subst, rules}
use Rattle.std.specs.Option.{is_some}
use Rattle.setup_file.specs.declared.seen.Seen.{Seen}
use Rattle.setup_file.specs.Checks.{StoreStands, ChecksLine}
use Rattle.setup_file.specs.Outlines.{OutlinesMade}
use Rattle.setup_file.specs.Reading.{with_item}
use Rattle.setup_file.specs.SetupFiles.{with_cells, with_rights}
use Rattle.setup_file.specs.WordsLeft.{words_left}
use Rattle.setup_file.proofs.Standing.{once_checked, stand_alike}
use Rattle.setup_file.proofs.seen.Seen.take.Goals as goal

pub returns-in-Order : goal.returns-in-Order
returns-in-Order c draft stands =
    let put = c.put_once in
    let now = c.args.self.now in
    let seen : Seen = record { order = put.new.place; cells = now.cells; rights = now.rights; policies = now.policies } in
    subst (λ item. ChecksLine (with_item item draft) seen put.result) (sym c.in-Order.is)
    (once_checked (record draft { order = Some c.in-Order.order }) seen now.order put.new.place c.in-Order.order draft.order put.result
    (ap is_some stands.order) put.ensures.free put.ensures.taken
    (λ placed. record { order = placed; cells = stands.cells; rights = stands.rights; policies = stands.policies }))

pub returns-in_ok-cells-in-Cells : goal.returns-in_ok-cells-in-Cells
returns-in_ok-cells-in-Cells c draft stands =
    let put = c.put_once-in-Cells in
    let now = c.args.self.now in
    let cells = c.in_ok-cells-in-Cells.cells in
    let seen : Seen = record { order = now.order; cells = put.new.place; rights = now.rights; policies = now.policies } in
    let outlined : c.store_outline.result ≡ Some cells = search rules in
    let made = subst (OutlinesMade c.in-Cells.make (words_left c.in-Cells.words)) outlined c.store_outline.ensures in
    subst (λ item. ChecksLine (with_item item draft) seen put.result) (sym c.in-Cells.is)
    (subst (λ store. ChecksLine (with_cells store draft) seen put.result) (sym made.1)
    (once_checked (record draft { cells = Some made.0 }) seen now.cells put.new.place cells draft.cells put.result
    (stand_alike now.cells draft.cells stands.cells) put.ensures.free put.ensures.taken
    (λ placed. record {
      order = stands.order;
      cells = subst (λ place. StoreStands place (Some made.0)) (sym placed) made.2;
      rights = stands.rights;
      policies = stands.policies;
    })))

pub returns-in_ok-rights-in-Rights : goal.returns-in_ok-rights-in-Rights
returns-in_ok-rights-in-Rights c draft stands =
    let put = c.put_once-in-Rights in
    let now = c.args.self.now in
    let rights = c.in_ok-rights-in-Rights.rights in
    let seen : Seen = record { order = now.order; cells = now.cells; rights = put.new.place; policies = now.policies } in
    let outlined : c.store_outline-in-Rights.result ≡ Some rights = search rules in
    let made = subst (OutlinesMade c.in-Rights.make (words_left c.in-Rights.words)) outlined c.store_outline-in-Rights.ensures in
    subst (λ item. ChecksLine (with_item item draft) seen put.result) (sym c.in-Rights.is)
    (subst (λ store. ChecksLine (with_rights store draft) seen put.result) (sym made.1)
    (once_checked (record draft { rights = Some made.0 }) seen now.rights put.new.place rights draft.rights put.result
    (stand_alike now.rights draft.rights stands.rights) put.ensures.free put.ensures.taken
    (λ placed. record {
      order = stands.order;
      cells = stands.cells;
      rights = subst (λ place. StoreStands place (Some made.0)) (sym placed) made.2;
      policies = stands.policies;
    })))

pub returns-in-Policy : goal.returns-in-Policy
returns-in-Policy c draft stands =
    let now = c.args.self.now in
    let seen : Seen = record { order = now.order; cells = now.cells; rights = now.rights; policies = c.one_more-self.result } in
    subst (λ item. ChecksLine (with_item item draft) seen (Ok tt)) (sym c.in-Policy.is) (
      record draft { policies = draft.policies ++ c.in-Policy.policy ∷ [] },
      refl,
      record {
        order = stands.order;
        cells = stands.cells;
        rights = stands.rights;
        policies = c.one_more-self.ensures draft.policies stands.policies;
      },
    )
