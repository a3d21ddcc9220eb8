use Rattle.std.proofs.Common.{◌+◌, ◌<◌, ◌^◌, eqb, length, Ok, sym, refl, ap, ◌∙◌, subst, arith, rules, tests}
use Rattle.std.proofs.lemmas.Iterator.Consumers.{YieldsList-at, YieldsList-turn, YieldsList-end}
use Rattle.std.proofs.lemmas.Iterator.Splits.{YieldsList-from_slice_split}
use Rattle.std.proofs.lemmas.List.{length_push}
use Rattle.setup_file.specs.SetupFiles.{no_items, at_line}
use Rattle.setup_file.proofs.Lines.{few_lines, LinesChecked, line_read, line_fails, lines_end}
use Rattle.setup_file.proofs.read.outline_of.Goals as goal

pub loop-line-init : goal.loop-line-init
loop-line-init c = (
  YieldsList-at c.into_iter-line-iterator.ensures.into_iter_gives (YieldsList-from_slice_split _ (λ b. eqb b 10) c.args.text.now c.split-line-items.ensures.rest c.split-line-items.ensures.done c.split-line-items.ensures.closure (λ x r q k. search (rules, tests))),
  record { draft = no_items; read = record { counted = refl; left = refl }; stands = c.new-seen.ensures },
)

pub overflow_add-number : goal.overflow_add-number
overflow_add-number c =
    let l = c.loop-line in
    let next = YieldsList-turn l.invariant.0 l.yielded _ l.yielded_by _ _ c.in-Some.line c.in-Some.is c.next.ensures.steps in
    let few = few_lines c.args.text.now in
    let size : length c.args.text.now < 2 ^ 63 = search rules in
    omega (arith, next.0, few, size, l.invariant.1.read.counted)

pub returns-in-Err : goal.returns-in-Err
returns-in-Err c =
    let l = c.loop-line in
    let so_far = l.invariant.1 in
    let next = YieldsList-turn l.invariant.0 l.yielded _ l.yielded_by _ _ c.in-Some.line c.in-Some.is c.next.ensures.steps in
    line_fails c.args.text.now _ _ _ so_far.read c.in-Some.line.now next c.in-Err.problem (c.in-Err.ensures so_far.draft so_far.stands)

pub loop-line-preserved : goal.loop-line-preserved
loop-line-preserved c =
    let l = c.loop-line in
    let so_far = l.invariant.1 in
    let next = YieldsList-turn l.invariant.0 l.yielded _ l.yielded_by _ _ c.in-Some.line c.in-Some.is c.next.ensures.steps in
    let after = c.in_default.ensures so_far.draft so_far.stands in
    let read = line_read c.args.text.now _ _ _ so_far.read c.in-Some.line.now next after.0 after.1 in
    (l.invariant.0, subst (λ i. LinesChecked c.args.text.now i (l.number + 1) c.take_line.new.self) (sym (length_push l.yielded c.in-Some.line)) (record { draft = after.0; read = read; stands = after.2 }))

pub returns-in-Ok : goal.returns-in-Ok
returns-in-Ok c =
    let l = c.loop-line in
    let so_far = l.invariant.1 in
    let end = YieldsList-end l.invariant.0 l.yielded _ l.yielded_by _ _ c.in-None.is c.next.ensures.steps in
    let all = c.in-Ok.ensures so_far.draft so_far.stands in
    (all.0, lines_end c.args.text.now _ _ _ so_far.read (omega (arith, end.1)) ∙ ap (λ o. at_line l.number o Ok) all.1, all.2)

pub returns-in-Err-finish : goal.returns-in-Err-finish
returns-in-Err-finish c =
    let l = c.loop-line in
    let so_far = l.invariant.1 in
    let end = YieldsList-end l.invariant.0 l.yielded _ l.yielded_by _ _ c.in-None.is c.next.ensures.steps in
    lines_end c.args.text.now _ _ _ so_far.read (omega (arith, end.1)) ∙ ap (λ o. at_line l.number o Ok) (c.in-Err-finish.ensures so_far.draft so_far.stands)
