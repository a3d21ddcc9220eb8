use Rattle.std.proofs.Common.{◌+◌, ◌<◌, ◌^◌, eqb, length, Ok, Err, sym, refl, ap, ◌∙◌, subst, arith, rules, tests}
use Rattle.std.proofs.lemmas.Iterator.Consumers.{YieldsList-at, YieldsList-turn, YieldsList-end}
use Rattle.std.proofs.lemmas.Iterator.Splits.{YieldsList-from_slice_split}
use Rattle.std.proofs.lemmas.List.{length_push}
use Rattle.setup_file.specs.SetupFiles.{draft_content, lines_from, at_line, ReadsSetupFile}
use Rattle.setup_file.proofs.Lines.{lines, few_lines, LinesRead, line_read, error_read, lines_end}
use Rattle.setup_file.proofs.read.read_text.Goals as goal

pub loop-line-init : goal.loop-line-init
loop-line-init c = (
  YieldsList-at c.into_iter-line-iterator.ensures.into_iter_gives (YieldsList-from_slice_split _ (λ b. eqb b 10) c.args.text.now c.split-line-items.ensures.rest c.split-line-items.ensures.done c.split-line-items.ensures.closure (λ x r q k. search (rules, tests))),
  record { counted = refl; left = ap (λ d. lines_from 0 d (lines c.args.text.now)) c.new-draft.ensures },
)

pub overflow_add-count : goal.overflow_add-count
overflow_add-count c =
    let l = c.loop-line in
    let next = YieldsList-turn l.invariant.0 l.yielded _ l.yielded_by _ _ c.in-Some.line c.in-Some.is c.next.ensures.steps in
    let few = few_lines c.args.text.now in
    let size : length c.args.text.now < 2 ^ 63 = search rules in
    omega (arith, next.0, few, size, l.invariant.1.counted)

pub returns-in-Err : goal.returns-in-Err
returns-in-Err c =
    let l = c.loop-line in
    let next = YieldsList-turn l.invariant.0 l.yielded _ l.yielded_by _ _ c.in-Some.line c.in-Some.is c.next.ensures.steps in
    subst (λ e. ReadsSetupFile c.args.text.now (Err e)) (sym c.at.ensures) (error_read c.args.text.now _ _ _ l.invariant.1 c.in-Some.line.now next c.requires c.in-Err.error c.take_line.new.self c.in-Err.ensures)

pub loop-line-preserved : goal.loop-line-preserved
loop-line-preserved c =
    let l = c.loop-line in
    let next = YieldsList-turn l.invariant.0 l.yielded _ l.yielded_by _ _ c.in-Some.line c.in-Some.is c.next.ensures.steps in
    let n = length_push l.yielded c.in-Some.line in
    (l.invariant.0, subst (λ i. LinesRead c.args.text.now i (l.count + 1) (draft_content c.take_line.new.self)) (sym n) (line_read c.args.text.now _ _ _ l.invariant.1 c.in-Some.line.now next _ c.in_default.ensures))

pub returns-in-Ok : goal.returns-in-Ok
returns-in-Ok c =
    let l = c.loop-line in
    let end = YieldsList-end l.invariant.0 l.yielded _ l.yielded_by _ _ c.in-None.is c.next.ensures.steps in
    lines_end c.args.text.now _ _ _ l.invariant.1 (omega (arith, end.1)) ∙ ap (λ o. at_line l.count o Ok) c.in-Ok.ensures

pub returns-in-Err-finish : goal.returns-in-Err-finish
returns-in-Err-finish c =
    let l = c.loop-line in
    let end = YieldsList-end l.invariant.0 l.yielded _ l.yielded_by _ _ c.in-None.is c.next.ensures.steps in
    lines_end c.args.text.now _ _ _ l.invariant.1 (omega (arith, end.1)) ∙ ap (λ o. at_line l.count o Ok) c.in-Err-finish.ensures
