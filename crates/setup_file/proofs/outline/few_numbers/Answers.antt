use Rattle.std.proofs.Common.{◌≡◌, ◌<◌, length, Some, None, refl, ap, sym, subst, ◌∙◌, arith, rules}
use Rattle.std.proofs.lemmas.Iterator.Consumers.{YieldsList-from_first, YieldsList-turn, YieldsList-end}
use Rattle.std.proofs.lemmas.List.{length_push}
use Rattle.setup_file.specs.WordsLeft.{words_left}
use Rattle.setup_file.proofs.Items.{NumbersRead, none_read, numbers_more, numbers_stop, numbers_end, numbers_within}
use Rattle.setup_file.proofs.outline.few_numbers.Goals as goal

pub loop-word-init : goal.loop-word-init
loop-word-init c = (
  YieldsList-from_first (λ w. w.now) words_left (words_left c.args.words) (ap words_left c.into_iter-word-iterator.ensures.into_iter_gives),
  rw c.new-few.ensures (none_read (words_left c.args.words)),
)

pub returns-in_err-long : goal.returns-in_err-long
returns-in_err-long c numbers said =
    let l = c.loop-word in
    let words = words_left c.args.words in
    let next = YieldsList-turn l.invariant.0 l.yielded _ l.yielded_by _ c.next.new.self c.in-Some.word c.in-Some.is c.next.ensures.steps in
    let none = numbers_stop words _ _ l.invariant.1 c.in-Some.word.now next c.in_err-long.ensures in
    let no : ◌≡◌ None (Some numbers) = none ∙ said in
    absurd cc

pub loop-word-preserved : goal.loop-word-preserved
loop-word-preserved c =
    let l = c.loop-word in
    let words = words_left c.args.words in
    let next = YieldsList-turn l.invariant.0 l.yielded _ l.yielded_by _ c.next.new.self c.in-Some.word c.in-Some.is c.next.ensures.steps in
    let more = numbers_more words _ _ l.invariant.1 c.in-Some.word.now next c.in_ok-long.field-0 _ c.in_ok-long.ensures (search rules) in
    (l.invariant.0, subst (λ i. NumbersRead words i c.try_push.new.self.items) (sym (length_push l.yielded c.in-Some.word)) more)

pub returns-in_err-ok : goal.returns-in_err-ok
returns-in_err-ok c numbers said =
    let l = c.loop-word in
    let words = words_left c.args.words in
    let next = YieldsList-turn l.invariant.0 l.yielded _ l.yielded_by _ c.next.new.self c.in-Some.word c.in-Some.is c.next.ensures.steps in
    let more = numbers_more words _ _ l.invariant.1 c.in-Some.word.now next c.in_ok-long.field-0 _ c.in_ok-long.ensures refl in
    let within = numbers_within words _ _ more numbers said in
    let n = length_push l.few.items c.in_ok-long.field-0 in
    let full : length l.few.items ≡ 256 = search rules in
    let long : 256 < length numbers = omega (arith, within, n, full) in
    rw c.from_residual-in_err-ok.ensures long

pub returns : goal.returns
returns c numbers said =
    let l = c.loop-word in
    let end = YieldsList-end l.invariant.0 l.yielded _ l.yielded_by _ c.next.new.self c.in-None.is c.next.ensures.steps in
    let whole = numbers_end (words_left c.args.words) _ _ l.invariant.1 (omega (arith, end.1)) ∙ said in
    cc
