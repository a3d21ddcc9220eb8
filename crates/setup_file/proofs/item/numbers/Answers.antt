use Rattle.std.proofs.Common.{vec_items, ap, sym, subst, arith}
use Rattle.std.proofs.lemmas.Iterator.Consumers.{YieldsList-from_first, YieldsList-turn, YieldsList-end}
use Rattle.std.proofs.lemmas.List.{length_push}
use Rattle.setup_file.specs.WordsLeft.{words_left}
use Rattle.setup_file.proofs.Items.{NumbersRead, none_read, numbers_more, numbers_stop, numbers_end}
use Rattle.setup_file.proofs.item.numbers.Goals as goal

pub loop-word-init : goal.loop-word-init
loop-word-init c = (
  YieldsList-from_first (λ w. w.now) words_left (words_left c.args.words) (ap words_left c.into_iter-word-iterator.ensures.into_iter_gives),
  rw c.new-numbers.ensures.items (none_read (words_left c.args.words)),
)

pub returns-in_default : goal.returns-in_default
returns-in_default c =
    let l = c.loop-word in
    let next = YieldsList-turn l.invariant.0 l.yielded _ l.yielded_by _ c.next.new.self c.in-Some.word c.in-Some.is c.next.ensures.steps in
    numbers_stop (words_left c.args.words) _ _ l.invariant.1 c.in-Some.word.now next c.in_default.ensures

pub loop-word-preserved : goal.loop-word-preserved
loop-word-preserved c =
    let l = c.loop-word in
    let words = words_left c.args.words in
    let next = YieldsList-turn l.invariant.0 l.yielded _ l.yielded_by _ c.next.new.self c.in-Some.word c.in-Some.is c.next.ensures.steps in
    let more = numbers_more words _ _ l.invariant.1 c.in-Some.word.now next c.in-Some-long.number _ c.in-Some-long.ensures c.in_ok-push.ensures.items in
    (l.invariant.0, subst (λ i. NumbersRead words i (vec_items c.push.new.self)) (sym (length_push l.yielded c.in-Some.word)) more)

pub returns : goal.returns
returns c =
    let l = c.loop-word in
    let end = YieldsList-end l.invariant.0 l.yielded _ l.yielded_by _ c.next.new.self c.in-None.is c.next.ensures.steps in
    numbers_end (words_left c.args.words) _ _ l.invariant.1 (omega (arith, end.1))
