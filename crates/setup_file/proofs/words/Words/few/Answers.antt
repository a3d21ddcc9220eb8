use Rattle.std.proofs.Common.{ap, rules}
use Rattle.std.proofs.lemmas.Iterator.Consumers.{YieldsList-from_first}
use Rattle.setup_file.specs.WordsLeft.{words_left}
use Rattle.setup_file.proofs.words.Words.few.Goals as goal

pub loop-word-init : goal.loop-word-init
loop-word-init c =
    (YieldsList-from_first (λ w. w.now) words_left (words_left c.args.self) (ap words_left c.into_iter-word-iterator.ensures.into_iter_gives), search rules)
