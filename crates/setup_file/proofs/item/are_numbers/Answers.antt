use Rattle.std.proofs.Common.{◌∙◌, refl, rules, tests}
use Rattle.std.specs.Option.{is_some}
use Rattle.std.proofs.lemmas.Iterator.Consumers.{YieldsList-from_first}
use Rattle.std.proofs.lemmas.Iterator.Search.{all_from_yields_List}
use Rattle.setup_file.specs.Words.{long_of}
use Rattle.setup_file.specs.WordsLeft.{words_left}
use Rattle.setup_file.proofs.Items.{numbers_known}
use Rattle.setup_file.proofs.item.are_numbers.Goals as goal

pub returns : goal.returns
returns c =
    all_from_yields_List (λ w. is_some (long_of w)) c.all.new.self _ _ c.all.ensures.ran (YieldsList-from_first (λ w. w.now) words_left (words_left c.args.words) refl) (λ x r q k. search (rules, tests))
    ∙ numbers_known (words_left c.args.words)
