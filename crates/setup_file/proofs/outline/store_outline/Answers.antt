use Rattle.std.proofs.Common.{refl, rules}
use Rattle.setup_file.specs.WordsLeft.{words_left}
use Rattle.setup_file.proofs.Items.{words_known, stored}
use Rattle.setup_file.proofs.outline.store_outline.Goals as goal

pub returns : goal.returns
returns c =
    let words = words_left c.args.words in
    let known = words_known words (search rules) in (
      record { make = c.args.make; numbers = known.0 },
      stored c.args.make words known.0 known.1,
      record { make = refl; numbers = c.few_numbers.ensures known.0 known.1 },
    )
