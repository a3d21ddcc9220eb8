use Rattle.std.proofs.Common.{rules, tests, eqb}
use Rattle.std.proofs.lemmas.Iterator.{YieldsList-from_slice}
use Rattle.std.proofs.lemmas.Iterator.Search.{position_from_yields_List}
use Rattle.setup_file.proofs.Comments.{front_of_position}
use Rattle.setup_file.proofs.words.before_comment.Goals as goal

pub returns : goal.returns
returns c =
    let found = position_from_yields_List (λ b. eqb b 35) _ _ _ c.position.ensures.ran (YieldsList-from_slice c.args.line.now cc) (λ x r q k. search (rules, tests)) in
    front_of_position (λ b. eqb b 35) c.args.line.now c.position.result c.unwrap_or-end.result found c.unwrap_or-end.ensures
