use Rattle.std.proofs.Common.{not, ◌∷◌, sym, ap₂, ◌∙◌, rules, tests}
use Rattle.std.proofs.lemmas.Iterator.{YieldsList-from_slice}
use Rattle.std.proofs.lemmas.Iterator.Search.{position_from_yields_List}
use Rattle.setup_file.specs.Words.{is_blank, words_in}
use Rattle.setup_file.proofs.Pieces.{no_position, or_len_is, none_left, from_place, next_word}
use Rattle.setup_file.proofs.words.split_first_word.Goals as goal

pub returns-in_err-start : goal.returns-in_err-start
returns-in_err-start c =
    let text = c.args.text.now in
    let found = position_from_yields_List (λ b. not (is_blank b)) _ _ _ c.in_err-start.ensures.ran (YieldsList-from_slice text cc) (λ x r q k. search (rules, tests)) in
    rw c.from_residual.ensures (none_left is_blank text (no_position (λ b. not (is_blank b)) text found))

pub returns : goal.returns
returns c =
    let text = c.args.text.now in
    let rest = from_place is_blank c.in_ok-start.start text in
    let begins = position_from_yields_List (λ b. not (is_blank b)) _ _ _ c.in_ok-start.ensures.ran (YieldsList-from_slice text cc) (λ x r q k. search (rules, tests)) in
    let ends = position_from_yields_List is_blank _ _ _ c.position-2.ensures.ran (YieldsList-from_slice rest cc) (λ x r q k. search (rules, tests)) in
    next_word is_blank text c.in_ok-start.start c.unwrap_or-end.result begins (or_len_is is_blank rest c.position-2.result c.unwrap_or-end.result ends c.unwrap_or-end.ensures)
    ∙ sym (ap₂ (λ word more. word ∷ words_in more) c.split_at.ensures.front c.split_at.ensures.back)
