-- How much room the lines of a tape take.
use Rattle.std.proofs.Common.{◌≡◌, ℕ, ◌+◌, ◌*◌, ◌/◌, ◌<◌, ◌≤◌, leb, List, length, ⊎_elim, arith}
use Rattle.std.proofs.lemmas.Bool.{cases_Bool, cond-true, cond-false, leb-true, leb-false, le-leb, lt-leb}
use Rattle.tape.specs.Runs.{longest_lines}

pub longest_short : (tape : List ℕ) → length tape ≤ 60000 → longest_lines tape ≡ 14 * (length tape / 5) + 28
longest_short tape h = cond-true _ _ _ (le-leb (length tape) 60000 h)

pub longest_long : (tape : List ℕ) → 60000 < length tape → longest_lines tape ≡ 28
longest_long tape h = cond-false _ _ _ (lt-leb (length tape) 60000 h)

pub longest_bounded : (tape : List ℕ) → longest_lines tape ≤ 170000
longest_bounded tape =
    ⊎_elim
    (λ t. let h = leb-true (length tape) 60000 t in omega (arith, longest_short tape h))
    (λ f. let h = leb-false (length tape) 60000 f in omega (arith, longest_long tape h))
    (cases_Bool (leb (length tape) 60000))

-- after a record of five bytes or more
pub room_more : (end to left left' whole : ℕ) → end + (14 * (left / 5) + 28) ≤ whole → left' + 5 ≤ left → to ≤ end + 14 → to + (14 * (left' / 5) + 28) ≤ whole
room_more end to left left' whole room less short = omega arith
