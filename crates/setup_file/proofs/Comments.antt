-- What stands before the comment of a line.
use Rattle.std.proofs.Common.{◌≡◌, ℕ, Bool, List, length, take, Option, ap}
use Rattle.std.specs.Option.{unwrap_or}
use Rattle.std.specs.List.{before_first, position}
use Rattle.setup_file.proofs.Pieces.{or_len_is}

pub front_of_position : (p : ℕ → Bool) (xs : List ℕ) (r : Option ℕ) (n : ℕ) → r ≡ position p xs → n ≡ unwrap_or r (length xs) → take n xs ≡ before_first p xs
front_of_position p xs r n found is = ap (λ k. take k xs) (or_len_is p xs r n found is)
