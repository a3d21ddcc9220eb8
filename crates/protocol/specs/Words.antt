-- A request in words.
use Rattle.std.specs.Prelude.{ℕ, List, ◌++◌, codes, decimal}
use Rattle.protocol.specs.declared.request.Request.{Request}
use Rattle.protocol.specs.declared.request.Request.TheVariants.{Open, Deploy, Read, Write, Show, Set, Commit, GiveUp}

abbrev pub words : Request → List ℕ
words (Open subject) = codes "open subject " ++ decimal subject
words (Deploy transaction policy) = codes "deploy transaction " ++ decimal transaction ++ codes " policy " ++ decimal policy
words (Read transaction cell) = codes "read transaction " ++ decimal transaction ++ codes " cell " ++ decimal cell
words (Write transaction cell value) = codes "write transaction " ++ decimal transaction ++ codes " cell " ++ decimal cell ++ codes " value " ++ decimal value
words (Show transaction policy) = codes "show transaction " ++ decimal transaction ++ codes " policy " ++ decimal policy
words (Set transaction policy right) = codes "set transaction " ++ decimal transaction ++ codes " policy " ++ decimal policy ++ codes " right " ++ decimal right
words (Commit transaction) = codes "commit transaction " ++ decimal transaction
words (GiveUp transaction) = codes "give up transaction " ++ decimal transaction
