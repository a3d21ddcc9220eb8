-- The byte of each tag.
use Rattle.std.specs.Prelude.{ℕ}
use Rattle.records.specs.declared.tag.Tag.{Tag}
use Rattle.records.specs.declared.tag.Tag.TheVariants.{Open, Deploy, Read, Write, Show, Set, Commit, GiveUp}

abbrev pub tag_number : Tag → ℕ
tag_number Open = 1
tag_number Deploy = 2
tag_number Read = 3
tag_number Write = 4
tag_number Show = 5
tag_number Set = 6
tag_number Commit = 7
tag_number GiveUp = 8
