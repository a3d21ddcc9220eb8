-- The counts of a new table, and those with one commit more.
use Rattle.std.specs.Prelude.{◌+◌}
use Rattle.slot_table.specs.declared.counts.Counts.{Counts}

abbrev pub no_counts : Counts
no_counts = record { opened = 0; commits = 0 }

abbrev pub one_commit_more : Counts → Counts
one_commit_more n = record { opened = n.opened; commits = n.commits + 1 }
