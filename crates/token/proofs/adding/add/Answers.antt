use Rattle.std.proofs.Common.{rules}
use Rattle.token.proofs.Sums.{wrote_after}
use Rattle.token.proofs.adding.add.Goals as goal

pub returns-in_default-read : goal.returns-in_default-read
returns-in_default-read g c = record {
  answered = search rules;
  same_setup = search rules;
  keeps_stores = search rules;
  writes = wrote_after c.deploy-deployed.ensures.writes c.read-read.ensures.writes;
}

pub returns : goal.returns
returns g c = record {
  answered = search rules;
  same_setup = search rules;
  keeps_stores = search rules;
  writes =
      wrote_after c.deploy-deployed.ensures.writes
      (wrote_after c.read-read.ensures.writes c.write.ensures.writes);
}
