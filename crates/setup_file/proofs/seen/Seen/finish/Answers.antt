use Rattle.std.proofs.Common.{refl, rules}
use Rattle.setup_file.proofs.Standing.{all_stand}
use Rattle.setup_file.proofs.seen.Seen.finish.Goals as goal

pub returns : goal.returns
returns c draft stands =
    all_stand c.in_ok-ok_or.field-0 c.in_ok-ok_or-2.field-0 c.in_ok-ok_or-3.field-0 c.args.self.policies c.args.self draft stands
    (search rules) (search rules) (search rules) refl
