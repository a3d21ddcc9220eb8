use Rattle.std.proofs.Common.{◌≡◌, take}
use Rattle.c_calls.specs.Policies.{policies_of}
use Rattle.c_calls.proofs.policy.fill.Given as goal

abbrev pub invariant-loop-at : goal.invariant-loop-at
invariant-loop-at l = take l.at l.places ≡ policies_of (take l.at l.entries)
