use Rattle.std.proofs.lemmas.List.{take_rest}
use Rattle.tape.proofs.Pushed.{pushed}
use Rattle.tape.proofs.pushing.push_fault.Goals as goal

pub returns-clause-written : goal.returns-clause-written
returns-clause-written c = pushed _ c.args.buffer.now _ _ c.args.end c.in-Ok.length (take_rest c.args.buffer.now c.args.end) c.in-Ok.ensures.answer c.write_fault_line.ensures.after
