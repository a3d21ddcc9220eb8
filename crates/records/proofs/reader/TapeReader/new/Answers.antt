use Rattle.std.proofs.Common.{rules}
use Rattle.records.proofs.Contents.{Bytes}
use Rattle.records.proofs.Whole.{reads_tape}
use Rattle.records.proofs.reader.TapeReader.new.Goals as goal

pub returns-clause-records_are_requests : goal.returns-clause-records_are_requests
returns-clause-records_are_requests c = let fit : Bytes c.args.bytes.now = λ k. search rules in reads_tape _ fit

pub returns-then-bytes-gt-LONGEST-clause-records_are_requests : goal.returns-then-bytes-gt-LONGEST-clause-records_are_requests
returns-then-bytes-gt-LONGEST-clause-records_are_requests c = let fit : Bytes c.args.bytes.now = λ k. search rules in reads_tape _ fit
