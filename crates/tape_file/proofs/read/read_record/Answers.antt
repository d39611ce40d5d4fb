-- A line is a record's where its words are, and none is left.
use Rattle.tape_file.proofs.Records.{reads_whole, reads_lacks, reads_more}
use Rattle.tape_file.proofs.read.read_record.Goals as goal

pub returns-in_err-record : goal.returns-in_err-record
returns-in_err-record c =
    reads_lacks c.args.line.now _ c.new-words.ensures c.from_residual.result c.from_residual.ensures.0 c.in_err-record.ensures

pub returns-in-None : goal.returns-in-None
returns-in-None c =
    reads_whole c.args.line.now _ c.new-words.ensures c.in_ok-record.record _ c.in-None.ensures.steps.0 c.in_ok-record.ensures

pub returns-in-Some : goal.returns-in-Some
returns-in-Some c =
    reads_more c.args.line.now _ c.new-words.ensures c.in_ok-record.record _ c.next.new.self c.in-Some.field-0.now c.in-Some.ensures.steps c.in_ok-record.ensures
