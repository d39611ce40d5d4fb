-- A location, an origin and an event in a row.
use Rattle.tape_file.proofs.Records.{record_whole}
use Rattle.tape_file.proofs.read.RecordSpelled.parse.Goals as goal

pub returns : goal.returns
returns c = record_whole c.in_ok-read.ensures c.in_ok-read-2.ensures c.in_ok-read-3.ensures
