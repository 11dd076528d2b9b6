use Rattle.host_replies.proofs.RecordLines.{record_back}
use Rattle.host_replies.proofs.laws.records_read_back.Goals as goal

pub returns : goal.returns
returns c = record_back
