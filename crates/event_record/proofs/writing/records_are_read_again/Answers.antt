use Rattle.event_record.proofs.WrittenAgain.{run_again}
use Rattle.event_record.proofs.writing.records_are_read_again.Goals as goal

pub returns : goal.returns
returns c = run_again
