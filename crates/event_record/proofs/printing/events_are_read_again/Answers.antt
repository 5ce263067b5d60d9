use Rattle.event_record.proofs.EventsAgain.{event_again}
use Rattle.event_record.proofs.RecordsAgain.{events_again}
use Rattle.event_record.proofs.printing.events_are_read_again.Goals as goal

pub returns-clause-line : goal.returns-clause-line
returns-clause-line c = event_again

pub returns-clause-text : goal.returns-clause-text
returns-clause-text c = λ listing events ending all end. events_again listing ending end events all
