use Rattle.event_record.proofs.TextLaws.{answer_found, answer_only}
use Rattle.event_record.proofs.reading.read_record.Goals as goal

pub returns-clause-found : goal.returns-clause-found
returns-clause-found c = answer_found c.args.listing.now c.args.text.now c.read_text.result c.read_text.ensures

pub returns-clause-only : goal.returns-clause-only
returns-clause-only c = answer_only c.args.listing.now c.args.text.now c.read_text.result c.read_text.ensures
