use Rattle.listing_text.proofs.TextLaws.{answer_found, answer_only, answer_few}
use Rattle.listing_text.proofs.reading.read.Goals as goal

pub returns-clause-found : goal.returns-clause-found
returns-clause-found c = answer_found c.args.text.now c.read_text.result c.read_text.ensures

pub returns-clause-only : goal.returns-clause-only
returns-clause-only c = answer_only c.args.text.now c.read_text.result c.read_text.ensures

pub returns-clause-few : goal.returns-clause-few
returns-clause-few c = answer_few c.args.text.now c.read_text.result c.read_text.ensures
