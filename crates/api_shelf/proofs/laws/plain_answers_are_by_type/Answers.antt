use Rattle.api_shelf.proofs.Results.{plain_is}
use Rattle.api_shelf.proofs.laws.plain_answers_are_by_type.Goals as goal

pub returns : goal.returns
returns c = plain_is
