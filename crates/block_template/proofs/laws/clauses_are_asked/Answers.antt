use Rattle.block_template.proofs.ItemsTyped.{clauses_are_asked}
use Rattle.block_template.proofs.laws.clauses_are_asked.Goals as goal

pub returns : goal.returns
returns c = clauses_are_asked
