use Rattle.block_runs.proofs.Making.{moves_are_made}
use Rattle.block_runs.proofs.Throwing.{throws_are_made}
use Rattle.block_runs.proofs.laws.moves_are_made.Goals as goal

pub returns : goal.returns
returns c = record { moves = moves_are_made; throws = throws_are_made }
