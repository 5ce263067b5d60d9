use Rattle.block_runs.proofs.Reaching.{calls_are_reached, ends_are_reached, throws_are_reached}
use Rattle.block_runs.proofs.laws.calls_are_reached.Goals as goal

pub returns : goal.returns
returns c = record { call = calls_are_reached; end = ends_are_reached; throw = throws_are_reached }
