use Rattle.block_runs.proofs.Example.{arguments_are_given_back, fourth_is_refused, third_is_called}
use Rattle.block_runs.proofs.laws.a_block_runs.Goals as goal

pub returns : goal.returns
returns c = record { third = third_is_called; fourth = fourth_is_refused; arguments = arguments_are_given_back }
