use Rattle.command_inputs.proofs.Contents.{told_are_read}
use Rattle.command_inputs.proofs.laws.told_files_are_read.Goals as goal

pub returns : goal.returns
returns c = told_are_read
