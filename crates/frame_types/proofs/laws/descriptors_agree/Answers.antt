use Rattle.frame_types.proofs.Descriptors.{read_so}
use Rattle.frame_types.proofs.laws.descriptors_agree.Goals as goal

pub returns : goal.returns
returns c = record { agree = read_so }
