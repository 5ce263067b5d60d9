use Rattle.insn_codec.proofs.Table.{goes_to_successor}
use Rattle.insn_codec.proofs.shape_laws.control_goes_to_successor.Goals as goal

pub returns : goal.returns
returns g c = record { goes = λ view. goes_to_successor view }
