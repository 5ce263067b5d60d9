use Rattle.insn_codec.proofs.Table.{marked_alike, goes_on_alike, nop_alone}
use Rattle.insn_codec.proofs.shape_laws.shapes_are_the_tables.Goals as goal

pub returns : goal.returns
returns c = record { marked = marked_alike; goes_on = goes_on_alike; nop = nop_alone }
