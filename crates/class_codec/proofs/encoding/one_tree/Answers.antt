use Rattle.class_codec.proofs.FileLaws.{same_tree}
use Rattle.class_codec.proofs.encoding.one_tree.Goals as goal

pub returns-clause-tree : goal.returns-clause-tree
returns-clause-tree c = λ bytes f g encodes_f encodes_g. same_tree bytes f g encodes_f encodes_g
