use Rattle.std.proofs.Common.{refl}
use Rattle.class_codec.proofs.tree.ClassFile.copy.Goals as goal

pub returns : goal.returns
returns c = rw (c.in_ok-pool.ensures, c.in_ok-interfaces.ensures, c.in_ok-fields.ensures, c.in_ok-methods.ensures, c.in_ok-attrs.ensures) refl
