use Rattle.std.proofs.Common.{◌∙◌, refl}
use Rattle.bytecode_model.proofs.program.Program.copy.Goals as goal

pub returns : goal.returns
returns c = rw (c.in_ok-classes.ensures, c.in_ok-listing.ensures, c.in_ok-literals.ensures ∙ c.as_slice.ensures) refl
