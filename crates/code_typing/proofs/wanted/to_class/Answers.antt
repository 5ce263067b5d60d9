use Rattle.std.proofs.Common.{ap, ◌∙◌}
use Rattle.cert_format.specs.declared.typing.VType.{VType}
use Rattle.cert_format.specs.declared.typing.VType.TheVariants.{Ref}
use Rattle.bytecode_model.specs.Assigning.{assignable}
use Rattle.code_typing.proofs.wanted.to_class.Goals as goal

pub returns : goal.returns
returns c = c.fits_class.ensures ∙ ap (λ (t : VType). assignable c.args.program.now t (Ref c.args.name.now)) c.borrow.ensures
