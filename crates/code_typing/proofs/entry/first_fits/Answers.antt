use Rattle.std.proofs.Common.{sym, ◌∙◌}
use Rattle.code_typing.proofs.Describing.{fit_some, fit_none}
use Rattle.code_typing.proofs.entry.first_fits.Goals as goal

pub returns-in-None : goal.returns-in-None
returns-in-None c = sym (fit_none c.args.program.now _ _ c.args.to.now (sym c.in-None.ensures))

pub returns-in-Some : goal.returns-in-Some
returns-in-Some c = c.arguments_fit.ensures ∙ sym (fit_some c.args.program.now _ _ c.args.to.now _ (sym c.in-Some.ensures))
