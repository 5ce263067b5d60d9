use Rattle.inliner_tool.proofs.Remade.{unfit_so}
use Rattle.inliner_tool.proofs.inline.inlined.Goals as goal

pub returns-in-Err-clause-unfit : goal.returns-in-Err-clause-unfit
returns-in-Err-clause-unfit c = rw (c.unfit.ensures) (unfit_so c.args.client c.args.policy.now c.args.mode c.in-Err.fault c.in-Err.ensures.exact)
