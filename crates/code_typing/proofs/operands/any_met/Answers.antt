use Rattle.std.proofs.Common.{sym}
use Rattle.code_typing.proofs.Fitting.{any_met}
use Rattle.code_typing.proofs.operands.any_met.Goals as goal

pub returns : goal.returns
returns c = rw c.from.ensures (sym (any_met c.args.count c.args.types.now))
