use Rattle.std.proofs.Common.{◌≡◌, ◌++◌, replicate}
use Rattle.cert_format.specs.declared.typing.VType.TheVariants.{Top}
use Rattle.woven_typing.proofs.roles.put_tops.Given as goal

abbrev pub invariant-loop-left : goal.invariant-loop-left
invariant-loop-left l = l.out ++ replicate l.left Top ≡ l.fn.out ++ replicate l.n Top

abbrev pub decreases-loop-left : goal.decreases-loop-left
decreases-loop-left l = l.left
