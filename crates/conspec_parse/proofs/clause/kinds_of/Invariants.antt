use Rattle.std.proofs.Common.{◌≡◌, take, map}
use Rattle.conspec_parse.proofs.clause.kinds_of.Given as goal

abbrev pub invariant-loop-param : goal.invariant-loop-param
invariant-loop-param l = l.kinds ≡ map (λ p. p.kind) (take l.param-index l.params)
