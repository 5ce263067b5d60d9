use Rattle.std.proofs.Common.{◌≡◌, ◌++◌, length}
use Rattle.std.specs.List.{flat_map}
use Rattle.conspec_parse.proofs.method.push_params.Given as goal

abbrev pub invariant-loop-left : goal.invariant-loop-left
invariant-loop-left l = l.desc ++ flat_map (λ p. p.desc) l.left ≡ l.initial.desc ++ flat_map (λ p. p.desc) l.params

abbrev pub decreases-loop-left : goal.decreases-loop-left
decreases-loop-left l = length l.left
