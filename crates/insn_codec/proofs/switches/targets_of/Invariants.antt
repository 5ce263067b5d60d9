use Rattle.std.proofs.Common.{◌≡◌, map, take}
use Rattle.insn_codec.proofs.switches.targets_of.Given as goal

abbrev pub invariant-loop-one : goal.invariant-loop-one
invariant-loop-one l = l.targets ≡ map (λ one. one.to) (take l.one-index l.cases)
