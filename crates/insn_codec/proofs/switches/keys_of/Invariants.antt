use Rattle.std.proofs.Common.{◌≡◌, map, take}
use Rattle.insn_codec.proofs.switches.keys_of.Given as goal

abbrev pub invariant-loop-one : goal.invariant-loop-one
invariant-loop-one l = l.keys ≡ map (λ one. one.key) (take l.one-index l.cases)
