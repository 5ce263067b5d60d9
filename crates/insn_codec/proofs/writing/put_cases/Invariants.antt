use Rattle.std.proofs.Common.{◌≡◌, ◌++◌, drop}
use Rattle.std.specs.List.{flat_map}
use Rattle.insn_codec.specs.Encoding.{case, cases}
use Rattle.insn_codec.specs.Writing.{all_far}
use Rattle.insn_codec.proofs.writing.put_cases.Given as goal

abbrev pub invariant-loop-i : goal.invariant-loop-i
invariant-loop-i l = (all_far l.starts l.at (drop l.i l.targets) ≡ all_far l.starts l.at l.targets)
    × (l.out ++ flat_map (case l.starts l.at) (cases (drop l.i l.keys) (drop l.i l.targets)) ≡ l.fn.out ++ flat_map (case l.starts l.at) (cases l.keys l.targets))
