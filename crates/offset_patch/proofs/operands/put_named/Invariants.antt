use Rattle.std.proofs.Common.{◌≡◌, ◌++◌, take, map}
use Rattle.offset_patch.specs.Splicing.{part_named}
use Rattle.offset_patch.proofs.operands.put_named.Given as goal

abbrev pub invariant-loop-insn : goal.invariant-loop-insn
invariant-loop-insn l = l.named ≡ l.fn.named ++ map (part_named l.state l.own) (take l.insn-index l.part)
