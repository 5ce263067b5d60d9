use Rattle.std.proofs.Common.{◌≡◌, ◌++◌, take, map}
use Rattle.std.specs.List.{AllByRecursion}
use Rattle.insn_codec.specs.Fits.{IsInsn}
use Rattle.offset_patch.specs.Splicing.{put}
use Rattle.offset_patch.proofs.splicing.put_part.Given as goal

abbrev pub invariant-loop-insn : goal.invariant-loop-insn
invariant-loop-insn l = record {
  so_far : l.out ≡ l.fn.out ++ map (put l.fn.entries l.fronts l.begin l.own) (take l.insn-index l.part);
  each : AllByRecursion IsInsn l.fn.out → AllByRecursion IsInsn l.out;
  entries : l.entries ≡ l.fn.entries;
}
