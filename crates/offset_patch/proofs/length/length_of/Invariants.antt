use Rattle.std.proofs.Common.{◌≡◌, ◌+◌, ◌*◌, ◌≤◌, ◌^◌, length}
use Rattle.std.specs.List.{AllByRecursion}
use Rattle.insn_codec.specs.Fits.{IsInsn}
use Rattle.offset_patch.specs.Fits.{IsSite}
use Rattle.offset_patch.specs.Length.{end_from, length_of}
use Rattle.offset_patch.proofs.length.length_of.Given as goal

abbrev pub invariant-loop-own : goal.invariant-loop-own
invariant-loop-own l = record {
  so_far : end_from l.at l.own l.left ≡ length_of l.insns l.sites;
  bound : l.at + 2 ^ 40 * length l.own ≤ 2 ^ 40 * length l.insns;
  own : AllByRecursion IsInsn l.own;
  sites : AllByRecursion IsSite l.left;
}

abbrev pub decreases-loop-own : goal.decreases-loop-own
decreases-loop-own l = length l.own
