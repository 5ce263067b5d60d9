use Rattle.std.proofs.Common.{◌≡◌, ◌+◌, ◌++◌, length}
use Rattle.std.specs.List.{AllByRecursion}
use Rattle.insn_codec.specs.Fits.{IsInsn}
use Rattle.offset_patch.specs.Entries.{IsThere}
use Rattle.offset_patch.specs.Fits.{IsSite}
use Rattle.offset_patch.specs.Splicing.{parts_from, count_of, wants_of}
use Rattle.offset_patch.proofs.splicing.parts.Given as goal

abbrev pub invariant-loop-own : goal.invariant-loop-own
invariant-loop-own l = record {
  so_far : l.out ++ parts_from l.fn.entries l.fronts l.begin l.own l.left ≡ parts_from l.fn.entries l.fronts 0 l.insns l.sites;
  own : AllByRecursion IsInsn l.own;
  sites : AllByRecursion IsSite l.left;
  out : AllByRecursion IsInsn l.out;
  entries : l.entries ≡ l.fn.entries;
  there : AllByRecursion (IsThere l.fn.entries) (wants_of l.left);
  count : l.begin + count_of l.left ≡ count_of l.sites;
}

abbrev pub decreases-loop-own : goal.decreases-loop-own
decreases-loop-own l = length l.own
