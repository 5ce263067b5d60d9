use Rattle.std.proofs.Common.{◌≡◌, ◌+◌, length}
use Rattle.std.specs.List.{AllByRecursion}
use Rattle.class_codec.specs.Fits.{IsEncodable}
use Rattle.class_linking.specs.Linking.{main_from}
use Rattle.class_linking.proofs.linking.main_of.Given as goal

abbrev pub invariant-loop-left : goal.invariant-loop-left
invariant-loop-left l = record {
  so_far : main_from l.class l.left l.main ≡ main_from 0 l.files l.main;
  count : l.class + length l.left ≡ length l.files;
  fits : AllByRecursion IsEncodable l.left;
}

abbrev pub decreases-loop-left : goal.decreases-loop-left
decreases-loop-left l = length l.left
