use Rattle.std.proofs.Common.{◌≡◌, length}
use Rattle.std.specs.List.{AllByRecursion}
use Rattle.class_codec.specs.Fits.{IsEncodable}
use Rattle.class_text.specs.Shown.{shown, with_front}
use Rattle.class_text.proofs.printing.push_classes.Given as goal

abbrev pub invariant-loop-left : goal.invariant-loop-left
invariant-loop-left l = record {
  so_far : with_front l.out (shown l.library l.left) ≡ with_front l.fn.out (shown l.library l.files);
  fits : AllByRecursion IsEncodable l.left;
}

abbrev pub decreases-loop-left : goal.decreases-loop-left
decreases-loop-left l = length l.left
