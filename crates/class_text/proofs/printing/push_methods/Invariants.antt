use Rattle.std.proofs.Common.{◌≡◌, ◌+◌, true, length}
use Rattle.std.specs.List.{AllByRecursion}
use Rattle.class_codec.specs.Fits.{FitsMember}
use Rattle.class_text.specs.Shown.{texts_from, method_shown, with_front}
use Rattle.class_text.proofs.printing.push_methods.Given as goal

abbrev pub invariant-loop-left : goal.invariant-loop-left
invariant-loop-left l = record {
  so_far : with_front l.out (texts_from (method_shown l.library l.file) l.number l.left) ≡ with_front l.fn.out (texts_from (method_shown l.library l.file) 0 l.file.methods);
  count : l.number + length l.left ≡ length l.file.methods;
  fits : AllByRecursion (FitsMember l.file.pool true) l.left;
}

abbrev pub decreases-loop-left : goal.decreases-loop-left
decreases-loop-left l = length l.left
