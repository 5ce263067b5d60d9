use Rattle.std.proofs.Common.{◌≡◌, ◌+◌, true, length}
use Rattle.std.specs.List.{AllByRecursion}
use Rattle.class_codec.specs.Fits.{FitsMember}
use Rattle.class_linking.specs.Fault.{linked_from}
use Rattle.class_linking.specs.Known.{AreRemembered}
use Rattle.class_linking.specs.Linking.{method_linked}
use Rattle.bytecode_model.specs.Sound.{IsSoundMethod}
use Rattle.class_linking.proofs.Loop.{with_front}
use Rattle.class_linking.proofs.methods.each_linked.Given as goal

abbrev pub invariant-loop-left : goal.invariant-loop-left
invariant-loop-left l = record {
  so_far : with_front l.methods.items (linked_from (method_linked l.index.files l.index.listing l.file) l.number l.left) ≡ linked_from (method_linked l.index.files l.index.listing l.file) 0 l.file.methods;
  count : l.number + length l.left ≡ length l.file.methods;
  fits : AllByRecursion (FitsMember l.file.pool true) l.left;
  sound : AllByRecursion IsSoundMethod l.methods.items;
  known : AreRemembered l.index.files l.index.listing l.file.pool l.known;
}

abbrev pub decreases-loop-left : goal.decreases-loop-left
decreases-loop-left l = length l.left
