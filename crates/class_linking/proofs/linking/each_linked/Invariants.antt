use Rattle.std.proofs.Common.{◌≡◌, ℕ, List, length}
use Rattle.std.specs.List.{AllByRecursion}
use Rattle.class_codec.specs.declared.tree.ClassFile.{ClassFile}
use Rattle.class_codec.specs.Fits.{IsEncodable}
use Rattle.api_listing.specs.declared.types.Listing.{Listing}
use Rattle.bytecode_model.specs.declared.program.Method.{Method}
use Rattle.class_linking.specs.Fault.{linked_from}
use Rattle.class_linking.specs.Linking.{methods_linked}
use Rattle.bytecode_model.specs.Sound.{IsSoundMethod}
use Rattle.class_linking.proofs.Loop.{with_front}
use Rattle.class_linking.proofs.linking.each_linked.Given as goal

-- these classes are made of the files before the others, which stand from `at` on
pub record IsAt (files : List ClassFile) (listing : Listing) (some : List ClassFile) (classes : List (List Method)) (left : List ClassFile) (at : ℕ) : Type 0 where
  pub so_far : with_front classes (linked_from (λ i. methods_linked files listing) at left) ≡ linked_from (λ i. methods_linked files listing) 0 some
  pub fit : AllByRecursion IsEncodable left
  pub sound : AllByRecursion (AllByRecursion IsSoundMethod) classes

abbrev pub invariant-loop-left : goal.invariant-loop-left
invariant-loop-left l = (at : ℕ) × IsAt l.index.files l.index.listing l.files l.classes.items l.left at

abbrev pub decreases-loop-left : goal.decreases-loop-left
decreases-loop-left l = length l.left
