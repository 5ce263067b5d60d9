use Rattle.class_index.specs.Library.{IsShared, AreShared}
use Rattle.class_index.proofs.library.add_steps.Given as goal

abbrev pub invariant-loop : goal.invariant-loop
invariant-loop l = record {
  known : AreShared l.owners l.classes l.shared;
  here : IsShared l.owners l.classes l.shared.lists l.at (record { place = l.place; height = l.height });
}
