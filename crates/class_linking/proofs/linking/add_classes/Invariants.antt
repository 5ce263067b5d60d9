use Rattle.std.proofs.Common.{◌≡◌, ◌+◌, ◌++◌, length}
use Rattle.class_linking.specs.Linking.{classes_with}
use Rattle.class_linking.proofs.linking.add_classes.Given as goal

abbrev pub invariant-loop : goal.invariant-loop
invariant-loop l = record {
  so_far : l.classes.items ++ classes_with l.files.items l.methods.items ≡ l.fn.classes.items ++ classes_with l.fn.files.items l.fn.methods.items;
  count : l.counter + length l.files.items ≡ length l.fn.files.items;
}
