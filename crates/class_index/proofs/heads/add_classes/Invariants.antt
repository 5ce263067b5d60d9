use Rattle.std.proofs.Common.{◌≡◌, ◌++◌, take}
use Rattle.class_index.proofs.heads.add_classes.Given as goal

abbrev pub invariant-loop-class : goal.invariant-loop-class
invariant-loop-class l = l.classes ≡ l.fn.classes ++ take l.class-index l.others
