use Rattle.std.proofs.Common.{◌≡◌, length}
use Rattle.std.specs.List.{fold, flat_map}
use Rattle.bytecode_model.specs.Places.{NamesPlaced}
use Rattle.bytecode_model.specs.Operands.{strings_in}
use Rattle.bytecode_model.specs.SearchOrder.{with_name}
use Rattle.bytecode_model.proofs.literals.add_files.Given as goal

abbrev pub invariant-loop-left : goal.invariant-loop-left
invariant-loop-left l = record {
  placed : NamesPlaced l.places l.texts;
  so_far : fold with_name l.texts (flat_map strings_in l.left) ≡ fold with_name l.fn.texts (flat_map strings_in l.files);
}

abbrev pub decreases-loop-left : goal.decreases-loop-left
decreases-loop-left l = length l.left
