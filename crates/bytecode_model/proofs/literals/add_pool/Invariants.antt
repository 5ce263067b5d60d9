use Rattle.std.proofs.Common.{◌≡◌, length}
use Rattle.std.specs.List.{fold, filter_map}
use Rattle.bytecode_model.specs.Places.{NamesPlaced}
use Rattle.bytecode_model.specs.Operands.{text_of_string}
use Rattle.bytecode_model.specs.SearchOrder.{with_name}
use Rattle.bytecode_model.proofs.literals.add_pool.Given as goal

abbrev pub invariant-loop-left : goal.invariant-loop-left
invariant-loop-left l = record {
  placed : NamesPlaced l.places l.texts;
  so_far : fold with_name l.texts (filter_map (text_of_string l.pool) l.left) ≡ fold with_name l.fn.texts (filter_map (text_of_string l.pool) l.constants);
}

abbrev pub decreases-loop-left : goal.decreases-loop-left
decreases-loop-left l = length l.left
