use Rattle.std.proofs.Common.{◌≡◌, take, false}
use Rattle.std.specs.List.{list_any}
use Rattle.bytecode_model.specs.Conditions.{names_own_class}
use Rattle.class_linking.proofs.class_conditions.any_names_own_class.Given as goal

abbrev pub invariant-loop-constant : goal.invariant-loop-constant
invariant-loop-constant l = list_any names_own_class (take l.constant-index l.pool) ≡ false
