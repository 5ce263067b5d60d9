use Rattle.std.proofs.Common.{◌≡◌, take, true}
use Rattle.std.specs.List.{list_all}
use Rattle.bytecode_model.specs.Conditions.{is_above}
use Rattle.class_linking.proofs.class_conditions.are_above.Given as goal

abbrev pub invariant-loop-name : goal.invariant-loop-name
invariant-loop-name l = list_all (is_above l.heads) (take l.name-index l.names) ≡ true
