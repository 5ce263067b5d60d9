use Rattle.std.proofs.Common.{◌≡◌, take, true}
use Rattle.std.specs.List.{list_all}
use Rattle.class_codec.specs.declared.tree.Member.{Member}
use Rattle.bytecode_model.specs.Heads.{is_static}
use Rattle.class_linking.proofs.class_conditions.are_static.Given as goal

abbrev pub invariant-loop-field : goal.invariant-loop-field
invariant-loop-field l = list_all (λ (m : Member). is_static m.flags) (take l.field-index l.fields) ≡ true
