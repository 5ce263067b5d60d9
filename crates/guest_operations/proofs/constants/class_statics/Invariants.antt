use Rattle.std.proofs.Common.{◌≡◌, map, take}
use Rattle.guest_model.specs.Layout.{starting_value}
use Rattle.guest_operations.proofs.constants.class_statics.Given as goal

abbrev pub invariant-loop-field : goal.invariant-loop-field
invariant-loop-field l = l.values ≡ map (starting_value l.fn.program l.fn.file) (take l.field-index l.field-items)
