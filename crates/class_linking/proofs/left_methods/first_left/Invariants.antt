use Rattle.std.proofs.Common.{◌≡◌, length}
use Rattle.std.specs.Prelude.{find, option_map}
use Rattle.std.specs.List.{flat_map}
use Rattle.mon_base.specs.declared.method.MethodId.{MethodId}
use Rattle.bytecode_model.specs.LeftMethods.{asked_by_named, is_left}
use Rattle.class_linking.proofs.left_methods.first_left.Given as goal

abbrev pub invariant-loop-left : goal.invariant-loop-left
invariant-loop-left l =
    option_map (λ (id : MethodId). id.name) (find (is_left l.index.files l.index.listing l.supers) (flat_map (asked_by_named l.index.files) l.left))
    ≡ option_map (λ (id : MethodId). id.name) (find (is_left l.index.files l.index.listing l.supers) (flat_map (asked_by_named l.index.files) l.order))

abbrev pub decreases-loop-left : goal.decreases-loop-left
decreases-loop-left l = length l.left
