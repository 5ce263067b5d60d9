-- What is woven of a sound program is the program with blocks in its methods, and with conspec/State after its classes.
-- (docs/TRANSPARENCY.md)
use Rattle.std.specs.Prelude.{◌≡◌, List, Bool}
use Rattle.api_listing.specs.BuiltIn.{object}
use Rattle.bytecode_model.specs.declared.program.Program.{Program}
use Rattle.bytecode_model.specs.Sound.{IsSound}
use Rattle.conspec_tree.specs.declared.types.Var.{Var}
use Rattle.class_weaving.specs.Outcome.{IsWoven}
use Rattle.class_weaving.specs.Woven.{AllLocalsFit, plan_sites}
use Rattle.guest_erasing.specs.Adding.{AddsState}
use Rattle.offset_patch.specs.Plan.{IsGood, Plan}

abbrev pub WovenAddsState : Type 0
WovenAddsState =
    (old new : Program) (plan : Plan) (kinds : List Bool) (vars : List Var) → IsSound old → IsGood kinds plan
    → AllLocalsFit plan old → (woven : IsWoven old plan vars new)
    → woven.state.parent ≡ object → AddsState (plan_sites plan) old new
