use Rattle.std.proofs.Common.{◌≡◌, Ok, ap, subst, sym}
use Rattle.mon_base.specs.Reading.{◌>>=◌}
use Rattle.class_weaving.specs.declared.woven.Woven.{Woven}
use Rattle.offset_patch.specs.Fault.{Fitting}
use Rattle.woven_linking.specs.declared.inlining.Inlined.{Inlined}
use Rattle.woven_linking.specs.Program.{program_with}
use Rattle.lift_schedule.specs.Lifting.{lift_of}
use Rattle.inliner_tool.specs.Lift.{blocks_step, lift_told}
use Rattle.inliner_tool.specs.Steps.{Equals, UnlessMemory}
use Rattle.inliner_tool.specs.Weaving.{weave_step}
use Rattle.inliner_tool.proofs.Planning.{later}
use Rattle.inliner_tool.proofs.lift.given_told.Goals as goal

pub returns : goal.returns
returns c =
    let given = c.args.given in
    let steps = c.args.steps in
    let beside = c.in-Ok.ensures.encodes in
    let program = program_with given.client beside.files.files beside.files.methods in
    let is : blocks_step given.client given.policy given.mode ≡ Ok program =
    ap (λ (w : Fitting Woven). weave_step w >>= λ made. Ok (program_with given.client made.files made.methods)) beside.woven in
    later (Equals (blocks_step given.client given.policy given.mode)) (λ woven. Equals (lift_told woven (lift_of given.policy given.mode given.client woven steps))) program (sym is)
    c.inlined_told-told.result
    (subst (λ (i : Inlined). UnlessMemory (Equals (lift_told i.program (lift_of given.policy i.mode given.client i.program steps))) c.inlined_told-told.result) beside.is
    c.inlined_told-told.ensures)
