use Rattle.std.proofs.Common.{List, subst}
use Rattle.guest_model.specs.declared.machine.Step.{Step as GuestStep}
use Rattle.command_inputs.specs.Forms.{Then}
use Rattle.inliner_tool.specs.Programs.{Types}
use Rattle.inliner_tool.specs.Replay.{link_run, steps_told}
use Rattle.inliner_tool.specs.Steps.{Equals, UnlessMemory}
use Rattle.inliner_tool.proofs.Planning.{later}
use Rattle.inliner_tool.proofs.replay.told.Goals as goal

pub returns-clause-tells : goal.returns-clause-tells
returns-clause-tells c =
    let program = c.in_ok-program.program in
    later (Equals (link_run c.args.main.now c.args.inputs)) (λ p. Then (Types p) (λ typing. Equals (steps_told p c.args.inputs.recorded.steps))) program c.in_ok-program.ensures.is c.typed_told-told.result
    (subst (λ (s : List GuestStep). UnlessMemory (Then (Types program) (λ typing. Equals (steps_told program s))) c.typed_told-told.result) c.as_slice.ensures c.typed_told-told.ensures.tells)
