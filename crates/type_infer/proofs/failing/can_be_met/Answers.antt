use Rattle.std.proofs.Common.{subst, sym}
use Rattle.bytecode_model.specs.Rules.{Frames}
use Rattle.type_infer.specs.Untyped.{AreMet}
use Rattle.type_infer.proofs.failing.can_be_met.Goals as goal

pub returns-clause-unmet : goal.returns-clause-unmet
returns-clause-unmet c fails ready (above, met) =
    let scope = c.args.body.now in
    let solution = c.in_ok-frames.ensures.solved above (record { ready = ready; some = c.requires; met = met }) in
    c.rows_met.ensures.unmet fails
    (subst (λ (frames : Frames). AreMet scope.program scope.own scope.class scope.method c.args.n frames) (sym c.as_slice.ensures) solution.met)
