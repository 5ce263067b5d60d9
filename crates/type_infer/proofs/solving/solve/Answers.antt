use Rattle.std.proofs.Common.{◌≡◌, ◌∙◌, ◌<◌, subst, sym, ap}
use Rattle.bytecode_model.specs.Rules.{Frames}
use Rattle.type_infer.specs.Solving.{State, AreFound, Grows, IsSolution, IsSolved, unmarked}
use Rattle.type_infer.proofs.Lists.{if_ok}
use Rattle.type_infer.proofs.Meeting.{solution}
use Rattle.type_infer.proofs.Solutions.{step_holds}
use Rattle.type_infer.proofs.solving.solve.Goals as goal

pub loop-init : goal.loop-init
loop-init c = record {
  frames = c.in_ok-worklist.ensures.frames;
  marks = c.in_ok-worklist.ensures.marks;
  holds = λ above met. c.in_ok-worklist.ensures.holds c.args.limit above met;
}

pub loop-preserved : goal.loop-preserved
loop-preserved c =
    let scope = c.args.body.now in
    let at = c.in-Some.at in
    let old = c.loop.worklist in
    let new = c.look_at.new.worklist in
    let look = c.in_ok-look_at.ensures in
    let is : c.next.new.self ≡ unmarked old at = c.in-Some.ensures.looked_at in
    let within : at < c.args.limit = c.in-Some.ensures.within in
    record {
      frames = look.each.frames;
      marks = look.each.marks;
      holds = λ above met.
          let laws = c.laws_hold.ensures scope.program met.ready.order in
          step_holds scope laws c.args.limit above old new at (c.loop.invariant.holds above met) (subst (λ (s : State). Grows scope.program s new) is (look.grows met.ready))
          (λ found. look.found met.ready above (met.met at within) (subst (AreFound scope above) (sym is) found))
          (λ found. look.done met.ready above (met.met at within) (subst (AreFound scope above) (sym is) found));
    }

pub returns-in_default-clause-solved : goal.returns-in_default-clause-solved
returns-in_default-clause-solved c =
    let scope = c.args.body.now in
    if_ok c.into_list.result (λ (frames : Frames). frames ≡ c.into_frames.result.items) (IsSolved scope c.args.limit)
    (λ frames e above met.
    let laws = c.laws_hold.ensures scope.program met.ready.order in
    let are : frames ≡ c.loop.worklist.frames = e ∙ c.into_frames.ensures ∙ ap (λ (s : State). s.frames) c.in_default.ensures.none in
    subst (IsSolution scope c.args.limit above) (sym are) (solution scope laws c.args.limit above met c.loop.worklist (c.loop.invariant.holds above met) c.in_default.ensures.over))
    c.into_list.ensures.same
