use Rattle.std.proofs.Common.{◌≡◌, ℕ, length, ap, ◌∙◌}
use Rattle.bytecode_model.specs.Makes.{below, topmost}
use Rattle.bytecode_model.specs.Rules.{taken}
use Rattle.bytecode_model.specs.Wants.{takes}
use Rattle.code_typing.proofs.Arriving.{left_goes}
use Rattle.code_typing.proofs.following.goes_well.Goals as goal

pub returns : goal.returns
returns c =
    let place = c.args.place.now in
    let frame = c.args.frame.now in
    let kept = c.split_top.result.0.now in
    let top = c.split_top.result.1.now in
    let taken_same : top ≡ taken place frame =
    c.split_top.ensures.topmost ∙ ap (topmost c.count_taken.result) c.as_slice.ensures ∙ ap (λ (n : ℕ). topmost n frame.stack) c.count_taken.ensures in
    let rest : kept ≡ below (length (takes place)) frame.stack =
    c.split_top.ensures.below ∙ ap (below c.count_taken.result) c.as_slice.ensures ∙ ap (λ (n : ℕ). below n frame.stack) c.count_taken.ensures in
    c.frame_takes.ensures
    ∙ left_goes place frame c.change_of.result c.as_slice-2.result.now kept top c.as_slice-2.ensures rest taken_same c.change_of.ensures c.args.to.now
