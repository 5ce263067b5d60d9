use Rattle.std.proofs.Common.{◌≡◌, ℕ, ◌++◌, List, length, map, take, ap, ◌∙◌, arith}
use Rattle.std.proofs.lemmas.Grind.{common_steps}
use Rattle.cert_format.specs.declared.typing.VType.{VType}
use Rattle.code_typing.specs.Changing.{change_told}
use Rattle.bytecode_model.specs.Makes.{changed, below, topmost, yields}
use Rattle.bytecode_model.specs.Rules.{taken}
use Rattle.bytecode_model.specs.Wants.{takes}
use Rattle.frame_types.proofs.Counting.{map_same}
use Rattle.code_typing.proofs.after.stack_after.Goals as goal

pub returns : goal.returns
returns c =
    let place = c.args.place.now in
    let frame = c.args.frame.now in
    let change = c.change_of-change.result in
    let top : c.split_top.result.1.now ≡ taken place frame =
    c.split_top.ensures.topmost ∙ ap (topmost c.count_taken.result) c.as_slice.ensures ∙ ap (λ (n : ℕ). topmost n frame.stack) c.count_taken.ensures in
    let rest : c.split_top.result.0.now ≡ below (length (takes place)) frame.stack =
    c.split_top.ensures.below ∙ ap (below c.count_taken.result) c.as_slice.ensures ∙ ap (λ (n : ℕ). below n frame.stack) c.count_taken.ensures in
    let told : (t : VType) → change_told change t ≡ changed place (taken place frame) t =
    λ t. c.change_of-change.ensures t ∙ ap (λ (s : List VType). changed place s t) top in
    let all : take c.loop-t.t-index c.split_top.result.0.now ≡ c.split_top.result.0.now = grind (arith, common_steps) in
    let kept : c.loop-t.stack ≡ map (changed place (taken place frame)) (below (length (takes place)) frame.stack) =
    c.loop-t.invariant ∙ ap (map (change_told change)) (all ∙ rest) ∙ map_same _ _ told _ in
    let pushed : yields place c.as_slice-2.result.now c.split_top.result.1.now ≡ yields place frame.locals (taken place frame) =
    ap (λ (l : List VType). yields place l c.split_top.result.1.now) c.as_slice-2.ensures ∙ ap (yields place frame.locals) top in
    c.in_ok-push_yields.ensures ∙ ap (λ (l : List VType). l ++ yields place c.as_slice-2.result.now c.split_top.result.1.now) kept
    ∙ ap (λ (l : List VType). map (changed place (taken place frame)) (below (length (takes place)) frame.stack) ++ l) pushed
