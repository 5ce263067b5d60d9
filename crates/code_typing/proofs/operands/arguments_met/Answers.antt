use Rattle.std.proofs.Common.{◌-◌, ◌+◌, List, map, sym, ap, ◌∙◌}
use Rattle.bytecode_model.specs.Described.{Descriptor, types_at}
use Rattle.bytecode_model.specs.Wants.{all_met, to_described}
use Rattle.frame_types.proofs.Describing.{types_some, types_end, types_over}
use Rattle.code_typing.proofs.Describing.{met_some, met_none}
use Rattle.code_typing.proofs.operands.arguments_met.Goals as goal

pub loop-preserved : goal.loop-preserved
loop-preserved c =
    let program = c.args.program.now in
    let types = c.loop.types.now in
    let step = types_some 255 c.loop.counter c.loop.text.now _ c.loop-test.true (sym c.in-Some.ensures) in
    sym (ap (λ (t : List Descriptor). all_met (map (to_described program) t) types) step ∙ met_some program c.in-Some.desc.now (types_at (255 - (c.loop.counter + 1)) c.in-Some.following.now) types _ (sym c.in-Some-after_met.ensures)) ∙ c.loop.invariant

pub returns-in_default : goal.returns-in_default
returns-in_default c =
    c.none_wanted.ensures
    ∙ sym (ap (λ (t : List Descriptor). all_met (map (to_described c.args.program.now) t) c.loop.types.now) (types_end (255 - c.loop.counter) c.loop.text.now (sym c.in_default.ensures)))
    ∙ c.loop.invariant

pub returns-in_default-after_met : goal.returns-in_default-after_met
returns-in_default-after_met c =
    let program = c.args.program.now in
    let types = c.loop.types.now in
    let step = types_some 255 c.loop.counter c.loop.text.now _ c.loop-test.true (sym c.in-Some.ensures) in
    sym (ap (λ (t : List Descriptor). all_met (map (to_described program) t) types) step ∙ met_none program c.in-Some.desc.now (types_at (255 - (c.loop.counter + 1)) c.in-Some.following.now) types (sym c.in_default-after_met.ensures)) ∙ c.loop.invariant

pub returns : goal.returns
returns c =
    c.none_wanted-2.ensures
    ∙ sym (ap (λ (t : List Descriptor). all_met (map (to_described c.args.program.now) t) c.loop.types.now) (types_over 255 c.loop.counter c.loop.text.now c.loop-test.false))
    ∙ c.loop.invariant
