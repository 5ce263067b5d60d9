use Rattle.std.proofs.Common.{◌-◌, List, map, sym, ap, ◌∙◌}
use Rattle.cert_format.specs.declared.typing.VType.{VType}
use Rattle.bytecode_model.specs.Described.{Descriptor, type_described}
use Rattle.bytecode_model.specs.Makes.{type_at}
use Rattle.bytecode_model.specs.Rules.{locals_fit}
use Rattle.code_typing.specs.Steps.{after_fit}
use Rattle.frame_types.proofs.Describing.{types_some, types_end, types_over}
use Rattle.code_typing.proofs.Describing.{fit_some, fit_none}
use Rattle.code_typing.proofs.entry.arguments_fit.Goals as goal

pub returns-in_default : goal.returns-in_default
returns-in_default c =
    c.are_top.ensures
    ∙ sym (ap (λ (t : List Descriptor). locals_fit c.args.program.now (type_at (map type_described t)) 0 c.loop.to.now) (types_end (255 - c.loop.counter) c.loop.text.now (sym c.in_default.ensures)))
    ∙ c.loop.invariant

pub returns-in_default-after_fit : goal.returns-in_default-after_fit
returns-in_default-after_fit c =
    let program = c.args.program.now in
    let to = c.loop.to.now in
    let step = types_some 255 c.loop.counter c.loop.text.now _ c.loop-test.true (sym c.in-Some.ensures) in
    let none = ap (λ (t : VType). after_fit program t to) (sym c.type_described.ensures) ∙ sym c.in_default-after_fit.ensures in
    sym (ap (λ (t : List Descriptor). locals_fit program (type_at (map type_described t)) 0 to) step ∙ fit_none program _ _ to none) ∙ c.loop.invariant

pub loop-preserved : goal.loop-preserved
loop-preserved c =
    let program = c.args.program.now in
    let to = c.loop.to.now in
    let step = types_some 255 c.loop.counter c.loop.text.now _ c.loop-test.true (sym c.in-Some.ensures) in
    let some = ap (λ (t : VType). after_fit program t to) (sym c.type_described.ensures) ∙ sym c.in-Some-after_fit.ensures in
    sym (ap (λ (t : List Descriptor). locals_fit program (type_at (map type_described t)) 0 to) step ∙ fit_some program _ _ to _ some) ∙ c.loop.invariant

pub returns : goal.returns
returns c =
    c.are_top-2.ensures
    ∙ sym (ap (λ (t : List Descriptor). locals_fit c.args.program.now (type_at (map type_described t)) 0 c.loop.to.now) (types_over 255 c.loop.counter c.loop.text.now c.loop-test.false))
    ∙ c.loop.invariant
