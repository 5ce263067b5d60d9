use Rattle.std.proofs.Common.{◌≡◌, Bool, true, false, List, length, take, drop, map, sym, ap, ◌∙◌}
use Rattle.std.specs.Prelude.{◌&&◌}
use Rattle.cert_format.specs.declared.typing.VType.{VType}
use Rattle.code_typing.specs.Changing.{change_told}
use Rattle.bytecode_model.specs.Makes.{yields}
use Rattle.bytecode_model.specs.InsnPlace.{InsnPlace}
use Rattle.bytecode_model.specs.Rules.{stack_fits}
use Rattle.code_typing.proofs.Fitting.{joined, too_short}
use Rattle.code_typing.proofs.following.stack_takes.Goals as goal

pub returns-then-to-left : goal.returns-then-to-left
returns-then-to-left c = sym (too_short c.args.place.now.program (change_told c.args.left.now.change) c.args.left.now.kept.now _ c.args.to.now c.if-to-left.true)

pub returns-then-kept_fit : goal.returns-then-kept_fit
returns-then-kept_fit c =
    let program = c.args.place.now.program in
    let kept : List VType = map (change_told c.args.left.now.change) c.args.left.now.kept.now in
    let pushed : List VType = yields c.args.place.now c.args.left.now.locals.now c.args.left.now.taken.now in
    let to = c.args.to.now in
    let n = length c.args.left.now.kept.now in
    let lower : stack_fits program kept (take n to) ≡ true =
    ap (λ (p : InsnPlace). stack_fits p.program kept (take n to)) (sym c.place.view_is)
    ∙ ap (stack_fits c.place.inside.program.now kept) (sym c.split_at.ensures.front) ∙ sym c.if-kept_fit.ensures in
    let parts = joined program (change_told c.args.left.now.change) c.args.left.now.kept.now pushed to in
    c.yields_fit.ensures ∙ ap (stack_fits program pushed) c.split_at.ensures.back
    ∙ sym (parts ∙ ap (λ (b : Bool). b && stack_fits program pushed (drop n to)) lower)

pub returns-else-kept_fit : goal.returns-else-kept_fit
returns-else-kept_fit c =
    let program = c.args.place.now.program in
    let kept : List VType = map (change_told c.args.left.now.change) c.args.left.now.kept.now in
    let pushed : List VType = yields c.args.place.now c.args.left.now.locals.now c.args.left.now.taken.now in
    let to = c.args.to.now in
    let n = length c.args.left.now.kept.now in
    let lower : stack_fits program kept (take n to) ≡ false =
    ap (λ (p : InsnPlace). stack_fits p.program kept (take n to)) (sym c.place.view_is)
    ∙ ap (stack_fits c.place.inside.program.now kept) (sym c.split_at.ensures.front) ∙ sym c.if-kept_fit.ensures in
    let parts = joined program (change_told c.args.left.now.change) c.args.left.now.kept.now pushed to in
    c.if-kept_fit.false ∙ sym (parts ∙ ap (λ (b : Bool). b && stack_fits program pushed (drop n to)) lower)
