use Rattle.std.proofs.Common.{◌≡◌, ◌∙◌, sym, ap}
use Rattle.cert_format.specs.declared.typing.VType.{VType}
use Rattle.type_lattice.specs.Merging.{merged}
use Rattle.type_infer.proofs.Lists.{if_ok}
use Rattle.type_infer.proofs.Merging.{merged_itself}
use Rattle.type_infer.proofs.types.type_joined.Goals as goal

pub returns-then-is_same_type : goal.returns-then-is_same_type
returns-then-is_same_type c =
    let program = c.args.program.now in
    let a = c.args.a.now in
    let same : a ≡ c.args.b.now = c.is_same_type.ensures.0 c.if-is_same_type.true in
    if_ok c.share.result (λ (t : VType). t ≡ a) (λ (t : VType). t ≡ merged program a c.args.b.now)
    (λ t e. e ∙ sym (merged_itself program a) ∙ ap (merged program a) same) c.share.ensures
