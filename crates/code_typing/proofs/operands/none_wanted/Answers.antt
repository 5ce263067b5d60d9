use Rattle.std.proofs.Common.{◌≡◌, List, [], ◌∷◌, length, refl, ◌∙◌, rules, tests}
use Rattle.std.specs.Prelude.{◌==◌}
use Rattle.cert_format.specs.declared.typing.VType.{VType}
use Rattle.bytecode_model.specs.Wants.{all_met}
use Rattle.code_typing.proofs.operands.none_wanted.Goals as goal

none_met : (types : List VType) → (length types == 0) ≡ all_met [] types
none_met [] = refl
none_met (t ∷ types) = search (rules, tests)

pub returns : goal.returns
returns c = c.is_empty.ensures ∙ none_met c.args.types.now
