use Rattle.std.proofs.Common.{List, map, sym, ap, ◌∙◌}
use Rattle.cert_format.specs.declared.typing.VType.{VType}
use Rattle.bytecode_model.specs.Rules.{stack_fits}
use Rattle.code_typing.specs.declared.change.Change.{Change}
use Rattle.code_typing.specs.Changing.{change_told}
use Rattle.code_typing.proofs.Arriving.{unchanged}
use Rattle.code_typing.proofs.following.kept_fit.Goals as goal

pub returns-in-Nothing : goal.returns-in-Nothing
returns-in-Nothing c =
    let program = c.args.program.now in
    let from = c.args.from.now in
    let to = c.args.to.now in
    c.all_fit.ensures
    ∙ sym (ap (λ (change : Change). stack_fits program (map (change_told change) from) to) c.in-Nothing.is ∙ ap (λ (l : List VType). stack_fits program l to) (unchanged from))
