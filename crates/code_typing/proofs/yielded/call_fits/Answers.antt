use Rattle.std.proofs.Common.{Option, sym, ap, ◌∙◌}
use Rattle.std.specs.Prelude.{option_map}
use Rattle.cert_format.specs.declared.typing.VType.{VType}
use Rattle.bytecode_model.specs.Borrowing.{type_borrowed}
use Rattle.bytecode_model.specs.Makes.{call_yields}
use Rattle.bytecode_model.specs.Rules.{stack_fits}
use Rattle.code_typing.proofs.StacksOver.{none_fit}
use Rattle.code_typing.proofs.yielded.call_fits.Goals as goal

pub returns-in_default : goal.returns-in_default
returns-in_default c =
    let program = c.args.program.now in
    let to = c.args.to.now in
    c.is_empty.ensures ∙ none_fit program to
    ∙ ap (λ (t : Option VType). stack_fits program (call_yields t) to) (sym (ap (option_map type_borrowed) c.in_default.is) ∙ c.result_type.ensures)
