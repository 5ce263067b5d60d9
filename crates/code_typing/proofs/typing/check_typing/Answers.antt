use Rattle.std.proofs.Common.{◌≡◌, Option, Some, None, refl, sym, ◌∙◌}
use Rattle.code_typing.specs.declared.fault.TypeFault.{TypeFault}
use Rattle.code_typing.proofs.Faults.{typed_of, none_of}
use Rattle.code_typing.proofs.typing.check_typing.Goals as goal

pub returns-in-Some-clause-ok : goal.returns-in-Some-clause-ok
returns-in-Some-clause-ok c = (
  λ e. absurd cc,
  λ typed.
      let none : ◌≡◌ {A = Option TypeFault} (Some c.in-Some.fault) None = c.in-Some.ensures ∙ none_of c.args.program.now c.args.typing.now typed in
      absurd cc,
)

pub returns-in-None-clause-ok : goal.returns-in-None-clause-ok
returns-in-None-clause-ok c = (λ e. typed_of c.args.program.now c.args.typing.now (sym c.in-None.ensures), λ typed. refl)
