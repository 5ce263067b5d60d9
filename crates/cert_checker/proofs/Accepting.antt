-- A program is accepted exactly where no test finds anything.
use Rattle.std.proofs.Common.{◌≡◌, None}
use Rattle.bytecode_model.specs.declared.program.Program.{Program}
use Rattle.bytecode_model.specs.Typed.{IsTyped}
use Rattle.cert_format.specs.declared.certificate.Certificate.{Certificate}
use Rattle.conspec_automaton.specs.declared.policy.Policy.{Policy}
use Rattle.block_logic.specs.Accepted.{IsAccepted}
use Rattle.block_logic.specs.State.{state_fault}
use Rattle.cert_checker.specs.Acceptance.{notes_fault, shape_fault}
use Rattle.cert_checker.proofs.Differing.{none_differ, same_classes}
use Rattle.cert_checker.proofs.Noted.{none_wrong, wrong_none}

module _ (program : Program) (policy : Policy) (certificate : Certificate) where
  pub nothing_found : shape_fault program certificate ≡ None → IsTyped program certificate.typing → state_fault program.classes policy ≡ None
      → notes_fault program policy certificate ≡ None → IsAccepted program policy certificate
  nothing_found shaped typed state noted =
      let shapes = same_classes 0 program.classes certificate.typing.frames certificate.notes shaped in
      record { frames = shapes.0; notes = shapes.1; typed = typed; state = state; noted = none_wrong program policy certificate noted }

  pub is_shaped : IsAccepted program policy certificate → shape_fault program certificate ≡ None
  is_shaped accepted = none_differ 0 program.classes certificate.typing.frames certificate.notes accepted.frames accepted.notes

  pub is_noted : IsAccepted program policy certificate → notes_fault program policy certificate ≡ None
  is_noted accepted = wrong_none program policy certificate accepted.noted
