use Rattle.std.proofs.Common.{◌≡◌, ◌∙◌, List, Some, ap, sym, refl}
use Rattle.bytecode_model.specs.declared.program.LinkedClass.{LinkedClass}
use Rattle.bytecode_model.specs.declared.program.Program.{Program}
use Rattle.block_logic.specs.Annotations.{annotations_of}
use Rattle.block_logic.specs.Accepted.{IsAccepted}
use Rattle.block_logic.specs.State.{state_fault}
use Rattle.cert_checker.specs.Acceptance.{notes_fault, shape_fault}
use Rattle.cert_checker.proofs.Accepting.{is_noted, is_shaped, nothing_found}
use Rattle.cert_checker.proofs.Security.{IsGiven, Laws, locked, secure}
use Rattle.cert_checker.proofs.checking.examine.Goals as goal

pub returns-in-Some-clause-ok : goal.returns-in-Some-clause-ok
returns-in-Some-clause-ok c = (
  λ e. absurd cc,
  λ accepted.
      let none = is_shaped c.args.program.now c.args.policy.now c.args.certificate.now accepted in
      let found : shape_fault c.args.program.now c.args.certificate.now ≡ Some (c.in-Some.class, c.in-Some.method) = sym (c.shape_fault.ensures ∙ ap (λ (p : Program). shape_fault p c.args.certificate.now) c.program-linked.ensures) ∙ c.in-Some.is in
      absurd cc,
)

pub returns-in-Some-state_fault-clause-ok : goal.returns-in-Some-state_fault-clause-ok
returns-in-Some-state_fault-clause-ok c = (
  λ e. absurd cc,
  λ accepted.
      let none = accepted.state in
      let classes : c.as_slice.result.now ≡ c.args.program.now.classes = c.as_slice.ensures ∙ ap (λ (p : Program). p.classes) c.program-linked.ensures in
      let found = sym (c.state_fault.ensures ∙ ap (λ (cs : List LinkedClass). state_fault cs c.args.policy.now) classes) ∙ c.in-Some-state_fault.is in
      absurd cc,
)

pub returns-in-Some-notes_fault-clause-ok : goal.returns-in-Some-notes_fault-clause-ok
returns-in-Some-notes_fault-clause-ok c = (
  λ e. absurd cc,
  λ accepted.
      let none = is_noted c.args.program.now c.args.policy.now c.args.certificate.now accepted in
      let found = sym (c.notes_fault.ensures ∙ ap (λ (p : Program). notes_fault p c.args.policy.now c.args.certificate.now) c.program-linked.ensures) ∙ c.in-Some-notes_fault.is in
      absurd cc,
)

-- what no test has found anything in is accepted
accepted_here : (c : goal.After-sites_of) → IsAccepted c.args.program.now c.args.policy.now c.args.certificate.now
accepted_here c =
    let program = c.args.program.now in
    let policy = c.args.policy.now in
    let certificate = c.args.certificate.now in
    let shaped = sym (c.shape_fault.ensures ∙ ap (λ (p : Program). shape_fault p certificate) c.program-linked.ensures) ∙ c.in_default.is in
    let classes : c.as_slice.result.now ≡ program.classes = c.as_slice.ensures ∙ ap (λ (p : Program). p.classes) c.program-linked.ensures in
    let state = sym (c.state_fault.ensures ∙ ap (λ (cs : List LinkedClass). state_fault cs policy) classes) ∙ c.in_default-state_fault.is in
    let noted = sym (c.notes_fault.ensures ∙ ap (λ (p : Program). notes_fault p policy certificate) c.program-linked.ensures) ∙ c.in_default-notes_fault.is in
    nothing_found program policy certificate shaped (c.in_default-check_typing.ensures.ok.0 refl) state noted

pub returns-clause-ok : goal.returns-clause-ok
returns-clause-ok c = (λ e. accepted_here c, λ accepted. refl)

laws_here : goal.After-sites_of → Laws
laws_here c = record {
  obeys = c.accepted_obeys.ensures.obeys;
  held = c.accepted_obeys.ensures.held;
  begin = c.typed_is_closed.ensures.begin;
  next = c.typed_is_closed.ensures.next;
  caught = c.typed_is_closed.ensures.caught;
  formed = c.events_are_well_formed.ensures.formed;
  words = c.sees_numbers_in_range.ensures.locals;
}

given_here : (c : goal.After-sites_of) → IsGiven c.args.program.now c.args.policy.now
given_here c = record {
  linked = c.requires.linked;
  good = c.requires.policy;
  named = c.requires.named;
  told = c.requires.told;
}

pub returns-clause-secure : goal.returns-clause-secure
returns-clause-secure c =
    λ e. secure (laws_here c) c.args.program.now c.args.policy.now c.args.certificate.now (given_here c) (accepted_here c)

pub returns-clause-locked : goal.returns-clause-locked
returns-clause-locked c =
    λ e. locked (laws_here c) c.args.program.now c.args.policy.now c.args.certificate.now (given_here c) (accepted_here c)

pub returns-clause-leaves_blocks : goal.returns-clause-leaves_blocks
returns-clause-leaves_blocks c =
    λ e. c.errors_leave_blocks.ensures.leaves c.args.program.now c.args.policy.now (annotations_of c.args.certificate.now) (accepted_here c)
