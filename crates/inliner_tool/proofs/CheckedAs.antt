-- What is made where a program was checked.
use Rattle.std.proofs.Common.{◌≡◌, ℕ, List, Ok, Err, ap, refl, subst, sym}
use Rattle.std.specs.Prelude.{IfOk}
use Rattle.bytecode_model.specs.declared.program.Program.{Program}
use Rattle.cert_checker.specs.declared.checking.Accepted.{Accepted}
use Rattle.cert_checker.specs.Judging.{judged}
use Rattle.cert_format.specs.declared.certificate.Certificate.{Certificate}
use Rattle.conspec_automaton.specs.Building.{built}
use Rattle.conspec_tree.specs.declared.types.PolicyTree.{PolicyTree}
use Rattle.command_inputs.specs.declared.check_inputs.CheckInputs.{CheckInputs}
use Rattle.command_inputs.specs.Forms.{Then}
use Rattle.inliner_tool.specs.declared.answer.Answer.TheVariants as answers
use Rattle.inliner_tool.specs.declared.check.Checked.{Checked}
use Rattle.inliner_tool.specs.declared.refusal.Ended.{Ended}
use Rattle.inliner_tool.specs.Check.{Checks, ChecksLinked, IsCheckedAs, ProgramIsCheckedAs, judged_step, link_inputs, verdict_step}
use Rattle.inliner_tool.specs.Steps.{Equals, Just, Step, UnlessMemory, just}
use Rattle.inliner_tool.proofs.Planning.{first_fails, later}

-- The program is accepted so.
pub judged_so : (tree : PolicyTree) (certificate : Certificate) (program : Program) (accepted : Accepted) → judged program (built tree) certificate ≡ Ok accepted
    → judged_step tree certificate program ≡ Ok accepted
judged_so tree certificate program accepted is = ap (verdict_step tree program) is

-- The inputs link to the program that was checked.
pub checked_so : (main : List ℕ) (inputs : CheckInputs) (linked : Step Program) (result : Step Checked) → UnlessMemory (Equals (link_inputs main inputs)) linked
    → IfOk result (λ (c : Checked). linked ≡ Ok c.program) → IfOk result (λ (c : Checked). ProgramIsCheckedAs inputs.policy inputs.certificate c.program c.policy c.accepted) → IfOk result (IsCheckedAs main inputs)
checked_so main inputs linked (Ok c) told links is = record { links = sym (subst (λ (l : Step Program). UnlessMemory (Equals (link_inputs main inputs)) l) links told); is = is }
checked_so main inputs linked (Err ended) told links is = tt

-- All steps are done.
pub accepted_so : (main : List ℕ) (inputs : CheckInputs) (checked : Checked) → IsCheckedAs main inputs checked → Checks main inputs (Ok (just (answers.Accepted checked.accepted)))
accepted_so main inputs checked is = (checked.program, sym is.links, (checked.accepted, sym is.is.accepts, refl))

module _ (policy : PolicyTree) (certificate : Certificate) (step : Step Program) where
  -- the files do not link
  pub unlinked : (e : Ended) → UnlessMemory (Equals step) (Err e) → UnlessMemory (ChecksLinked policy certificate step) (Err e)
  unlinked e told =
      first_fails (Equals step) (λ program. Then (Equals (judged_step policy certificate program)) (λ accepted. Just (answers.Accepted accepted))) e told

  -- they do, and the program is not accepted
  pub unaccepted : (program : Program) → Equals step (Ok program) → (e : Ended) → UnlessMemory (Equals (judged_step policy certificate program)) (Err e) → UnlessMemory (ChecksLinked policy certificate step) (Err e)
  unaccepted program links e told =
      later (Equals step) (λ program. Then (Equals (judged_step policy certificate program)) (λ accepted. Just (answers.Accepted accepted))) program links (Err e)
      (first_fails (Equals (judged_step policy certificate program)) (λ accepted. Just (answers.Accepted accepted)) e told)
