-- What is answered to a check. (docs/COMMANDS.md)
use Rattle.std.specs.Prelude.{◌≡◌, ℕ, codes, List, Option, Some, None, Result, Ok, Err}
use Rattle.std.specs.Option.{option_map_or}
use Rattle.bytecode_model.specs.declared.program.Program.{Program}
use Rattle.bytecode_model.specs.declared.program.Side.TheVariants.{Inlined}
use Rattle.cert_checker.specs.declared.checking.Accepted.{Accepted}
use Rattle.cert_checker.specs.declared.fault.CheckFault.{CheckFault}
use Rattle.cert_checker.specs.declared.fault.CheckFault.TheVariants.{Shape, StateClass, Typing, Local}
use Rattle.block_logic.specs.Annotations.{annotations_of}
use Rattle.block_logic.specs.Obeying.{EventsAreLocked}
use Rattle.block_logic.specs.Outside.{LeavesBlocks}
use Rattle.cert_checker.specs.declared.judging.Denial.{Denial}
use Rattle.cert_checker.specs.declared.judging.Denial.TheVariants as denials
use Rattle.cert_checker.specs.Judging.{IsAllowed, judged}
use Rattle.cert_checker.specs.Secure.{Secure}
use Rattle.cert_format.specs.declared.certificate.Certificate.{Certificate}
use Rattle.cert_format.specs.declared.certificate.Mode.TheVariants.{Hold}
use Rattle.conspec_automaton.specs.declared.policy.Policy.{Policy}
use Rattle.conspec_automaton.specs.Building.{built}
use Rattle.conspec_tree.specs.declared.types.PolicyTree.{PolicyTree}
use Rattle.inliner_tool.specs.declared.answer.Answer.TheVariants as answers
use Rattle.inliner_tool.specs.declared.answer.Made.{Made}
use Rattle.inliner_tool.specs.declared.refusal.Ended.{Ended}
use Rattle.inliner_tool.specs.declared.refusal.Ended.TheVariants as ends
use Rattle.command_inputs.specs.Forms.{Then}
use Rattle.command_inputs.specs.declared.check_inputs.CheckInputs.{CheckInputs}
use Rattle.command_inputs.specs.Named.{IsPolicyOf}
use Rattle.inliner_tool.specs.declared.check.Checked.{Checked}
use Rattle.inliner_tool.specs.declared.refusal.Refusal.TheVariants as refusals
use Rattle.inliner_tool.specs.Classes.{label_of}
use Rattle.inliner_tool.specs.Programs.{program_of}
use Rattle.inliner_tool.specs.Race.{racy}
use Rattle.inliner_tool.specs.Running.{RunsTyped}
use Rattle.inliner_tool.specs.Steps.{Equals, Just, Step}

-- the number of the class that a fault is told of, if it is of one
abbrev pub faulty_class : CheckFault → Option ℕ
faulty_class (Shape class method) = Some class
faulty_class (Typing class method at rule) = Some class
faulty_class (StateClass field) = None
faulty_class (Local class method at rule) = Some class

abbrev pub label_for : Program → CheckFault → List ℕ
label_for program fault = option_map_or (λ (class : ℕ). label_of program class) (faulty_class fault) (codes "-")

-- why a program is not accepted: with the name of the class that a fault is told of; of races, with what shows them
abbrev pub denied : PolicyTree → Program → Denial → Ended
denied policy program (denials.Fault fault) = ends.Refused (refusals.Denied fault (label_for program fault))
denied policy program (denials.CellLimit first second count) = ends.Refused (refusals.CellLimit first second count)
denied policy program (denials.Racy condition state first second) = ends.Refused (racy policy program.listing condition state first second)
denied policy program denials.Memory = ends.Memory

abbrev pub verdict_step : PolicyTree → Program → Result Accepted Denial → Step Accepted
verdict_step policy program (Ok accepted) = Ok accepted
verdict_step policy program (Err denial) = Err (denied policy program denial)

-- what the program is accepted as with the certificate, or why it is not
abbrev pub judged_step : PolicyTree → Certificate → Program → Step Accepted
judged_step policy certificate program = verdict_step policy program (judged program (built policy) certificate)

-- This links to a program that is accepted with the certificate.
abbrev pub ChecksLinked : PolicyTree → Certificate → Step Program → Step Made → Type 0
ChecksLinked policy certificate linked =
    Then (Equals linked) (λ program.
    Then (Equals (judged_step policy certificate program)) (λ accepted.
    Just (answers.Accepted accepted)))

abbrev pub link_inputs : List ℕ → CheckInputs → Step Program
link_inputs main inputs = program_of inputs.listing inputs.classes main Inlined

-- The class files link to a program that is accepted with the certificate.
abbrev pub Checks : List ℕ → CheckInputs → Step Made → Type 0
Checks main inputs = ChecksLinked inputs.policy inputs.certificate (link_inputs main inputs)

-- The program is accepted with the certificate, and obeys the policy for every list of guest steps, as its mode promises; in mode
-- hold each event with a clause is of the thread that holds the lock; an error that a Java machine throws in a block leads out of
-- it; and the program runs as the certificate types it.
pub record ProgramIsChecked (policy : PolicyTree) (certificate : Certificate) (program : Program) : Type 0 where
  pub accepted : IsAllowed program (built policy) certificate
  pub secure : Secure certificate.mode program (built policy)
  pub locked : certificate.mode ≡ Hold → EventsAreLocked program (built policy)
  pub errors : LeavesBlocks program (built policy) (annotations_of certificate)
  pub read : IsPolicyOf program.listing policy
  pub runs : RunsTyped program certificate.typing

-- It is checked so with the automaton of the policy, and was accepted as this.
pub record ProgramIsCheckedAs (tree : PolicyTree) (certificate : Certificate) (program : Program) (policy : Policy) (accepted : Accepted) : Type 0 where
  pub policy_is : policy ≡ built tree
  pub accepts : judged_step tree certificate program ≡ Ok accepted
  pub checked : ProgramIsChecked tree certificate program

-- The inputs link to the program, which is checked so.
pub record IsCheckedAs (main : List ℕ) (inputs : CheckInputs) (checked : Checked) : Type 0 where
  pub links : link_inputs main inputs ≡ Ok checked.program
  pub is : ProgramIsCheckedAs inputs.policy inputs.certificate checked.program checked.policy checked.accepted

-- The inputs link to such a program.
pub record IsChecked (main : List ℕ) (inputs : CheckInputs) : Type 0 where
  pub program : Program
  pub links : link_inputs main inputs ≡ Ok program
  pub checked : ProgramIsChecked inputs.policy inputs.certificate program
