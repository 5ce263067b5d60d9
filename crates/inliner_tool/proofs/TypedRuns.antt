-- How linked programs with types run.
use Rattle.std.proofs.Common.{◌≡◌, Option, Some, None, Result, Ok, Err, refl}
use Rattle.std.specs.Prelude.{IfOk, IsSome, option_map}
use Rattle.bytecode_model.specs.declared.program.Program.{Program}
use Rattle.bytecode_model.specs.Sound.{IsSound}
use Rattle.bytecode_model.specs.LinkedClasses.{AreLiterals}
use Rattle.bytecode_model.specs.Targets.{AreNamed}
use Rattle.conspec_automaton.specs.Building.{built}
use Rattle.conspec_parse.specs.Telling.{KindsAreTold, ResultsAreTold}
use Rattle.guest_model.specs.Enabled.{StepsAreEnabled}
use Rattle.guest_model.specs.Numbers.{KeepsWords}
use Rattle.guest_model.specs.Runs.{exec}
use Rattle.guest_model.specs.Stepping.{changed}
use Rattle.typed_runs.specs.Formed.{PoliciesTellTypes, SeesWellFormed}
use Rattle.typed_runs.specs.Programs.{IsTypedProgram}
use Rattle.typed_runs.specs.Runs.{NeverStuck, RunsFit}
use Rattle.inliner_tool.specs.Running.{LinkedRunTyped}
use Rattle.inliner_tool.proofs.Listed.{tells_types}

-- what a value is made of
made_of : {A B : Type 0} (f : A → B) (o : Option A) → IsSome {T = B} (option_map f o) → (a : A) × (o ≡ Some a)
made_of f None some = absurd cc
made_of f (Some a) some = (a, refl)

module _ (fit : RunsFit) (made : NeverStuck) (enabled : StepsAreEnabled) (formed : SeesWellFormed) (tell : PoliciesTellTypes) (kinds : KindsAreTold) (results : ResultsAreTold)
    (words : (program : Program) → IsSound program → AreNamed program → AreLiterals program → KeepsWords program) where
  pub runs_typed : LinkedRunTyped
  runs_typed program typing is typed =
      let known : IsTypedProgram program typing = record { links = is; typed = typed } in
      record {
        typed = typed;
        fits = fit program typing known;
        moves = λ steps step. (
          made program typing known steps step,
          λ some.
              let change = made_of _ (changed program (exec program steps) step) some in
              enabled program (exec program steps) step change.0 change.1,
        );
        formed = λ tree of. formed program typing (built tree) known (tells_types tell kinds results is.text program.listing tree is.listed of);
        words = words program is.sound is.linked.named is.linked.literals;
      }

-- what is so whatever a call gives
pub so_of_any : {A E : Type 0} (Q : Type 0) (r : Result A E) → Q → IfOk r (λ x. Q)
so_of_any Q (Ok x) so = so
so_of_any Q (Err e) so = tt
