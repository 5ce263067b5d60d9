-- What lifting gives, and what each of its answers says. (docs/TRANSPARENCY.md)
use Rattle.std.specs.Prelude.{◌≡◌, ◌⊎◌, ℕ, List, ◌∷◌, ◌++◌, [], length, map, Option, Some, None, Result, Ok, Err, IsOk, true}
use Rattle.api_listing.specs.declared.events.Event.{Event}
use Rattle.bytecode_model.specs.declared.program.Program.{Program}
use Rattle.cert_format.specs.declared.certificate.Mode.{Mode}
use Rattle.cert_format.specs.declared.certificate.Mode.TheVariants.{Hold}
use Rattle.conspec_automaton.specs.declared.policy.Policy.{Policy}
use Rattle.conspec_automaton.specs.Next.{Values, next}
use Rattle.event_record.specs.declared.writing.Line.{Line}
use Rattle.event_record.specs.RunLines.{AreLinesOf}
use Rattle.guest_model.specs.declared.machine.Machine.{Machine}
use Rattle.guest_model.specs.declared.machine.Step.{Step}
use Rattle.guest_model.specs.Runs.{exec, start_of, trace}
use Rattle.guest_model.specs.Stepping.{stepped}
use Rattle.guest_erasing.specs.Accepted.{AreApart, IsAcceptedRun}
use Rattle.guest_erasing.specs.Lifting.{lifted}
use Rattle.guest_erasing.specs.Runs.{AreMadeFrom}
use Rattle.lift_schedule.specs.declared.fault.LiftFault.{LiftFault}
use Rattle.lift_schedule.specs.declared.fault.LiftFault.TheVariants as faults
use Rattle.lift_schedule.specs.declared.lifting.Lifted.{Lifted}
use Rattle.lift_schedule.specs.Lifting.{blocks_in, lift_of}

abbrev pub steps_of : List Line → List Step
steps_of lines = map (λ (line : Line). line.step) lines

module _ (policy : Policy) (mode : Mode) (client woven : Program) where
  -- the steps of the woven program for these of the client
  abbrev pub lifted_steps : List Step → List Step
  lifted_steps steps = lifted (blocks_in policy mode) client woven steps

  -- The steps are a run of the client that the policy accepts, and the lines are those of the lifted one.
  pub record IsLiftOf (steps : List Step) (run : Lifted) : Type 0 where
    pub accepted : IsAcceptedRun policy mode client steps run.client.state
    pub client_is : run.client.machine ≡ exec client steps
    pub steps_are : steps_of run.woven.lines ≡ lifted_steps steps
    pub lines_are : AreLinesOf woven run.woven.lines
    pub woven_is : run.woven.machine ≡ exec woven (lifted_steps steps)

  -- Those before the step of this index are such a run, and this is said of them, of the state in which they leave the policy, and of
  -- the step.
  pub record StopsAt (steps : List Step) (index : ℕ) (Why : List Step → Values → Step → Type 0) : Type 0 where
    pub before : List Step
    pub step : Step
    pub later : List Step
    pub whole : steps ≡ before ++ step ∷ later
    pub place : length before ≡ index
    pub state : Values
    pub accepted : IsAcceptedRun policy mode client before state
    pub why : Why before state step

  -- The client does not make it, or the woven program does not make what it is lifted to.
  abbrev pub IsNotMade : List Step → Values → Step → Type 0
  IsNotMade before state step =
      (stepped client (exec client before) step ≡ None)
      ⊎ (AreMadeFrom woven (start_of woven) (lifted_steps (before ++ step ∷ [])) → ⊥)

  -- It is made, and the policy refuses what is seen of it.
  abbrev pub IsRefused : List Step → Values → Step → Type 0
  IsRefused before state step =
      (made : Machine) × (event : Event) × (stepped client (exec client before) step ≡ Some (made, Some event))
      × (next policy state event ≡ None)

  -- It is made, and in mode hold a call of a method with clauses begins by it while another is under way.
  abbrev pub IsOverlapping : List Step → Values → Step → Type 0
  IsOverlapping before state step = (mode ≡ Hold) × (AreApart mode policy (trace client (before ++ step ∷ [])) → ⊥)

  -- what each answer says
  abbrev pub TellsLift : List Step → Result Lifted LiftFault → Type 0
  TellsLift steps (Ok run) = IsLiftOf steps run
  TellsLift steps (Err (faults.NotEnabled index)) = StopsAt steps index IsNotMade
  TellsLift steps (Err (faults.Disobeys index)) = StopsAt steps index IsRefused
  TellsLift steps (Err (faults.Overlaps index)) = StopsAt steps index IsOverlapping
  TellsLift steps (Err faults.Memory) = ⊥

  -- A run that the policy accepts is lifted, where the woven program makes the lifted steps.
  abbrev pub LiftsAccepted : List Step → Type 0
  LiftsAccepted steps =
      (end : Values) → IsAcceptedRun policy mode client steps end → AreMadeFrom woven (start_of woven) (lifted_steps steps)
      → IsOk (lift_of policy mode client woven steps)

-- So is every list of steps.
abbrev pub LiftsAreTold : Type 0
LiftsAreTold =
    (policy : Policy) (mode : Mode) (client woven : Program) (steps : List Step)
    → TellsLift policy mode client woven steps (lift_of policy mode client woven steps) × LiftsAccepted policy mode client woven steps
