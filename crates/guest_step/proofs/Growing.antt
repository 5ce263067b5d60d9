-- How many threads there are after a step.
use Rattle.std.proofs.Common.{◌≡◌, ◌≤◌, suc, length, Option, Some, None, Result, Ok, Err, ap, arith}
use Rattle.std.specs.Prelude.{IfSome}
use Rattle.api_listing.specs.declared.events.Event.{Event}
use Rattle.bytecode_model.specs.declared.program.Program.{Program}
use Rattle.guest_model.specs.declared.fault.StepFault.{StepFault}
use Rattle.guest_model.specs.declared.fault.StepFault.TheVariants as faults
use Rattle.guest_model.specs.declared.machine.Machine.{Machine}
use Rattle.guest_model.specs.declared.machine.Step.{Step}
use Rattle.guest_model.specs.Counting.{StepsAddOne}
use Rattle.guest_model.specs.Did.{Did}
use Rattle.guest_model.specs.Stepping.{stepped}

pub threads_after : StepsAddOne → (program : Program) (old new : Machine) (step : Step) (result : Result (Option Event) StepFault)
    → Did result old new (stepped program old step) → length new.threads ≤ suc (length old.threads)
threads_after law program old new step (Ok event) did = (law program old new step event did).1
threads_after law program old new step (Err faults.NotEnabled) did = let same = ap (λ (m : Machine). length m.threads) did.1 in omega arith
threads_after law program old new step (Err faults.Memory) did = let same = ap (λ (m : Machine). length m.threads) did in omega arith

pub not_apart : {X : Type 0} (P : X → Type 0) (apart : Option X) → apart ≡ None → IfSome apart P
not_apart P None is = tt
not_apart P (Some x) is = absurd cc
