-- Which thread makes the next step, where threads take turns. (docs/RUNS.md)
use Rattle.std.specs.Prelude.{◌≡◌, ◌↔◌, ◌-◌, ◌++◌, ℕ, true, List, length, find, nat_lt, Option, Some, None, IsSome, if◌then◌else◌}
use Rattle.std.specs.List.{range_with_len}
use Rattle.bytecode_model.specs.declared.program.Program.{Program}
use Rattle.guest_model.specs.declared.machine.Choice.TheVariants.{Plain}
use Rattle.guest_model.specs.declared.machine.Machine.{Machine}
use Rattle.guest_model.specs.declared.machine.Step.{Step}
use Rattle.guest_model.specs.Asking.{is_enabled}
use Rattle.guest_model.specs.Enabled.{IsEnabled}
use Rattle.guest_model.specs.Ending.{end_of}
use Rattle.guest_model.specs.LibraryCalls.{call_asked}
use Rattle.guest_model.specs.Runs.{exec}
use Rattle.guest_model.specs.Stepping.{stepped}

-- The numbers of so many threads, from the first on and then those before it. A first that is none of them counts as 0.
abbrev pub turns_from : ℕ → ℕ → List ℕ
turns_from first count =
    if nat_lt first count then range_with_len first (count - first) ++ range_with_len 0 first else range_with_len 0 count

-- the first thread from this number on, cyclically, that can make a step
abbrev pub next_enabled : Program → Machine → ℕ → Option ℕ
next_enabled program machine first = find (is_enabled program machine) (turns_from first (length machine.threads))

-- Whatever the steps are, each that the rules enable after them is made. (`RunsTyped` of the programs that have types)
abbrev pub MakesWhatIsEnabled : Program → Type 0
MakesWhatIsEnabled program =
    (steps : List Step) (step : Step) → IsEnabled program (exec program steps) step → IsSome (stepped program (exec program steps) step)

-- ---- what it is

-- The thread that is found can make a step; and none is found exactly where the machine has ended.
pub record FindsTheEnabled (program : Program) (machine : Machine) (first : ℕ) : Type 0 where
  pub can : (number : ℕ) → next_enabled program machine first ≡ Some number → is_enabled program machine number ≡ true
  pub ends : next_enabled program machine first ≡ None ↔ IsSome (end_of program machine)

abbrev pub TurnsFindTheEnabled : Type 0
TurnsFindTheEnabled = (program : Program) (machine : Machine) (first : ℕ) → FindsTheEnabled program machine first

-- A thread that can make a step and asks the library nothing makes a plain one.
abbrev pub WhoAsksNothingGoes : Type 0
WhoAsksNothingGoes =
    (program : Program) (machine : Machine) (number : ℕ) → is_enabled program machine number ≡ true → call_asked program machine number ≡ None
    → IsEnabled program machine (record { thread = number; choice = Plain })
