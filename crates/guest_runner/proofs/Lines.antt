-- What one line more makes of a run.
use Rattle.std.proofs.Common.{◌≡◌, ℕ, suc, ◌<◌, List, [], ◌∷◌, ◌++◌, get_or, Option, Some, refl, sym, ap, subst, ◌∙◌}
use Rattle.std.specs.List.{AllByRecursion}
use Rattle.std.specs.Option.{option_map_or}
use Rattle.std.proofs.lemmas.List.{append-nil, append_assoc}
use Rattle.api_listing.specs.declared.events.Event.{Event}
use Rattle.api_shelf.specs.Telling.{Log}
use Rattle.bytecode_model.specs.declared.program.Program.{Program}
use Rattle.guest_model.specs.declared.machine.Machine.{Machine}
use Rattle.guest_model.specs.declared.machine.Step.{Step}
use Rattle.guest_model.specs.LibraryCalls.{answered_by, answered_from}
use Rattle.guest_model.specs.Runs.{exec_from, stepped_or_same}
use Rattle.guest_model.specs.Stepping.{stepped}
use Rattle.event_record.specs.declared.writing.Line.{Line}
use Rattle.event_record.specs.RunLines.{AreLinesFrom}
use Rattle.guest_runner.specs.Book.{steps_of}

-- ---- steps

pub steps_more : (lines : List Line) (line : Line) → steps_of (lines ++ line ∷ []) ≡ steps_of lines ++ line.step ∷ []
steps_more [] line = refl
steps_more (l ∷ lines) line = ap (λ (ss : List Step). l.step ∷ ss) (steps_more lines line)

pub exec_more : (program : Program) (steps : List Step) (machine : Machine) (step : Step)
    → exec_from program machine (steps ++ step ∷ []) ≡ stepped_or_same program (exec_from program machine steps) step
exec_more program [] machine step = refl
exec_more program (s ∷ steps) machine step = exec_more program steps (stepped_or_same program machine s) step

pub answered_more : (program : Program) (steps : List Step) (machine : Machine) (step : Step)
    → answered_from program machine (steps ++ step ∷ [])
    ≡ answered_from program machine steps ++ answered_by program (exec_from program machine steps) step.thread step.choice
answered_more program [] machine step = append-nil (answered_by program machine step.thread step.choice)
answered_more program (s ∷ steps) machine step =
    ap (λ (pairs : Log). answered_by program machine s.thread s.choice ++ pairs) (answered_more program steps (stepped_or_same program machine s) step)
    ∙ sym
    (append_assoc (answered_by program machine s.thread s.choice) (answered_from program (stepped_or_same program machine s) steps)
    (answered_by program (exec_from program (stepped_or_same program machine s) steps) step.thread step.choice))

-- a step that is made leads to this machine
pub leads : (program : Program) (machine after : Machine) (step : Step) (event : Option Event) → stepped program machine step ≡ Some (after, event)
    → stepped_or_same program machine step ≡ after
leads program machine after step event made =
    ap (λ (o : Option (Machine × Option Event)). option_map_or (λ (m : Machine × Option Event). m.0) o machine) made

-- ---- lists

-- all are so, where those before the last are, and the last is
pub all_more : {A : Type 0} (P : A → Type 0) (xs : List A) (x : A) → AllByRecursion P xs → P x → AllByRecursion P (xs ++ x ∷ [])
all_more P [] x all here = (here, tt)
all_more P (y ∷ xs) x all here = (all.0, all_more P xs x all.1 here)

-- what fits a byte at each place is bytes
pub all_bytes : (text : List ℕ) → ((i : ℕ) → get_or text i 0 < 256) → AllByRecursion (λ b. b < 256) text
all_bytes [] each = tt
all_bytes (b ∷ text) each = (each 0, all_bytes text (λ i. each (suc i)))

-- ---- lines

pub lines_more : (program : Program) (lines : List Line) (machine after : Machine) (line : Line) → AreLinesFrom program machine lines
    → stepped program (exec_from program machine (steps_of lines)) line.step ≡ Some (after, line.event)
    → AreLinesFrom program machine (lines ++ line ∷ [])
lines_more program [] machine after line are made = (after, made, tt)
lines_more program (l ∷ lines) machine after line are made =
    let next = leads program machine are.0 l.step l.event are.1 in
    let here : stepped program (exec_from program are.0 (steps_of lines)) line.step ≡ Some (after, line.event) =
    subst (λ (m : Machine). stepped program (exec_from program m (steps_of lines)) line.step ≡ Some (after, line.event)) next made in
    (are.0, are.1, lines_more program lines are.0 after line are.2 here)
