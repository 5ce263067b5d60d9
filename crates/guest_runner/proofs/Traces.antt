-- What is seen of a book's lines is the trace of their steps, each of which is enabled in its place.
use Rattle.std.proofs.Common.{◌≡◌, List, [], ◌∷◌, ◌++◌, Option, Some, None, refl, sym, ap, subst, ◌∙◌}
use Rattle.std.specs.List.{filter_map}
use Rattle.std.specs.Option.{option_map_or, option_to_list}
use Rattle.api_listing.specs.declared.events.Event.{Event}
use Rattle.bytecode_model.specs.declared.program.Program.{Program}
use Rattle.event_record.specs.declared.writing.Line.{Line}
use Rattle.event_record.specs.RunLines.{AreLinesFrom}
use Rattle.guest_model.specs.declared.machine.Machine.{Machine}
use Rattle.guest_model.specs.Changes.{Change, applied}
use Rattle.guest_model.specs.Enabled.{StepsAreEnabled}
use Rattle.guest_model.specs.Runs.{seen, start_of, stepped_or_same, trace_from}
use Rattle.guest_model.specs.Stepping.{changed}
use Rattle.guest_model.proofs.Options.{map_of}
use Rattle.guest_runner.specs.Book.{steps_of}
use Rattle.guest_runner.specs.Runs.{AreEnabled, RunsAreTraces}
use Rattle.guest_runner.proofs.Lines.{leads}

abbrev events_in : List Line → List Event
events_in lines = filter_map (λ (line : Line). line.event) lines

one_event : (line : Line) (lines : List Line) → option_to_list line.event ++ events_in lines ≡ events_in (line ∷ lines)
one_event line lines = by line.event refl where
  by : (o : Option Event) → line.event ≡ o → option_to_list line.event ++ events_in lines ≡ events_in (line ∷ lines)
  by None is = rw is refl
  by (Some event) is = rw is refl

pub trace_is : (program : Program) (lines : List Line) (machine : Machine) → AreLinesFrom program machine lines
    → trace_from program machine (steps_of lines) ≡ events_in lines
trace_is program [] machine are = refl
trace_is program (line ∷ lines) machine are =
    let saw : seen program machine line.step ≡ option_to_list line.event =
    ap (λ (o : Option (Machine × Option Event)). option_map_or (λ (made : Machine × Option Event). option_to_list made.1) o []) are.1 in
    let next = leads program machine are.0 line.step line.event are.1 in
    let rest = trace_is program lines are.0 are.2 in
    ap (λ (es : List Event). es ++ trace_from program (stepped_or_same program machine line.step) (steps_of lines)) saw
    ∙ ap (λ (m : Machine). option_to_list line.event ++ trace_from program m (steps_of lines)) next
    ∙ ap (λ (es : List Event). option_to_list line.event ++ es) rest
    ∙ one_event line lines

are_enabled : StepsAreEnabled → (program : Program) (lines : List Line) (machine : Machine) → AreLinesFrom program machine lines
    → AreEnabled program machine (steps_of lines)
are_enabled law program [] machine are = tt
are_enabled law program (line ∷ lines) machine are =
    let next = leads program machine are.0 line.step line.event are.1 in
    let made = map_of (λ (change : Change). (applied line.step.thread machine change, change.event)) (changed program machine line.step) (are.0, line.event) are.1 in
    (law program machine line.step made.0 made.1, subst (λ (m : Machine). AreEnabled program m (steps_of lines)) (sym next) (are_enabled law program lines are.0 are.2))

pub traced : StepsAreEnabled → RunsAreTraces
traced law book run = record {
  enabled = are_enabled law book.program book.lines (start_of book.program) run.keeps.lines;
  events = sym (trace_is book.program book.lines (start_of book.program) run.keeps.lines);
}
