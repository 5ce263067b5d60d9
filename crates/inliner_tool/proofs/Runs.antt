-- What the command `run` makes, and what is kept of it.
use Rattle.std.proofs.Common.{◌≡◌, ◌≤◌, inl, inr, ℕ, suc, List, [], ◌∷◌, length, Option, Some, None, Result, Ok, Err, refl, sym, ap, subst, ◌∙◌, arith}
use Rattle.bytecode_model.specs.Typed.{IsTyped}
use Rattle.cert_format.specs.declared.typing.Typing.{Typing}
use Rattle.event_record.specs.declared.reading.Record.{Record}
use Rattle.guest_model.specs.declared.machine.Step.{Step as GuestStep}
use Rattle.inliner_tool.specs.declared.answer.Answer.TheVariants as answers
use Rattle.inliner_tool.specs.Programs.{Types}
use Rattle.command_inputs.specs.Forms.{Then}
use Rattle.inliner_tool.specs.Replay.{link_run}
use Rattle.inliner_tool.proofs.RunDecision.{types_are_found}
use Rattle.type_infer.specs.Untyped.{IsTypable}
use Rattle.std.specs.Prelude.{IfSome, IsOk, IsSomeAnd}
use Rattle.std.specs.List.{filter_map}
use Rattle.api_shelf.specs.Shelf.{View}
use Rattle.bytecode_model.specs.declared.program.Program.{Program}
use Rattle.command_inputs.specs.Words.{NamedRun}
use Rattle.api_listing.specs.declared.events.Event.{Event}
use Rattle.event_record.specs.declared.writing.Line.{Line}
use Rattle.event_record.specs.RunLines.{AreLinesFrom, AreLinesOf, RecordsOfRunsAreReadAgain}
use Rattle.event_record.specs.Writing.{events_text}
use Rattle.guest_model.specs.declared.machine.Machine.{Machine}
use Rattle.guest_model.specs.Ending.{end_of}
use Rattle.guest_model.specs.Runs.{exec, start_of, trace}
use Rattle.guest_model.specs.Turns.{MakesWhatIsEnabled}
use Rattle.guest_replay.specs.declared.replaying.Replayed.{Replayed}
use Rattle.guest_replay.specs.declared.replaying.ReplayFault.{ReplayFault}
use Rattle.guest_replay.specs.Replaying.{AreMade, ReplaysAreRuns, TellsRun, replayed}
use Rattle.guest_runner.specs.Book.{Identity, IsRun, RunView, identity, new_book, steps_of}
use Rattle.event_record.specs.declared.writing.EndLine.{EndLine}
use Rattle.guest_runner.specs.declared.book.RunBook.{RunBook}
use Rattle.guest_runner.specs.declared.running.RunStop.{RunStop}
use Rattle.guest_runner.specs.declared.running.RunStop.TheVariants as stops
use Rattle.guest_runner.specs.Running.{Gives}
use Rattle.guest_runner.specs.Runs.{IsTraced, RunsAreTraces}
use Rattle.command_inputs.specs.declared.check_inputs.CheckInputs.{CheckInputs}
use Rattle.inliner_tool.specs.declared.answer.Made.{Made}
use Rattle.inliner_tool.specs.declared.check.Checked.{Checked}
use Rattle.inliner_tool.specs.declared.refusal.Ended.{Ended}
use Rattle.inliner_tool.specs.Check.{Checks, IsCheckedAs, ProgramIsChecked}
use Rattle.inliner_tool.specs.Run.{Executes, HasBookOrNone, HasStopValue, IsRunAs, IsRunOfInputs, IsWithin, KeepsRun, Runs, RunsAreReplayed, TellsBook, Told, record_made, replay_text, told_by}
use Rattle.inliner_tool.specs.Replay.{end_told, run_told, steps_told}
use Rattle.inliner_tool.specs.Steps.{Equals, Just, Step, UnlessMemory, just}
use Rattle.typed_runs.specs.Programs.{IsLinkedProgram}

-- ---- what is kept

-- What is kept is so, where all that was so is.
pub keeps_too : (P Q : Told → Type 0) → ((told : Told) → P told → Q told) → (kept : Option Told) (result : Step Made) → KeepsRun P kept result → KeepsRun Q kept result
keeps_too P Q so kept (Ok made) (told, is, holds, same) = (told, is, so told holds, same)
keeps_too P Q so None (Err e) keeps = tt
keeps_too P Q so (Some told) (Err e) keeps = so told keeps

pub keeps_nothing : (So : Told → Type 0) (e : Ended) → KeepsRun So None (Err e)
keeps_nothing So e = tt

-- ---- the book

-- Where this is the book, its record is told.
pub tells : (told : Option Told) (book : Told) → told ≡ Some book → (result : Step Made) → UnlessMemory (Equals (Ok (record_made book))) result → UnlessMemory (TellsBook told) result
tells told book is (Ok made) same =
    let made_is : made ≡ record_made book = cc in
    (book, is, made_is)
tells told book is (Err e) (inl wrong) = absurd cc
tells told book is (Err e) (inr memory) = inr memory

module _ {E D : Type 0} (view : RunBook E D → RunView) (named : Identity) where
  -- What a run gives has a book, unless memory ran out.
  pub has_book : (answer : Result (RunBook E D × EndLine) (RunStop E D)) → Gives view named answer → HasBookOrNone answer
  has_book (Ok ended) gives = tt
  has_book (Err (stops.Device book)) gives = tt
  has_book (Err (stops.Mismatch book)) gives = gives
  has_book (Err stops.Memory) gives = tt

  book_so : (answer : Result (RunBook E D × EndLine) (RunStop E D)) → Gives view named answer → IfSome (told_by view answer) HasStopValue
      → IfSome (told_by view answer) (IsRunAs named)
  book_so (Ok ended) gives value = record { of = gives.0; ends = inl gives.1; value = value }
  book_so (Err (stops.Device book)) gives value = record { of = gives.0; ends = inr (gives.1, refl); value = value }
  book_so (Err (stops.Mismatch book)) gives value = tt
  book_so (Err stops.Memory) gives value = tt

  keeps_so : (told : Option Told) → IfSome told (IsRunAs named) → (result : Step Made) → UnlessMemory (TellsBook told) result → KeepsRun (IsRunAs named) told result
  keeps_so None so (Ok made) (book, is, same) = absurd cc
  keeps_so None so (Err e) tells = tt
  keeps_so (Some told) so (Ok made) (book, is, same) =
      let one : told ≡ book = cc in
      (told, refl, so, same ∙ ap record_made (sym one))
  keeps_so (Some told) so (Err e) tells = so

  -- It is kept, and its record is told.
  pub kept_as : (answer : Result (RunBook E D × EndLine) (RunStop E D)) → Gives view named answer → IfSome (told_by view answer) HasStopValue → (kept : Option Told) → kept ≡ told_by view answer → (result : Step Made)
      → UnlessMemory (TellsBook (told_by view answer)) result → KeepsRun (IsRunAs named) kept result
  kept_as answer gives value kept is result tells = subst (λ (k : Option Told). KeepsRun (IsRunAs named) k result) (sym is) (keeps_so (told_by view answer) (book_so answer gives value) result tells)

-- ---- the run

-- The program is run, where its run is kept.
pub executes : (program : Program) (slots : List View) (budget : ℕ) (kept told : Option Told) (result : Step Made) → KeepsRun (IsRunAs (identity (new_book program slots budget))) kept result
    → UnlessMemory (TellsBook told) result → UnlessMemory (Executes program budget) result
executes program slots budget kept told (Ok made) (book, is, run, same) tells =
    (book, record { run = run.of.run; program_is = ap (λ (i : Identity). i.program) run.of.same; budget_is = ap (λ (i : Identity). i.budget) run.of.same; ends = run.ends }, same)
executes program slots budget kept told (Err e) keeps (inl none) = absurd none
executes program slots budget kept told (Err e) keeps (inr memory) = inr memory

-- ---- made again

-- The steps of lines that are made in their places are made so.
are_made : (program : Program) (lines : List Line) (machine : Machine) → AreLinesFrom program machine lines → AreMade program machine (steps_of lines)
are_made program [] machine are = tt
are_made program (line ∷ lines) machine are =
    subst (λ (o : Option (Machine × Option Event)). IsSomeAnd o (λ made. AreMade program made.0 (steps_of lines))) (sym are.1) (are_made program lines are.0 are.2)

length_steps : (lines : List Line) → length (steps_of lines) ≡ length lines
length_steps [] = refl
length_steps (line ∷ lines) = ap suc (length_steps lines)

-- Replay of the steps of lines tells their events, and how the machine has ended.
pub lines_replayed : ReplaysAreRuns → (program : Program) (lines : List Line) (machine : Machine) → AreLinesOf program lines
    → machine ≡ exec program (steps_of lines) → filter_map (λ (line : Line). line.event) lines ≡ trace program (steps_of lines)
    → steps_told program (steps_of lines)
    ≡ Ok (events_text program.listing (filter_map (λ (line : Line). line.event) lines) (end_told (end_of program machine)) (length lines))
lines_replayed law program lines machine are at traced =
    let is = law program (steps_of lines) in
    by (replayed program (steps_of lines)) refl is.0 (is.1 (are_made program lines (start_of program) are)) where
      by : (r : Result Replayed ReplayFault) → replayed program (steps_of lines) ≡ r → TellsRun program (steps_of lines) r → IsOk r
          → steps_told program (steps_of lines)
          ≡ Ok (events_text program.listing (filter_map (λ (line : Line). line.event) lines) (end_told (end_of program machine)) (length lines))
      by (Ok replay) same made ok =
          let events : replay.events ≡ filter_map (λ (line : Line). line.event) lines = made.1 ∙ sym traced in
          let stands : replay.machine ≡ machine = made.2 ∙ sym at in
          ap (run_told program (length (steps_of lines))) same
          ∙ ap (λ (n : ℕ). Ok (events_text program.listing replay.events (end_told (end_of program replay.machine)) n)) (length_steps lines)
          ∙ ap (λ (es : List Event). Ok (events_text program.listing es (end_told (end_of program replay.machine)) (length lines))) events
          ∙ ap (λ (m : Machine). Ok (events_text program.listing (filter_map (λ (line : Line). line.event) lines) (end_told (end_of program m)) (length lines))) stands
      by (Err fault) same made ok = absurd cc

-- Replay of the book's steps prints its events, and how its machine has ended.
replays_so : ReplaysAreRuns → (book : RunView) → IsRun book → IsTraced book → steps_told book.program (steps_of book.lines) ≡ Ok (replay_text book)
replays_so law book run traced = lines_replayed law book.program book.lines book.machine run.keeps.lines run.keeps.machine traced.events

-- ---- the inputs

-- Where the inputs are not checked, nothing is run.
pub ends_too : (named : NamedRun) (inputs : CheckInputs) (e : Ended) → UnlessMemory (Checks named.check.main inputs) (Err e) → UnlessMemory (Runs named inputs) (Err e)
ends_too named inputs e (inl (inl unlinked)) = inl (inl unlinked)
ends_too named inputs e (inl (inr (program, links, inl denied))) = inl (inr (program, links, inl denied))
ends_too named inputs e (inl (inr (program, links, inr (accepted, verdict, none)))) = absurd none
ends_too named inputs e (inr memory) = inr memory

module _ (named : NamedRun) (inputs : CheckInputs) (checked : Checked) (is : IsCheckedAs named.check.main inputs checked) where
  -- Where they are, the program is run.
  pub runs_so : (result : Step Made) → UnlessMemory (Executes checked.program named.budget) result → UnlessMemory (Runs named inputs) result
  runs_so (Ok made) ran = (checked.program, sym is.links, (checked.accepted, sym is.is.accepts, ran))
  runs_so (Err e) (inl none) = absurd none
  runs_so (Err e) (inr memory) = inr memory

  -- A step that is enabled is made.
  pub makes_enabled : MakesWhatIsEnabled checked.program
  makes_enabled steps step enabled = (is.is.checked.runs.moves steps step).0 enabled

  -- What is kept is a run of the inputs.
  pub kept_so : RunsAreTraces → RecordsOfRunsAreReadAgain → ReplaysAreRuns → IsLinkedProgram checked.program → IsWithin named → (slots : List View) (told : Told) → IsRunAs (identity (new_book checked.program slots named.budget)) told → IsRunOfInputs named inputs slots told
  kept_so traces reads replays linked within slots told run =
      let same : told.0.program ≡ checked.program = ap (λ (i : Identity). i.program) run.of.same in
      let budget : told.0.budget ≡ named.budget = ap (λ (i : Identity). i.budget) run.of.same in
      let links : IsLinkedProgram told.0.program = subst IsLinkedProgram (sym same) linked in
      let few : length told.0.lines ≤ 1000000 = omega (arith, budget, run.of.run.keeps.within, within.steps) in
      record {
        links = is.links ∙ ap (λ (p : Program). Ok p) (sym same);
        checked = subst (ProgramIsChecked inputs.policy inputs.certificate) (sym same) is.is.checked;
        run = subst (λ (p : Program). IsRunAs (identity (new_book p slots named.budget)) told) (sym same) run;
        traced = traces told.0 run.of.run;
        again = reads told.0.program links.text told.0.lines told.1 links.listed links.sound links.linked.standing links.linked.named links.linked.literals
            run.of.run.keeps.lines run.of.run.keeps.brings few run.value;
        replays = replays_so replays told.0 run.of.run (traces told.0 run.of.run);
        obeys = (subst (ProgramIsChecked inputs.policy inputs.certificate) (sym same) is.is.checked).secure (steps_of told.0.lines);
      }

-- ---- the run, made again

-- a program that was checked has types
typable : (program : Program) (typing : Typing) → IsTyped program typing → IsTypable program
typable program typing typed = (typing, typed)

module _ (program : Program) (steps : List GuestStep) (text : List ℕ) (has_types : IsTypable program) (tells : steps_told program steps ≡ Ok text) where
  -- Its run is told so, and is not refused.
  told_so : (linked : Step Program) → linked ≡ Ok program → (step : Step (List ℕ))
      → Then (Equals linked) (λ p. Then (Types p) (λ typing. Equals (steps_told p steps))) step → step ≡ Ok text
  told_so linked links (Ok told) (p, first, (typing, types, second)) =
      let right : ◌≡◌ {A = Step Program} (Ok p) (Ok program) = first ∙ links in
      let same : p ≡ program = cc in
      second ∙ ap (λ (q : Program). steps_told q steps) same ∙ tells
  told_so linked links (Err e) (inl unlinked) =
      let wrong : ◌≡◌ {A = Step Program} (Err e) (Ok program) = unlinked ∙ links in
      absurd cc
  told_so linked links (Err e) (inr (p, first, inl untyped)) =
      let right : ◌≡◌ {A = Step Program} (Ok p) (Ok program) = first ∙ links in
      let same : p ≡ program = cc in
      absurd (types_are_found p (subst IsTypable (sym same) has_types) e untyped)
  told_so linked links (Err e) (inr (p, first, inr (typing, types, second))) =
      let right : ◌≡◌ {A = Step Program} (Ok p) (Ok program) = first ∙ links in
      let same : p ≡ program = cc in
      let wrong : ◌≡◌ {A = Step (List ℕ)} (Err e) (Ok text) = second ∙ ap (λ (q : Program). steps_told q steps) same ∙ tells in
      absurd cc

  replayed_so : (linked : Step Program) → linked ≡ Ok program → (step : Step Made)
      → Then (Then (Equals linked) (λ p. Then (Types p) (λ typing. Equals (steps_told p steps)))) (λ told. Just (answers.Replayed told)) step → step ≡ Ok (just (answers.Replayed text))
  replayed_so linked links (Ok made) (told, tells_it, is) =
      let right = told_so linked links (Ok told) tells_it in
      let same : told ≡ text = cc in
      ap (λ (m : Made). Ok m) (is ∙ ap (λ (t : List ℕ). just (answers.Replayed t)) same)
  replayed_so linked links (Err e) (inl tells_it) =
      let wrong : ◌≡◌ {A = Step (List ℕ)} (Err e) (Ok text) = told_so linked links (Err e) tells_it in
      absurd cc
  replayed_so linked links (Err e) (inr (told, tells_it, none)) = absurd none

-- A run that was kept is replayed.
pub runs_are_replayed : RunsAreReplayed
runs_are_replayed named inputs slots told is again listing classes recorded step replays =
    replayed_so told.0.program again.recorded.steps (replay_text told.0) (typable told.0.program inputs.certificate.typing is.checked.runs.typed)
    (ap (λ (r : Record). steps_told told.0.program r.steps) recorded ∙ is.replays) (link_run named.check.main again)
    (rw (listing, classes) is.links) step replays
