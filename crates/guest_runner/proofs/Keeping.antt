-- Books stay books of one run.
use Rattle.std.proofs.Common.{◌≡◌, ℕ, ◌<◌, length, true, false, List, [], ◌∷◌, ◌++◌, Option, Some, None, refl, sym, ap, subst, ◌∙◌, arith}
use Rattle.std.specs.Prelude.{IsSome, map, option_map}
use Rattle.std.specs.Option.{option_to_list}
use Rattle.std.proofs.lemmas.List.{append-nil, length-append}
use Rattle.std.proofs.lemmas.Bool.{false≢true}
use Rattle.std.proofs.lemmas.Option.{same_Some}
use Rattle.api_listing.specs.declared.events.ApiAnswer.{ApiAnswer}
use Rattle.api_listing.specs.declared.events.ApiCall.{ApiCall}
use Rattle.api_shelf.specs.Shelf.{AllAreSilent, AllTell, IsLater, View, first_of}
use Rattle.api_shelf.specs.Telling.{Log}
use Rattle.bytecode_model.specs.declared.program.Program.{Program}
use Rattle.guest_model.specs.declared.machine.Machine.{Machine}
use Rattle.guest_model.specs.declared.machine.Step.{Step}
use Rattle.guest_model.specs.declared.machine.Choice.TheVariants as choices
use Rattle.guest_model.specs.Asking.{is_enabled, takes_answer}
use Rattle.guest_model.specs.LibraryCalls.{answered_by, answered_in, call_asked}
use Rattle.guest_model.specs.Runs.{exec, start_of}
use Rattle.guest_model.specs.Stepping.{stepped}
use Rattle.event_record.specs.declared.writing.Line.{Line}
use Rattle.event_record.specs.RunLines.{BringsBytes}
use Rattle.guest_runner.specs.declared.book.DeviceStop.{DeviceStop}
use Rattle.guest_runner.specs.declared.book.DeviceStop.TheVariants as stops
use Rattle.guest_model.specs.Turns.{MakesWhatIsEnabled}
use Rattle.guest_runner.specs.Advancing.{AnswersPlainly}
use Rattle.guest_runner.specs.Asking.{Awaits}
use Rattle.guest_runner.specs.Book.{IsStopOf, new_book, kept_pairs, IsRun, Keeps, RunView, steps_of}
use Rattle.guest_runner.specs.PlainAnswers.{PlainAnswersFit, plain_or_null}
use Rattle.guest_runner.proofs.Devices.{counts_begin, counts_stand}
use Rattle.guest_runner.proofs.Lines.{all_more, answered_more, exec_more, leads, lines_more, steps_more}

abbrev pub viewed : Program → Machine → List Line → List View → List ℕ → ℕ → Option DeviceStop → RunView
viewed program machine lines slots counts budget stop =
    record { program = program; machine = machine; lines = lines; slots = slots; counts = counts; budget = budget; stop = stop }

module _ (program : Program) (machine : Machine) (lines : List Line) (counts : List ℕ) (budget : ℕ) where
  -- ---- one line more

  log_more : (more : Log) (line : Line) → machine ≡ exec program (steps_of lines) → more ≡ answered_by program machine line.step.thread line.step.choice
      → answered_in program (steps_of lines) ++ more ≡ answered_in program (steps_of (lines ++ line ∷ [])) ++ []
  log_more more line now told =
      ap (λ (ps : Log). answered_in program (steps_of lines) ++ ps) told
      ∙ ap (λ (m : Machine). answered_in program (steps_of lines) ++ answered_by program m line.step.thread line.step.choice) now
      ∙ sym (answered_more program (steps_of lines) (start_of program) line.step)
      ∙ ap (λ (ss : List Step). answered_in program ss) (sym (steps_more lines line))
      ∙ sym (append-nil (answered_in program (steps_of (lines ++ line ∷ []))))

  pub one_more : (slots : List View) (more : Log) (line : Line) (same : Program) (after : Machine) → same ≡ program
      → Keeps more (viewed program machine lines slots counts budget None) → length lines < budget
      → stepped program machine line.step ≡ Some (after, line.event) → BringsBytes line.step.choice
      → more ≡ answered_by program machine line.step.thread line.step.choice → IsRun (viewed same after (lines ++ line ∷ []) slots counts budget None)
  one_more slots more line same after is keeps room made bytes told =
      let at : stepped program (exec program (steps_of lines)) line.step ≡ Some (after, line.event) =
      subst (λ (m : Machine). stepped program m line.step ≡ Some (after, line.event)) keeps.machine made in
      let long = length-append lines (line ∷ []) in
      subst (λ (p : Program). IsRun (viewed p after (lines ++ line ∷ []) slots counts budget None)) (sym is)
      (record {
        keeps = record {
          makes = keeps.makes;
          plain = keeps.plain;
          machine = sym
              (ap (λ (ss : List Step). exec program ss) (steps_more lines line)
              ∙ exec_more program (steps_of lines) (start_of program) line.step
              ∙ leads program (exec program (steps_of lines)) after line.step line.event at);
          lines = lines_more program lines (start_of program) after line keeps.lines at;
          brings = all_more (λ (l : Line). BringsBytes l.step.choice) lines line keeps.brings bytes;
          within = omega (arith, room, long);
          told = subst (λ (ps : Log). AllTell ps slots) (log_more more line keeps.machine told) keeps.told;
          counts = keeps.counts;
        };
        stop = tt;
      })

  -- ---- devices that were asked

  pub asked : (old new : List View) (more : Log) → Keeps [] (viewed program machine lines old counts budget None) → IsLater old new
      → AllTell ((answered_in program (steps_of lines) ++ []) ++ more) new → Keeps more (viewed program machine lines new counts budget None)
  asked old new more keeps later told = record {
    makes = keeps.makes;
    plain = keeps.plain;
    machine = keeps.machine;
    lines = keeps.lines;
    brings = keeps.brings;
    within = keeps.within;
    told = subst (λ (ps : Log). AllTell (ps ++ more) new) (append-nil (answered_in program (steps_of lines))) told;
    counts = counts_stand counts old new later keeps.counts;
  }

-- ---- from one book to the next

-- what a book keeps does not depend on why it stopped
pub stopped_as : (stop : Option DeviceStop) (book : RunView) (more : Log) → Keeps more book
    → Keeps more (viewed book.program book.machine book.lines book.slots book.counts book.budget stop)
stopped_as stop book more keeps = record {
  makes = keeps.makes;
  plain = keeps.plain;
  machine = keeps.machine;
  lines = keeps.lines;
  brings = keeps.brings;
  within = keeps.within;
  told = keeps.told;
  counts = keeps.counts;
}

pub unstopped : (book : RunView) (more : Log) → Keeps more book
    → Keeps more (viewed book.program book.machine book.lines book.slots book.counts book.budget None)
unstopped book more keeps = stopped_as None book more keeps

-- a book that has not stopped keeps nothing that was answered and not taken
pub keeps_nothing : (book : RunView) → IsRun book → book.stop ≡ None
    → Keeps [] (viewed book.program book.machine book.lines book.slots book.counts book.budget None)
keeps_nothing book run none = unstopped book [] (subst (λ (stop : Option DeviceStop). Keeps (kept_pairs stop) book) none run.keeps)

-- and where it keeps nothing, it is of one run
pub runs_on : (book : RunView) → Keeps [] book → book.stop ≡ None → IsRun book
runs_on book keeps none = record {
  keeps = subst (λ (stop : Option DeviceStop). Keeps (kept_pairs stop) book) (sym none) keeps;
  stop = subst (λ (stop : Option DeviceStop). IsStopOf book stop) (sym none) tt;
}

-- the book with one line more
pub line_more : (old new : RunView) (more : Log) (line : Line)
    → Keeps more (viewed old.program old.machine old.lines old.slots old.counts old.budget None)
    → new.stop ≡ None → new.program ≡ old.program → new.lines ≡ old.lines ++ line ∷ []
    → new.slots ≡ old.slots → new.counts ≡ old.counts → new.budget ≡ old.budget → length old.lines < old.budget
    → stepped old.program old.machine line.step ≡ Some (new.machine, line.event) → BringsBytes line.step.choice
    → more ≡ answered_by old.program old.machine line.step.thread line.step.choice → IsRun new
line_more old new more line keeps none program lines slots counts budget room made bytes told =
    let is : new ≡ viewed new.program new.machine (old.lines ++ line ∷ []) old.slots old.counts old.budget None =
    rw (← none, ← lines, ← slots, ← counts, ← budget) refl in
    subst (λ (b : RunView). IsRun b) (sym is)
    (one_more old.program old.machine old.lines old.counts old.budget old.slots more line new.program new.machine program keeps room made bytes told)

-- ---- stops

stop_of : (old : RunView) (now : Option DeviceStop) (stop : DeviceStop) → IsStopOf old (Some stop)
    → IsStopOf (viewed old.program old.machine old.lines old.slots old.counts old.budget now) (Some stop)
stop_of old now (stops.Failed thread call) is = is
stop_of old now (stops.Kind thread call answer) is = is

-- the book that is stopped
pub stopped : (old new : RunView) (stop : DeviceStop) → Keeps (kept_pairs (Some stop)) old → IsStopOf old (Some stop)
    → new.program ≡ old.program → new.machine ≡ old.machine → new.lines ≡ old.lines → new.slots ≡ old.slots → new.counts ≡ old.counts
    → new.budget ≡ old.budget → new.stop ≡ Some stop → IsRun new
stopped old new stop keeps is program machine lines slots counts budget now =
    let same : new ≡ viewed old.program old.machine old.lines old.slots old.counts old.budget (Some stop) =
    rw (← program, ← machine, ← lines, ← slots, ← counts, ← budget, ← now) refl in
    subst (λ (b : RunView). IsRun b) (sym same)
    (record { keeps = stopped_as (Some stop) old (kept_pairs (Some stop)) keeps; stop = stop_of old (Some stop) stop is })

-- the book whose devices were asked
pub asked_more : (old new : RunView) (more : Log) → Keeps [] (viewed old.program old.machine old.lines old.slots old.counts old.budget None)
    → new.program ≡ old.program → new.machine ≡ old.machine → new.lines ≡ old.lines → new.counts ≡ old.counts → new.budget ≡ old.budget
    → IsLater old.slots new.slots → AllTell ((answered_in old.program (steps_of old.lines) ++ []) ++ more) new.slots → Keeps more new
asked_more old new more keeps program machine lines counts budget later told =
    let kept = asked old.program old.machine old.lines old.counts old.budget old.slots new.slots more keeps later told in
    let is : new ≡ viewed old.program old.machine old.lines new.slots old.counts old.budget new.stop =
    rw (← program, ← machine, ← lines, ← counts, ← budget) refl in
    subst (λ (b : RunView). Keeps more b) (sym is)
    (stopped_as new.stop (viewed old.program old.machine old.lines new.slots old.counts old.budget None) more kept)

-- ---- plain answers

none_is_some : {A : Type 0} {o : Option A} → o ≡ None → IsSome o → ⊥
none_is_some {A = A} none some = let h : false ≡ true = subst (λ (o : Option A). IsSome o) none some in false≢true h

-- A thread that waits for an answer can take the plain one, or null.
pub plainly_fits : (book : RunView) (more : Log) (thread : ℕ) (call : ApiCall) (answer : ApiAnswer) → Keeps more book → Awaits thread call book
    → answer ≡ plain_or_null book.program book.machine thread call → takes_answer book.program book.machine thread answer ≡ true
plainly_fits book more thread call answer keeps awaits is =
    let now = keeps.machine in
    let fits : takes_answer book.program book.machine thread (plain_or_null book.program book.machine thread call) ≡ true =
    subst (λ (m : Machine). takes_answer book.program m thread (plain_or_null book.program m thread call) ≡ true) (sym now)
    (keeps.plain (steps_of book.lines) thread call (subst (λ (m : Machine). is_enabled book.program m thread ≡ true) now awaits.can)
    (subst (λ (m : Machine). call_asked book.program m thread ≡ Some call) now awaits.asked)) in
    subst (λ (given : ApiAnswer). takes_answer book.program book.machine thread given ≡ true) (sym is) fits

-- It is what a call of a class without a device is answered by.
pub answers_plainly : (book : RunView) (thread : ℕ) (call : ApiCall) (answer : ApiAnswer) → Awaits thread call book
    → answer ≡ plain_or_null book.program book.machine thread call → AnswersPlainly book (record { thread = thread; choice = choices.Answer answer })
answers_plainly book thread call answer awaits is other asked none =
    let same : call ≡ other = same_Some call other (sym awaits.asked ∙ asked) in
    ap choices.Answer (is ∙ ap (λ (c : ApiCall). plain_or_null book.program book.machine thread c) same)

-- Of a class that has a device there is nothing to show.
pub answers_else : (book : RunView) (thread : ℕ) (call : ApiCall) (answer : ApiAnswer) → Awaits thread call book
    → IsSome (first_of call.method.class book.slots) → AnswersPlainly book (record { thread = thread; choice = choices.Answer answer })
answers_else book thread call answer awaits some other asked none =
    let same : call ≡ other = same_Some call other (sym awaits.asked ∙ asked) in
    let none_here : first_of call.method.class book.slots ≡ None = ap (λ (c : ApiCall). first_of c.method.class book.slots) same ∙ none in
    absurd (none_is_some none_here some)

-- what the step answers that takes this answer
pub pair_answered : (book : RunView) (thread : ℕ) (call : ApiCall) (answer : ApiAnswer) → Awaits thread call book
    → (call, answer) ∷ [] ≡ answered_by book.program book.machine thread (choices.Answer answer)
pair_answered book thread call answer awaits =
    ap (λ (asked : Option ApiCall). option_to_list (option_map (λ (a : ApiCall). (a, answer)) asked)) (sym awaits.asked)

-- what is answered by this answer is kept
pub keeps_answer : (book : RunView) (thread : ℕ) (call : ApiCall) (answer : ApiAnswer) → Awaits thread call book → Keeps ((call, answer) ∷ []) book
    → Keeps (answered_by book.program book.machine thread (choices.Answer answer)) book
keeps_answer book thread call answer awaits keeps = subst (λ (more : Log). Keeps more book) (pair_answered book thread call answer awaits) keeps

-- ---- the beginning

pub begins : ((slots : List View) → AllAreSilent slots → AllTell [] slots) → (program : Program) (slots : List View) (budget : ℕ)
    → MakesWhatIsEnabled program → PlainAnswersFit program → AllAreSilent slots → IsRun (new_book program slots budget)
begins law program slots budget makes plain silent = record {
  keeps = record {
    makes = makes;
    plain = plain;
    machine = refl;
    lines = tt;
    brings = tt;
    within = omega arith;
    told = law slots silent;
    counts = counts_begin slots;
  };
  stop = tt;
}

pub begun_is : (program : Program) (machine : Machine) (lines : List Line) (slots : List View) (counts : List ℕ) (budget : ℕ) → machine ≡ start_of program
    → lines ≡ [] → counts ≡ map (λ (slot : View). slot.faults) slots → viewed program machine lines slots counts budget None ≡ new_book program slots budget
begun_is program machine lines slots counts budget start none are = rw (start, none, are) refl
