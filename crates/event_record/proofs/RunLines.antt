-- A record can tell each line of a run.
use Rattle.std.proofs.Common.{◌≡◌, ◌≤◌, ◌<◌, ◌^◌, ◌+◌, ℕ, suc, true, List, [], ◌∷◌, ◌++◌, length, map, Option, Some, None, refl, sym, ap, subst, ◌∙◌, arith}
use Rattle.std.specs.Prelude.{◌||◌, IfSome, IsSome, IsSomeAnd, is_some, not, slice_get}
use Rattle.std.specs.List.{AllByRecursion, filter_map}
use Rattle.std.specs.Option.{option_map_or, option_to_list}
use Rattle.std.proofs.lemmas.Bool.{and_parts}
use Rattle.std.proofs.lemmas.List.{length-map}
use Rattle.std.proofs.lemmas.Option.{slice_get_within}
use Rattle.api_listing.specs.declared.descriptor.FieldType.{FieldType}
use Rattle.api_listing.specs.declared.events.ApiAnswer.{ApiAnswer}
use Rattle.api_listing.specs.declared.events.ApiAnswer.TheVariants as answers
use Rattle.api_listing.specs.declared.events.ApiValue.{ApiValue}
use Rattle.api_listing.specs.declared.events.ApiValue.TheVariants as api
use Rattle.api_listing.specs.declared.events.Event.{Event}
use Rattle.api_listing.specs.declared.events.Event.TheVariants as events
use Rattle.api_listing.specs.declared.descriptor.MethodType.{MethodType}
use Rattle.api_listing.specs.declared.types.ListedMethod.{ListedMethod}
use Rattle.api_listing.specs.BuiltIn.{throwable}
use Rattle.api_listing.proofs.DescriptorLaws.{method_again}
use Rattle.api_listing.specs.Listing.{EncodesListing, is_known}
use Rattle.bytecode_model.specs.declared.program.Program.{Program}
use Rattle.bytecode_model.specs.Classes.{is_below, is_interface}
use Rattle.bytecode_model.specs.Sound.{IsSound}
use Rattle.bytecode_model.specs.LinkedClasses.{AreLiterals}
use Rattle.bytecode_model.specs.Targets.{AreNamed}
use Rattle.guest_heap.specs.declared.frame.Frame.{Frame}
use Rattle.guest_heap.specs.declared.object.Object.{Object}
use Rattle.guest_heap.specs.declared.thread.Doing.{Doing}
use Rattle.guest_heap.specs.declared.thread.Doing.TheVariants as doings
use Rattle.guest_heap.specs.declared.value.Value.{Value}
use Rattle.guest_model.specs.declared.machine.Choice.{Choice}
use Rattle.guest_model.specs.declared.machine.Choice.TheVariants as choices
use Rattle.guest_model.specs.declared.machine.Machine.{Machine}
use Rattle.guest_model.specs.declared.machine.Step.{Step}
use Rattle.guest_model.specs.Answering.{answer_fits, is_listed_class, of_class}
use Rattle.guest_model.specs.Calls.{types_of, types_read}
use Rattle.guest_model.specs.Changes.{Change, applied}
use Rattle.guest_model.specs.Counting.{IsNumberedBelow, SeesFewObjects, ShowsBelow, StepsAddOne}
use Rattle.guest_model.specs.Enabled.{MayStep, StepsAreEnabled}
use Rattle.guest_model.specs.Numbers.{AnswersAreWords, ArePassed, IsInRange, IsWordSeen, SeesInRange}
use Rattle.guest_model.specs.Runs.{seen, start_of, stepped_or_same, trace, trace_from}
use Rattle.guest_model.specs.Seeing.{EventsAreOfTheirThread, IsGivenSo, IsNumberFor, IsOfListed, SeesGiven, SeesListed, thread_of}
use Rattle.guest_model.specs.Stepping.{changed, stepped}
use Rattle.guest_model.proofs.Options.{map_of}
use Rattle.event_record.specs.declared.writing.Line.{Line}
use Rattle.event_record.specs.Again.{IsPrinted}
use Rattle.event_record.specs.Entry.{gives_nothing}
use Rattle.event_record.specs.Library.{library_of}
use Rattle.event_record.specs.Printing.{IsGiven, IsValue, method_listed}
use Rattle.event_record.specs.RunLines.{AreLinesFrom, LinesOfRunsAreTold, RecordsOfRunsAreReadAgain}
use Rattle.event_record.specs.Encoding.{IsAnswer}
use Rattle.event_record.specs.Writing.{IsChoice, IsTold, NamesWord}
use Rattle.event_record.proofs.ClassNames.{holds_at}
use Rattle.event_record.proofs.Indices.{first_is_index}
use Rattle.event_record.proofs.ListingWords.{known_word, method_first, method_types, method_words, tells_result}
use Rattle.event_record.proofs.ShownAnswers.{listed_known}
use Rattle.event_record.proofs.ShownStart.{run_written}
use Rattle.event_record.proofs.WrittenAgain.{run_again}
use Rattle.event_record.proofs.WrittenLines.{IsChoiceWritten, IsEventWritten, IsLineWritten, IsWritten, ShowsWords}

-- the laws of the machine that this stands on
pub record Laws : Type 0 where
  pub enabled : StepsAreEnabled
  pub one : StepsAddOne
  pub own : EventsAreOfTheirThread
  pub words : AnswersAreWords
  pub shown : SeesFewObjects
  pub range : (program : Program) → IsSound program → AreNamed program → AreLiterals program → SeesInRange program
  pub given : (program : Program) → SeesGiven program
  pub listed : (program : Program) → IsSound program → AreNamed program → SeesListed program

-- ---- lines and events

abbrev step_of : Line → Step
step_of line = line.step

abbrev event_of : Line → Option Event
event_of line = line.event

abbrev events_in : List Line → List Event
events_in lines = filter_map event_of lines

one_event : (line : Line) (lines : List Line) → option_to_list line.event ++ events_in lines ≡ events_in (line ∷ lines)
one_event line lines = by line.event refl where
  by : (o : Option Event) → line.event ≡ o → option_to_list line.event ++ events_in lines ≡ events_in (line ∷ lines)
  by None is = rw is refl
  by (Some event) is = rw is refl

-- what the library saw in the lines is the trace of their steps
trace_is : (program : Program) (lines : List Line) (machine : Machine) → AreLinesFrom program machine lines
    → trace_from program machine (map step_of lines) ≡ events_in lines
trace_is program [] machine are = refl
trace_is program (line ∷ lines) machine are =
    let saw : seen program machine line.step ≡ option_to_list line.event =
    ap (λ (o : Option (Machine × Option Event)). option_map_or (λ (made : Machine × Option Event). option_to_list made.1) o []) are.1 in
    let next : stepped_or_same program machine line.step ≡ are.0 =
    ap (λ (o : Option (Machine × Option Event)). option_map_or (λ (made : Machine × Option Event). made.0) o machine) are.1 in
    let rest = trace_is program lines are.0 are.2 in
    ap (λ (es : List Event). es ++ trace_from program (stepped_or_same program machine line.step) (map step_of lines)) saw
    ∙ ap (λ (m : Machine). option_to_list line.event ++ trace_from program m (map step_of lines)) next
    ∙ ap (λ (es : List Event). option_to_list line.event ++ es) rest
    ∙ one_event line lines

-- what holds of each event holds of that of each line
of_lines : (P : Event → Type 0) (lines : List Line) → AllByRecursion P (events_in lines) → AllByRecursion (λ (line : Line). IfSome line.event P) lines
of_lines P [] all = tt
of_lines P (line ∷ lines) all =
    let split = by line.event (subst (AllByRecursion P) (sym (one_event line lines)) all) in (split.0, of_lines P lines split.1) where
      by : (o : Option Event) → AllByRecursion P (option_to_list o ++ events_in lines) → IfSome o P × AllByRecursion P (events_in lines)
      by None h = (tt, h)
      by (Some event) h = (h.0, h.1)

-- ---- answers

module _ (laws : Laws) (program : Program) (text : List ℕ) (encodes : EncodesListing text program.listing) where
  abbrev Tells : ApiAnswer → Type 0
  Tells answer = IsAnswer (library_of program.listing) answer × NamesWord answer

  answer_told : (heap : List Object) (result : Option FieldType) (receiver : Option Value) (arguments : List Value) (answer : ApiAnswer)
      → answer_fits program heap result receiver arguments answer ≡ true → IsWritten answer → Tells answer
  answer_told heap result receiver arguments answers.Nothing fit written = (tt, tt)
  answer_told heap None receiver arguments (answers.Int n) fit written = absurd cc
  answer_told heap (Some t) receiver arguments (answers.Int n) fit written = (laws.words t n fit, tt)
  answer_told heap result receiver arguments answers.Null fit written = (tt, tt)
  answer_told heap result receiver arguments (answers.Text bytes) fit written = (written, tt)
  answer_told heap result receiver arguments (answers.Fresh class) fit written =
      let f = and_parts (of_class result (λ name. is_interface program name || is_below program class name)) (is_listed_class program class) fit in
      let known = listed_known program class f.1 in
      (known, known_word text program.listing encodes class known)
  answer_told heap result receiver arguments (answers.Arg i) fit written = (written, tt)
  answer_told heap result receiver arguments answers.Receiver fit written = (tt, tt)
  answer_told heap result receiver arguments (answers.Throws class) fit written =
      let a = and_parts (is_known program.listing.classes class) (is_below program class throwable) fit in
      (a.0, known_word text program.listing encodes class a.0)

  choice_told : (machine : Machine) (number : ℕ) (frames : List Frame) (doing : Doing) (choice : Choice)
      → MayStep program machine number frames doing choice → IsChoiceWritten choice → IsChoice (library_of program.listing) choice
  choice_told machine number frames doings.Running choices.Plain may written = tt
  choice_told machine number frames doings.Running (choices.Answer answer) may written = absurd may
  choice_told machine number frames (doings.InCall method receiver arguments) choices.Plain may written = tt
  choice_told machine number frames (doings.InCall method receiver arguments) (choices.Answer answer) may written =
      let l = holds_at (λ (listed : ListedMethod). answer_fits program machine.heap (types_of listed.id.desc).result receiver arguments answer)
      (slice_get program.listing.methods method) may.1 in
      answer_told machine.heap (types_of l.0.id.desc).result receiver arguments answer l.2 written
  choice_told machine number frames doings.Ended choice may written = absurd may

  -- ---- steps

  -- the thread of a line's step, and its choice
  abbrev StepTold : ℕ → Line → Type 0
  StepTold n line = (line.step.thread < n) × IsChoice (library_of program.listing) line.step.choice × IfSome line.event (λ (e : Event). thread_of e ≡ line.step.thread)

  own_event : (machine after : Machine) (step : Step) (event : Option Event) → stepped program machine step ≡ Some (after, event)
      → IfSome event (λ (e : Event). thread_of e ≡ step.thread)
  own_event machine after step None e = tt
  own_event machine after step (Some event) e = laws.own program machine after step event e

  steps_told : (n : ℕ) (lines : List Line) (machine : Machine) → AreLinesFrom program machine lines → length machine.threads + length lines ≤ n
      → AllByRecursion IsLineWritten lines → AllByRecursion (StepTold n) lines
  steps_told n [] machine are few written = tt
  steps_told n (line ∷ lines) machine are few written =
      let m = map_of (λ (change : Change). (applied line.step.thread machine change, change.event)) (changed program machine line.step)
      (are.0, line.event) are.1 in
      let able = laws.enabled program machine line.step m.0 m.1 in
      let within : line.step.thread < length machine.threads = slice_get_within machine.threads line.step.thread able.thread able.there in
      let more = (laws.one program machine are.0 line.step line.event are.1).1 in (
        (
          omega (arith, few, within),
          choice_told machine line.step.thread able.thread.frames able.thread.doing line.step.choice able.may written.0.choice,
          own_event machine are.0 line.step line.event are.1,
        ),
        steps_told n lines are.0 are.2 (omega (arith, few, more)) written.1,
      )

  -- ---- events

  value_told : (n : ℕ) (value : ApiValue) → n ≤ 2 ^ 32 → IsWordSeen value → IsNumberedBelow n value → ShowsWords value → IsValue value
  value_told n (api.Int k) le word below shows = word
  value_told n api.Null le word below shows = tt
  value_told n (api.Text bytes) le word below shows = shows
  value_told n (api.Obj class at) le word below shows = (shows.0, shows.1, omega (arith, le, below))
  value_told n (api.Class class) le word below shows = shows

  values_told : (n : ℕ) (values : List ApiValue) → n ≤ 2 ^ 32 → AllByRecursion IsWordSeen values → AllByRecursion (IsNumberedBelow n) values
      → AllByRecursion ShowsWords values → AllByRecursion IsValue values
  values_told n [] le words below shows = tt
  values_told n (v ∷ values) le words below shows =
      (value_told n v le words.0 below.0 shows.0, values_told n values le words.1 below.1 shows.1)

  value_returned : (n : ℕ) (result : Option FieldType) (value : ApiValue) → n ≤ 2 ^ 32 → IsNumberFor result (Some value) → IsNumberedBelow n value
      → ShowsWords value → IsValue value
  value_returned n None (api.Int k) le number below shows = absurd cc
  value_returned n (Some t) (api.Int k) le number below shows = laws.words t k number
  value_returned n result api.Null le number below shows = tt
  value_returned n result (api.Text bytes) le number below shows = shows
  value_returned n result (api.Obj class at) le number below shows = (shows.0, shows.1, omega (arith, le, below))
  value_returned n result (api.Class class) le number below shows = shows

  some_of : {A : Type 0} (P : A → Type 0) (o : Option A) (x : A) → IsSomeAnd o P → o ≡ Some x → P x
  some_of P None x h e = absurd cc
  some_of P (Some y) x h e = let same : y ≡ x = cc in subst P same h

  there_of : {A : Type 0} (o : Option A) → IsSome o → (x : A) × (o ≡ Some x)
  there_of None h = absurd cc
  there_of (Some x) h = (x, refl)

  -- whether the method gives something, as its descriptor ends
  gives_as_told : (index : ℕ) (m : ListedMethod) → slice_get program.listing.methods index ≡ Some m
      → gives_nothing m.id.desc ≡ not (is_some (types_of m.id.desc).result)
  gives_as_told index m there =
      let t = method_types text program.listing encodes index m there in
      let read : types_of m.id.desc ≡ t.0 = ap types_read (method_again m.id.desc t.0 t.1) in
      tells_result m.id.desc t.0 t.1.encoded ∙ ap (λ (types : MethodType). not (is_some types.result)) (sym read)

  returned_told : (n index thread : ℕ) (m : ListedMethod) (value : Option ApiValue) → slice_get program.listing.methods index ≡ Some m → n ≤ 2 ^ 32
      → (is_some value ≡ is_some (types_of m.id.desc).result) × IsNumberFor (types_of m.id.desc).result value
      → ShowsBelow n (events.Return thread index value) → IsEventWritten (events.Return thread index value)
      → IsGiven m.id.desc (events.Return thread index value)
  returned_told n index thread m None there le given below written =
      gives_as_told index m there ∙ ap not (sym given.0)
  returned_told n index thread m (Some value) there le given below written =
      (gives_as_told index m there ∙ ap not (sym given.0), value_returned n (types_of m.id.desc).result value le given.1 below written)

  printed : (event : Event) (m : ListedMethod) → slice_get program.listing.methods (method_listed event) ≡ Some m → thread_of event < 2 ^ 32
      → IsGiven m.id.desc event → IsPrinted (library_of program.listing) program.listing.methods event
  printed event m there numbered given = record {
    method = m;
    there = there;
    is = record {
      there = first_is_index program.listing.methods m.id (method_listed event) (method_first text program.listing encodes (method_listed event) m there);
      numbered = numbered;
      given = given;
    };
    words = method_words text program.listing encodes (method_listed event) m there;
  }

  -- what is known of an event of the run
  record IsKnown (n : ℕ) (event : Event) : Type 0 where
    pub range : IsInRange program event
    pub given : IsGivenSo program event
    pub listed : IsOfListed program event
    pub below : ShowsBelow n event
    pub written : IsEventWritten event

  event_told : (n : ℕ) (event : Event) → n ≤ 2 ^ 32 → thread_of event < 2 ^ 32 → IsKnown n event
      → IsPrinted (library_of program.listing) program.listing.methods event
  event_told n (events.Call thread method arguments) le numbered known =
      let m = there_of (slice_get program.listing.methods method) known.listed in
      let passed = some_of (λ (listed : ListedMethod). ArePassed (types_of listed.id.desc) arguments) (slice_get program.listing.methods method) m.0 known.range m.1 in
      printed (events.Call thread method arguments) m.0 m.1 numbered (values_told n arguments le passed.words known.below known.written)
  event_told n (events.Return thread method value) le numbered known =
      let m = there_of (slice_get program.listing.methods method) known.listed in
      let given = some_of (λ (listed : ListedMethod). (is_some value ≡ is_some (types_of listed.id.desc).result) × IsNumberFor (types_of listed.id.desc).result value)
      (slice_get program.listing.methods method) m.0 known.given m.1 in
      printed (events.Return thread method value) m.0 m.1 numbered (returned_told n method thread m.0 value m.1 le given known.below known.written)
  event_told n (events.Except thread method) le numbered known =
      let m = there_of (slice_get program.listing.methods method) known.listed in
      printed (events.Except thread method) m.0 m.1 numbered tt

  -- ---- all lines

  both_known : (n thread : ℕ) (o : Option Event) → n ≤ 2 ^ 32 → thread < 2 ^ 32 → IfSome o (λ (e : Event). thread_of e ≡ thread) → IfSome o (IsKnown n)
      → IfSome o (IsPrinted (library_of program.listing) program.listing.methods)
  both_known n thread None le numbered own known = tt
  both_known n thread (Some event) le numbered own known = event_told n event le (omega (arith, numbered, own)) known

  lines_told : (n : ℕ) (lines : List Line) → n ≤ 2 ^ 32 → AllByRecursion (StepTold (2 ^ 32)) lines
      → AllByRecursion (λ (line : Line). IfSome line.event (IsKnown n)) lines → AllByRecursion (IsTold program.listing) lines
  lines_told n [] le steps known = tt
  lines_told n (line ∷ lines) le steps known = (
    record {
      numbered = steps.0.0;
      choice = steps.0.1;
      event = both_known n line.step.thread line.event le steps.0.0 steps.0.2 known.0;
    },
    lines_told n lines le steps.1 known.1,
  )

  known_all : (n : ℕ) (es : List Event) → AllByRecursion (IsInRange program) es → AllByRecursion (IsGivenSo program) es
      → AllByRecursion (IsOfListed program) es → AllByRecursion (ShowsBelow n) es → AllByRecursion IsEventWritten es → AllByRecursion (IsKnown n) es
  known_all n [] range given listed below written = tt
  known_all n (e ∷ es) range given listed below written = (
    record { range = range.0; given = given.0; listed = listed.0; below = below.0; written = written.0 },
    known_all n es range.1 given.1 listed.1 below.1 written.1,
  )

  written_events : (lines : List Line) → AllByRecursion IsLineWritten lines → AllByRecursion IsEventWritten (events_in lines)
  written_events [] all = tt
  written_events (line ∷ lines) all =
      subst (AllByRecursion IsEventWritten) (one_event line lines) (by line.event all.0.event (written_events lines all.1)) where
        by : (o : Option Event) → IfSome o IsEventWritten → AllByRecursion IsEventWritten (events_in lines)
            → AllByRecursion IsEventWritten (option_to_list o ++ events_in lines)
        by None h rest = rest
        by (Some event) h rest = (h, rest)

pub lines_of_runs_are_told : Laws → LinesOfRunsAreTold
lines_of_runs_are_told laws program text lines encodes sound standing named literals are few brings =
    let written = run_written program text encodes sound standing named literals laws.enabled lines are brings in
    let steps : List Step = map step_of lines in
    let n : ℕ = suc (length program.listing.fields) + length steps in
    let many : length steps ≡ length lines = length-map lines step_of in
    let le : n ≤ 2 ^ 32 = omega (arith, few, many) in
    let is : trace program steps ≡ events_in lines = trace_is program lines (start_of program) are in
    let known = known_all laws program text encodes n (events_in lines)
    (subst (AllByRecursion (IsInRange program)) is (laws.range program sound named literals steps))
    (subst (AllByRecursion (IsGivenSo program)) is (laws.given program steps))
    (subst (AllByRecursion (IsOfListed program)) is (laws.listed program sound named steps))
    (subst (AllByRecursion (ShowsBelow n)) is (laws.shown program steps)) (written_events laws program text encodes lines written) in
    let told = steps_told laws program text encodes (2 ^ 32) lines (start_of program) are (omega (arith, few)) written in
    lines_told laws program text encodes n lines le told (of_lines (IsKnown laws program text encodes n) lines known)

pub records_of_runs_again : Laws → RecordsOfRunsAreReadAgain
records_of_runs_again laws program text lines end encodes sound standing named literals are brings few value =
    let fields : length program.listing.fields ≤ 20000 = sound.listed.fields in
    run_again program.listing lines end
    (lines_of_runs_are_told laws program text lines encodes sound standing named literals are (omega (arith, fields, few)) brings) few value
