-- Each step keeps the machine as the notes say: by whether the thread that makes it holds the lock.
use Rattle.std.proofs.Common.{◌≡◌, ◌≢◌, ◌⊎◌, ℕ, zero, suc, ◌<◌, ◌≤◌, ◌+◌, Bool, true, false, List, [], ◌∷◌, ◌++◌, length, Option, Some, None, refl, sym, ap, subst, ◌∙◌, append-nil, arith, length-append, inl, inr, eqb-true}
use Rattle.std.specs.Prelude.{◌==◌, ◌&&◌, not, IfSome, IsSome, is_some, option_map, slice_get, slice_set}
use Rattle.std.specs.Option.{option_to_list}
use Rattle.std.proofs.lemmas.Bool.{and_parts, cases_eq, not-true}
use Rattle.std.proofs.lemmas.Option.{slice_get_within}
use Rattle.api_listing.specs.declared.events.Event.{Event}
use Rattle.insn_codec.specs.declared.insn.Insn.{Insn}
use Rattle.bytecode_model.specs.declared.program.Program.{Program}
use Rattle.bytecode_model.specs.declared.program.Target.{Target}
use Rattle.block_logic.specs.Annotations.{Annotations, holds_round, is_always}
use Rattle.block_logic.specs.declared.held_calls.HeldCalls.{HeldCalls}
use Rattle.block_logic.specs.declared.held_calls.HeldCalls.TheVariants.{Always, Never}
use Rattle.cert_format.specs.declared.note.Note.{Note}
use Rattle.cert_format.specs.declared.note.Note.TheVariants as notes
use Rattle.cert_format.specs.declared.note.Phase8.TheVariants.{Before}
use Rattle.cert_format.specs.declared.note.Site.{Site}
use Rattle.conspec_automaton.specs.declared.policy.Clause.{Clause}
use Rattle.conspec_automaton.specs.declared.policy.Policy.{Policy}
use Rattle.conspec_automaton.specs.Events.{IsWellFormed}
use Rattle.conspec_automaton.specs.Next.{Values, has_clauses, initial, method_of, next}
use Rattle.conspec_automaton.specs.Obeys.{Follows, IsFollowed, after, is_return, spoken}
use Rattle.conspec_automaton.specs.Range.{in_range}
use Rattle.conspec_automaton.proofs.Ranges.{firsts_in_range, next_keeps}
use Rattle.guest_heap.specs.declared.frame.Frame.{Frame}
use Rattle.guest_heap.specs.declared.thread.Doing.{Doing}
use Rattle.guest_heap.specs.declared.thread.Doing.TheVariants as doings
use Rattle.guest_heap.specs.declared.thread.Thread.{Thread}
use Rattle.guest_heap.specs.declared.value.Value.{Value}
use Rattle.guest_model.specs.declared.machine.Choice.{Choice}
use Rattle.guest_model.specs.declared.machine.Choice.TheVariants as choices
use Rattle.guest_model.specs.declared.machine.Machine.{Machine}
use Rattle.guest_model.specs.Changes.{Change, applied, world_of}
use Rattle.guest_model.specs.Places.{insn_at}
use Rattle.guest_model.specs.Stepping.{Acting, doing_stepped, frames_stepped, insn_stepped}
use Rattle.guest_model.proofs.Options.{and_then_of, some_is}
use Rattle.guest_model.proofs.Staying.{other_stays}
use Rattle.block_logic.specs.Agreement.{Agree, Part, Turns, all_granted, all_owed, clause_event, granted_by, owed_by}
use Rattle.block_logic.specs.Agreement as parts
use Rattle.block_logic.specs.Clauses.{clause_at}
use Rattle.block_logic.specs.Fitting.{AreBelow, AreBlockFrames, AreClientFrames, AreOthers, Fits, IsBlockDoing, IsClient, IsClientDoing, IsClientFrame, IsCleanWorld, IsInBlock, IsKept, IsLocked, IsOther, IsUnlocked, ObeysIn, held_locks, locked_by, state_of}
use Rattle.block_logic.specs.Meaning.{AreClean, IsFrame, IsFree, IsGranted, IsJudged, IsReleasing, MeansGranted, note_of}
use Rattle.block_logic.specs.Obeying.{IsObeying}
use Rattle.block_logic.specs.Weakening.{is_open, needs_no_grant}
use Rattle.block_logic.proofs.Agreement.{SeenIsEnough, alone, one_clear, same_spoken, spoken_with, still_agrees, still_followed}
use Rattle.block_logic.proofs.Owner.Fair.{block_anywhere, block_fair, block_loose, clear_fair}
use Rattle.block_logic.proofs.Owner.Weakening.{none_there, slice_get_there}
use Rattle.block_logic.proofs.Owner.Variables.{set_elsewhere, set_there}
use Rattle.block_logic.proofs.Racing.{IsLoose, IsLooseEvent, Turning, keeps_agreement}
use Rattle.block_logic.proofs.Steps.{AreLoose, BlockAnswers, ChangesBlock, ChangesClient, ClientAnswers, ClientSteps, GivesUp, HasIntsIn, IsFair, IsFit, OtherSteps, OwnerSteps, StaysOther, StaysOwner, Takes, TakingSteps}
use Rattle.block_logic.proofs.Threads.{own_thread, was_thread}

-- ---- lists

get_before : {X : Type 0} (xs ys : List X) (n : ℕ) → n < length xs → slice_get (xs ++ ys) n ≡ slice_get xs n
get_before [] ys n inside = absurd (omega (arith, inside))
get_before (x ∷ xs) ys zero inside = refl
get_before (x ∷ xs) ys (suc n) inside = get_before xs ys n (omega (arith, inside))

get_after : {X : Type 0} (xs ys : List X) (n : ℕ) (y : X) → length xs ≤ n → slice_get (xs ++ ys) n ≡ Some y → (m : ℕ) × (slice_get ys m ≡ Some y)
get_after [] ys n y past there = (n, there)
get_after (x ∷ xs) ys zero y past there = absurd (omega (arith, past))
get_after (x ∷ xs) ys (suc n) y past there = get_after xs ys n y (omega (arith, past)) there

length_set : {X : Type 0} (xs : List X) (n : ℕ) (x : X) → length (slice_set xs n x) ≡ length xs
length_set [] n x = refl
length_set (y ∷ xs) zero x = refl
length_set (y ∷ xs) (suc n) x = ap suc (length_set xs n x)

set_same : {X : Type 0} (xs : List X) (n : ℕ) (x : X) → slice_get xs n ≡ Some x → slice_set xs n x ≡ xs
set_same [] n x there = refl
set_same (y ∷ xs) zero x there = let same : y ≡ x = cc in rw same refl
set_same {X = X} (y ∷ xs) (suc n) x there = ap (λ (ys : List X). y ∷ ys) (set_same xs n x there)

-- ---- the laws of steps

pub always_round : (held : HeldCalls) (method : ℕ) → is_always held ≡ true → holds_round held method ≡ true
always_round Always method is = refl
always_round Never method is = absurd cc

-- what the steps of threads change, by whether the thread holds the lock
pub record StepLaws (program : Program) (policy : Policy) (annotations : Annotations) : Type 0 where
  pub client_steps : ClientSteps program policy annotations
  pub client_answers : ClientAnswers program policy annotations
  pub taking_steps : TakingSteps program policy annotations
  pub owner_steps : OwnerSteps program policy annotations
  pub other_steps : OtherSteps program policy annotations
  pub block_answers : BlockAnswers program policy annotations
  pub seen_is_enough : SeenIsEnough
  pub obeys : IsObeying program policy annotations

module _ (program : Program) (policy : Policy) (annotations : Annotations) (laws : StepLaws program policy annotations) where
  abbrev pub is_clean : Machine → Type 0
  is_clean machine = IsCleanWorld program (state_of program policy annotations) (world_of machine)

  -- ---- a thread that does not hold the lock

  -- It changes nothing of the lock, as the client's or in a block, or takes it.
  abbrev pub Moves : Machine → ℕ → Values → Part → Change → Type 0
  Moves machine number recorded part change =
      ((part ≡ parts.Clear) × ChangesClient program policy annotations (world_of machine) change)
      ⊎ (ChangesBlock program policy annotations false (world_of machine) number recorded part change ⊎ Takes program policy annotations (world_of machine) number part change)

  -- What a frame holds and its step shows is known.
  abbrev pub IsKnownIn : List Frame → Type 0
  IsKnownIn [] = Unit {0}
  IsKnownIn (frame ∷ below) = HasIntsIn program policy annotations frame

  module _ (machine : Machine) (world : is_clean machine) (number : ℕ) (thread : Thread) (change : Change) (recorded : Values) (ranged : in_range policy recorded ≡ true)
      (fit : IfSome change.event (IsFit program policy annotations)) where
    -- a call that needs no lock, in front of it
    granted_open : (frame : Frame) (site : Site) (locked : Bool) (count : ℕ) (top : Bool) → is_open annotations.held policy (notes.Granted site locked count top) ≡ true
        → AreClean program frame.stack.items → MeansGranted program policy annotations.held false [] [] frame site locked count top parts.Clear
    granted_open frame site locked count top needless clean =
        let p = and_parts (needs_no_grant annotations.held policy site) (not locked && ((count == 0) && not top)) needless in
        let q = and_parts (not locked) ((count == 0) && not top) p.1 in
        let r = and_parts (count == 0) (not top) q.1 in
        let u = and_parts (not (holds_round annotations.held site.method)) (has_clauses policy site.method && not (is_some (clause_at policy site.method Before))) p.0 in
        let v = and_parts (has_clauses policy site.method) (not (is_some (clause_at policy site.method Before))) u.1 in
        let none : clause_at policy site.method Before ≡ None = none_there (clause_at policy site.method Before) (not-true (is_some (clause_at policy site.method Before)) v.1) in
        let zero_is : count ≡ 0 = eqb-true count 0 r.0 in
        let bare : top ≡ false = not-true top r.1 in
        let loose : locked ≡ false = not-true locked q.0 in
        rw (zero_is, bare, loose)
        (record {
          holds = refl;
          round = not-true (holds_round annotations.held site.method) u.0;
          granted = subst (λ (c : Option Clause). IsGranted program policy annotations.held site c parts.Clear frame.locals) (sym none) refl;
          variables = tt;
          few = omega arith;
          loaded = [];
          are = refl;
          above = record { rest = frame.stack.items; is = refl; clean = clean };
        })

    frame_moves : (frame : Frame) (below : List Frame) (next : Insn × Target) (note : Note) → HasIntsIn program policy annotations frame → IsFrame program frame → AreBelow program policy annotations below
        → insn_at program frame ≡ Some next → note_of program annotations frame ≡ Some note → IsFree program policy annotations.held frame note
        → insn_stepped program machine (record { number = number; thread = thread; frame = frame; below = below }) next ≡ Some change
        → Moves machine number recorded parts.Clear change
    frame_moves frame below next notes.Free ints well waits there told free e =
        inl (
          refl,
          laws.client_steps machine (record { number = number; thread = thread; frame = frame; below = below }) next change
              (record { world = world; well = well; there = there; told = told; below = waits }) free e,
        )
    frame_moves frame below next (notes.Taking site) ints well waits there told free e =
        inr (inr (laws.taking_steps machine (record { number = number; thread = thread; frame = frame; below = below }) next change site ints
        (record { world = world; well = well; there = there; told = told; below = waits }) free e))
    frame_moves frame below next (notes.Held site failed holding list map) ints well waits there told free e = absurd free
    frame_moves frame below next (notes.Granted site locked count top) ints well waits there told free e =
        inr (laws.other_steps machine (record { number = number; thread = thread; frame = frame; below = below }) next change (notes.Granted site locked count top) recorded parts.Clear fit
        (record { world = world; well = well; there = there; told = told; below = waits }) (granted_open frame site locked count top free.0 free.1) ranged e)
    frame_moves frame below next (notes.Owed site stage kept top) ints well waits there told free e = absurd free
    frame_moves frame below next (notes.Stop site place) ints well waits there told free e = absurd free

    frames_move : (frames : List Frame) → IsKnownIn frames → AreClientFrames program policy annotations frames → frames_stepped program machine number thread frames ≡ Some change
        → Moves machine number recorded parts.Clear change
    frames_move [] known client e = absurd cc
    frames_move (frame ∷ below) known client e =
        let next = and_then_of (insn_stepped program machine (record { number = number; thread = thread; frame = frame; below = below })) (insn_at program frame) change e in
        at_insn next.0 next.1 next.2 client.1 where
          at_insn : (next : Insn × Target) → insn_at program frame ≡ Some next
              → insn_stepped program machine (record { number = number; thread = thread; frame = frame; below = below }) next ≡ Some change
              → IsClientFrame program policy annotations frame → Moves machine number recorded parts.Clear change
          at_insn next there e (inl none) = absurd cc
          at_insn next there e (inr noted) = frame_moves frame below next noted.0 known client.0 client.2 there noted.1 noted.2 e

    client_moves : (doing : Doing) (choice : Choice) → IsKnownIn thread.frames → IsClientDoing program policy annotations thread.frames doing
        → doing_stepped program machine number thread doing choice ≡ Some change → Moves machine number recorded parts.Clear change
    client_moves doings.Running choices.Plain known client e = frames_move thread.frames known client e
    client_moves doings.Running (choices.Answer answer) known client e = absurd cc
    client_moves (doings.InCall method receiver arguments) choice known client e =
        inl (refl, laws.client_answers (world_of machine) number thread method receiver arguments choice change world client.0 client.1 client.2 e)
    client_moves doings.Ended choice known client e = absurd cc

    -- ---- a thread in a block

    owner_frames_move : (fields : List Value) (part : Part) (frames : List Frame) → AreBlockFrames program policy annotations true recorded fields frames part
        → held_locks program machine.monitors ≡ locked_by program number → slice_get machine.statics (state_of program policy annotations) ≡ Some fields
        → frames_stepped program machine number thread frames ≡ Some change → ChangesBlock program policy annotations true (world_of machine) number recorded part change
    owner_frames_move fields part [] owner locked variables e = absurd cc
    owner_frames_move fields part (frame ∷ below) owner locked variables e =
        let a : Acting = record { number = number; thread = thread; frame = frame; below = below } in
        let next = and_then_of (insn_stepped program machine a) (insn_at program frame) change e in
        laws.owner_steps machine a next.0 change owner.0.note recorded fields part fit
        (record { world = world; well = owner.0.well; there = next.1; told = owner.0.told; below = owner.1 }) owner.0.means ranged locked variables next.2

    pub owner_moves : (fields : List Value) (part : Part) (doing : Doing) (choice : Choice) → IsBlockDoing program policy annotations true recorded fields thread.frames doing part
        → held_locks program machine.monitors ≡ locked_by program number → slice_get machine.statics (state_of program policy annotations) ≡ Some fields
        → doing_stepped program machine number thread doing choice ≡ Some change → ChangesBlock program policy annotations true (world_of machine) number recorded part change
    owner_moves fields part doings.Running choices.Plain owner locked variables e = owner_frames_move fields part thread.frames owner locked variables e
    owner_moves fields part doings.Running (choices.Answer answer) owner locked variables e = absurd cc
    owner_moves fields part (doings.InCall method receiver arguments) choice owner locked variables e =
        laws.block_answers true (world_of machine) number thread method receiver arguments choice change recorded fields part fit world owner.0 owner.1 owner.2 ranged locked variables e
    owner_moves fields part doings.Ended choice owner locked variables e = absurd owner

    other_frames_move : (part : Part) (frames : List Frame) → AreBlockFrames program policy annotations false [] [] frames part
        → frames_stepped program machine number thread frames ≡ Some change → Moves machine number recorded part change
    other_frames_move part [] other e = absurd cc
    other_frames_move part (frame ∷ below) other e =
        let a : Acting = record { number = number; thread = thread; frame = frame; below = below } in
        let next = and_then_of (insn_stepped program machine a) (insn_at program frame) change e in
        inr (laws.other_steps machine a next.0 change other.0.note recorded part fit
        (record { world = world; well = other.0.well; there = next.1; told = other.0.told; below = other.1 }) other.0.means ranged next.2)

    block_moves : (part : Part) (doing : Doing) (choice : Choice) → IsBlockDoing program policy annotations false [] [] thread.frames doing part
        → doing_stepped program machine number thread doing choice ≡ Some change → Moves machine number recorded part change
    block_moves part doings.Running choices.Plain other e = other_frames_move part thread.frames other e
    block_moves part doings.Running (choices.Answer answer) other e = absurd cc
    block_moves part (doings.InCall method receiver arguments) choice other e =
        let here = block_anywhere program policy annotations [] recorded [] [] thread.frames (doings.InCall method receiver arguments) part other in
        inr (inl (laws.block_answers false (world_of machine) number thread method receiver arguments choice change recorded [] part fit world here.0 here.1 here.2 ranged refl refl e))
    block_moves part doings.Ended choice other e = absurd other

    -- what a thread does that does not hold the lock
    pub other_moves : (part : Part) (choice : Choice) → IsKnownIn thread.frames → IsOther program policy annotations thread part
        → doing_stepped program machine number thread thread.doing choice ≡ Some change → Moves machine number recorded part change
    other_moves part choice known (inl client) e = subst (λ (p : Part). Moves machine number recorded p change) (sym client.1) (client_moves thread.doing choice known client.0 e)
    other_moves part choice known (inr block) e = block_moves part thread.doing choice block e

  -- ---- what is known of the parts of threads

  pub owner_fair : (recorded : Values) (fields : List Value) (thread : Thread) (part : Part) → IsInBlock program policy annotations true recorded fields thread part → IsFair program policy annotations part
  owner_fair recorded fields thread part block = block_fair program policy annotations true recorded fields thread.frames thread.doing part block

  pub other_fair : (thread : Thread) (part : Part) → IsOther program policy annotations thread part → IsFair program policy annotations part
  other_fair thread part (inl client) = subst (IsFair program policy annotations) (sym client.1) (clear_fair program policy annotations)
  other_fair thread part (inr block) = block_fair program policy annotations false [] [] thread.frames thread.doing part block

  other_loose : (thread : Thread) (part : Part) → IsOther program policy annotations thread part → IsLoose policy annotations.held (IsFit program policy annotations) part
  other_loose thread part (inl client) = subst (IsLoose policy annotations.held (IsFit program policy annotations)) (sym client.1) tt
  other_loose thread part (inr block) = block_loose program policy annotations [] [] thread.frames thread.doing part block

  -- ---- the events so far, and what is recorded

  abbrev Loose : Part → Type 0
  Loose = IsLoose policy annotations.held (IsFit program policy annotations)

  abbrev pub Fair : Part → Type 0
  Fair = IsFair program policy annotations

  abbrev Fit : Event → Type 0
  Fit = IsFit program policy annotations

  -- The parts of all but one thread, which are loose or to which its own is.
  module _ (seen : List Event) (recorded now : Values) (among : List Part) (own : ℕ) (part due : Part) (event : Option Event)
      (ranged : in_range policy recorded ≡ true) (in_range_now : in_range policy now ≡ true) (there : slice_get among own ≡ Some part)
      (turns : Turns policy recorded part (clause_event policy event) now due) (fair : Fair part) (fair_due : Fair due) (fit : IfSome (clause_event policy event) Fit)
      (fairs : (n : ℕ) (q : Part) → n ≢ own → slice_get among n ≡ Some q → Fair q)
      (loose : (Loose part × Loose due × IfSome (clause_event policy event) (IsLooseEvent policy annotations.held Fit)) ⊎ ((n : ℕ) (q : Part) → n ≢ own → slice_get among n ≡ Some q → Loose q))
      (agree : Agree (next policy) (initial policy) (spoken policy seen) recorded (all_granted among) (all_owed among)) where
    abbrev more : List Event
    more = seen ++ option_to_list event

    abbrev after_parts : List Part
    after_parts = slice_set among own due

    abbrev Now : Bool → Type 0
    Now always = Agree (next policy) (initial policy) (spoken policy more) now (all_granted after_parts) (all_owed after_parts) × ObeysIn always policy more

    -- Where the lock is held round each call: one thread alone has begun anything.
    module _ (always : is_always annotations.held ≡ true) (followed : IsFollowed policy seen) where
      -- no event is of a method round whose calls it is not held
      none_loose : (e : Event) → IsLooseEvent policy annotations.held Fit e → ⊥
      none_loose e loose = let not_so : true ≡ false = sym (always_round annotations.held (method_of e) always) ∙ loose in absurd cc

      loose_clear : (part : Part) → Loose part → part ≡ parts.Clear
      loose_clear parts.Clear loose = refl
      loose_clear (parts.Granted call) loose = absurd (none_loose call loose)
      loose_clear (parts.Owed end) loose = absurd (none_loose end loose)

      owner_alone : ((n : ℕ) (q : Part) → n ≢ own → slice_get among n ≡ Some q → Loose q) → Now true
      owner_alone others =
          let clear = λ (n : ℕ) (q : Part) (differ : n ≢ own) (is : slice_get among n ≡ Some q). loose_clear q (others n q differ is) in
          let one = alone among own part there clear in
          let before : Agree (next policy) (initial policy) (spoken policy seen) recorded (granted_by part) (owed_by part) = rw (sym one.0, sym one.1) agree in
          let within = slice_get_within among own part there in
          let two = alone after_parts own due (set_there among own due within) (λ n q differ is. clear n q differ (sym (set_elsewhere among n own due (λ same. differ (sym same))) ∙ is)) in
          (rw (two.0, two.1) (still_agrees laws.seen_is_enough policy seen event recorded now part due turns before), still_followed laws.seen_is_enough policy seen event recorded now part due turns before followed)

      -- a thread that does not hold the lock turns nothing
      nothing_turns : Loose part → Loose due → IfSome (clause_event policy event) (IsLooseEvent policy annotations.held Fit) → Now true
      nothing_turns loose_part loose_due loose_event =
          let clear : part ≡ parts.Clear = loose_clear part loose_part in
          let clear_due : due ≡ parts.Clear = loose_clear due loose_due in
          let turned : Turns policy recorded parts.Clear (clause_event policy event) now parts.Clear =
          subst (λ (p : Part). Turns policy recorded p (clause_event policy event) now parts.Clear) clear (subst (Turns policy recorded part (clause_event policy event) now) clear_due turns) in
          let kept : after_parts ≡ among = set_same among own due (there ∙ ap Some (clear ∙ sym clear_due)) in
          by kept (clause_event policy event) refl turned loose_event where
            by : after_parts ≡ among → (e : Option Event) → clause_event policy event ≡ e → Turns policy recorded parts.Clear e now parts.Clear → IfSome e (IsLooseEvent policy annotations.held Fit) → Now true
            by kept None none turned loose' =
                let same : spoken policy more ≡ spoken policy seen = spoken_with policy seen event ∙ ap (λ (x : Option Event). spoken policy seen ++ option_to_list x) none ∙ append-nil (spoken policy seen) in
                (rw (same, kept, turned) agree, subst (Follows (next policy) is_return (initial policy)) (sym same) followed)
            by kept (Some e) some turned loose' = absurd (none_loose e loose')

      holding_turns : Now true
      holding_turns = by loose where
        by : (Loose part × Loose due × IfSome (clause_event policy event) (IsLooseEvent policy annotations.held Fit)) ⊎ ((n : ℕ) (q : Part) → n ≢ own → slice_get among n ≡ Some q → Loose q) → Now true
        by (inl mine) = nothing_turns mine.0 mine.1 mine.2
        by (inr others) = owner_alone others

    -- Where it is let go round some calls: events turn.
    module _ (loosely : is_always annotations.held ≡ false) (releasing : IsReleasing program policy annotations.held) where
      formed : (e : Event) → Fit e → IsWellFormed policy e
      formed e fit = fit loosely releasing.formed

      tested : (c d : Event) → IsLooseEvent policy annotations.held Fit c ⊎ IsLooseEvent policy annotations.held Fit d
          → not (holds_round annotations.held (method_of c) && holds_round annotations.held (method_of d)) ≡ true
      tested c d (inl l) = rw l refl
      tested c d (inr l) = by (holds_round annotations.held (method_of c)) where
        by : (b : Bool) → not (b && holds_round annotations.held (method_of d)) ≡ true
        by true = rw l refl
        by false = refl

      turning : Turning policy annotations.held Fit
      turning = record {
        taken = λ end fit ends. releasing.race.ends_are_taken end (record { formed = formed end fit; ends = ends });
        calls = λ c d one fc fd cc dd. releasing.race.calls_turn c d (tested c d one) (record { formed = formed c fc; calls = cc }) (record { formed = formed d fd; calls = dd });
        ends = λ c d one fc fd cc dd. releasing.race.ends_turn c d (tested c d one) (record { formed = formed c fc; ends = cc }) (record { formed = formed d fd; ends = dd });
        across = λ c d one fc fd cc dd. releasing.race.ends_come_first c d (tested c d one) (record { formed = formed c fc; calls = cc }) (record { formed = formed d fd; ends = dd });
      }

      releasing_turns : Now false
      releasing_turns =
          let k = keeps_agreement policy annotations.held Fit turning laws.seen_is_enough (next_keeps policy laws.obeys.good) (firsts_in_range policy.maxint policy.vars laws.obeys.good.vars)
          (spoken policy seen) recorded now ranged in_range_now among own part due (clause_event policy event) there fair fair_due fit fairs loose turns agree in
          let same : spoken policy more ≡ spoken policy seen ++ option_to_list (clause_event policy event) = spoken_with policy seen event in
          (rw same k.0, rw same k.1)

    -- The step keeps the agreement, and the events obeying.
    pub turn_keeps : ObeysIn (is_always annotations.held) policy seen → Now (is_always annotations.held)
    turn_keeps obeys = by (is_always annotations.held) refl laws.obeys.judged obeys where
      by : (b : Bool) → is_always annotations.held ≡ b → IsJudged program policy annotations.held → ObeysIn b policy seen → Now b
      by true always judged followed = holding_turns always followed
      by false loosely (inl always) accepted = let not_so : true ≡ false = sym always ∙ loosely in absurd cc
      by false loosely (inr releasing) accepted = releasing_turns loosely releasing

  -- ---- the machine afterwards

  module _ (machine : Machine) (seen : List Event) (fits : Fits program policy annotations machine seen) (number : ℕ) (thread : Thread) (change : Change)
      (there : slice_get machine.threads number ≡ Some thread) (obeys : ObeysIn (is_always annotations.held) policy seen) where
    abbrev now : Machine
    now = applied number machine change

    abbrev more_seen : List Event
    more_seen = seen ++ option_to_list change.event

    abbrev among : List Part
    among = fits.among

    within : number < length machine.threads
    within = slice_get_within machine.threads number thread there

    pub own_part : (part : Part) × (slice_get among number ≡ Some part)
    own_part = slice_get_there among number (omega (arith, within, fits.each))

    begun_client : (begins : Option Thread) (t : Thread) → IfSome begins (IsClient program policy annotations) → begins ≡ Some t → IsClient program policy annotations t
    begun_client None t client e = absurd cc
    begun_client (Some begun) t client e = subst (IsClient program policy annotations) (some_is begun t e) client

    -- a thread that begins has begun nothing with the automaton
    abbrev begun_parts : Option Thread → List Part
    begun_parts begins = option_to_list (option_map (λ (t : Thread). parts.Clear) begins)

    begun_clear : (begins : Option Thread) (n : ℕ) (other : Part) → slice_get (begun_parts begins) n ≡ Some other → other ≡ parts.Clear
    begun_clear None n other e = absurd cc
    begun_clear (Some t) zero other e = sym (some_is parts.Clear other e)
    begun_clear (Some t) (suc n) other e = absurd cc

    begun_as_many : (begins : Option Thread) → length (begun_parts begins) ≡ length (option_to_list begins)
    begun_as_many None = refl
    begun_as_many (Some t) = refl

    -- ---- by the client

    module _ (c : ChangesClient program policy annotations (world_of machine) change) where
      same_events : spoken policy seen ≡ spoken policy more_seen
      same_events = same_spoken policy seen change.event c.event

      abbrev among_after : List Part
      among_after = among ++ begun_parts change.begins

      each_after : length among_after ≡ length now.threads
      each_after =
          length-append among (begun_parts change.begins) ∙ ap (λ (n : ℕ). n + length (begun_parts change.begins)) fits.each
          ∙ ap (λ (n : ℕ). length machine.threads + n) (begun_as_many change.begins)
          ∙ sym (length-append (slice_set machine.threads number change.thread) (option_to_list change.begins)
          ∙ ap (λ (n : ℕ). n + length (option_to_list change.begins)) (length_set machine.threads number change.thread))

      agree_after : Agree (next policy) (initial policy) (spoken policy more_seen) fits.recorded (all_granted among_after) (all_owed among_after)
      agree_after =
          let begun = one_clear among (begun_parts change.begins) (begun_clear change.begins) in
          rw (begun.0, begun.1) (subst (λ (es : List Event). Agree (next policy) (initial policy) es fits.recorded (all_granted among) (all_owed among)) same_events fits.agree)

      still_obeys : ObeysIn (is_always annotations.held) policy more_seen
      still_obeys = by (is_always annotations.held) obeys where
        by : (b : Bool) → ObeysIn b policy seen → ObeysIn b policy more_seen
        by true followed = subst (Follows (next policy) is_return (initial policy)) same_events followed
        by false accepted = subst (λ (es : List Event). IsSome (after (next policy) (initial policy) es)) same_events accepted

      module _ (own_clear : own_part.0 ≡ parts.Clear) where
        -- all that were no owners are none, and so is this one
        others_after : (IsMeant : ℕ → Type 0) → AreOthers program policy annotations IsMeant machine.threads among
            → AreOthers program policy annotations IsMeant now.threads among_after
        others_after IsMeant others n t part this e is =
            elim (was_thread machine.threads number change.thread change.begins n t e within) [
              | inl own ↦
                  let at_own : slice_get among_after number ≡ Some part = subst (λ (i : ℕ). slice_get among_after i ≡ Some part) own.0 is in
                  let old : slice_get among number ≡ Some part = sym (get_before among (begun_parts change.begins) number (omega (arith, within, fits.each))) ∙ at_own in
                  let same : own_part.0 ≡ part = some_is own_part.0 part (sym own_part.1 ∙ old) in
                  inl (subst (IsClient program policy annotations) own.1 c.thread, sym same ∙ own_clear)
              | inr (inl other) ↦
                  let inside : n < length machine.threads = slice_get_within machine.threads n t other.1 in
                  let old : slice_get among n ≡ Some part = sym (get_before among (begun_parts change.begins) n (omega (arith, inside, fits.each))) ∙ is in
                  others n t part this other.1 old
              | inr (inr begun) ↦
                  let following = get_after among (begun_parts change.begins) n part (omega (arith, begun.0, fits.each)) is in
                  inl (begun_client change.begins t c.begins begun.1, begun_clear change.begins following.0 part following.1)
            ]

        lock_after : IsUnlocked program policy annotations machine fits.recorded fits.fields among ⊎ ((l : IsLocked program policy annotations machine fits.recorded fits.fields among) × (l.owner ≢ number))
            → IsUnlocked program policy annotations now fits.recorded fits.fields among_after ⊎ IsLocked program policy annotations now fits.recorded fits.fields among_after
        lock_after (inl u) = inl (record { free = c.locks ∙ u.free; variables = u.variables; threads = others_after (λ n. Unit {0}) u.threads })
        lock_after (inr (l, differ)) =
            inr (record {
              owner = l.owner;
              locked = c.locks ∙ l.locked;
              thread = l.thread;
              there = other_stays number machine change l.owner differ (slice_get_within machine.threads l.owner l.thread l.there) ∙ l.there;
              part = l.part;
              part_there = get_before among (begun_parts change.begins) l.owner (slice_get_within among l.owner l.part l.part_there) ∙ l.part_there;
              owns = l.owns;
              others = others_after (λ n. n ≢ l.owner) l.others;
            })

        pub client_keeps : IsUnlocked program policy annotations machine fits.recorded fits.fields among ⊎ ((l : IsLocked program policy annotations machine fits.recorded fits.fields among) × (l.owner ≢ number))
            → IsKept program policy annotations now more_seen
        client_keeps lock = record {
          obeys = still_obeys;
          fits = λ goes.
              record {
                world = c.world;
                fields = fits.fields;
                there = c.variables ∙ fits.there;
                recorded = fits.recorded;
                ranged = fits.ranged;
                among = among_after;
                each = each_after;
                agree = agree_after;
                lock = lock_after lock;
              };
        }

    -- ---- by a thread in a block

    module _ (mine : Bool) (part : Part) (part_there : slice_get among number ≡ Some part) (fair : Fair part)
        (c : ChangesBlock program policy annotations mine (world_of machine) number fits.recorded part change)
        (fairs : (n : ℕ) (q : Part) → n ≢ number → slice_get among n ≡ Some q → Fair q)
        (others_loose : mine ≡ true → (n : ℕ) (q : Part) → n ≢ number → slice_get among n ≡ Some q → Loose q) where
      abbrev block_parts : List Part
      block_parts = slice_set among number c.due

      own_within : number < length among
      own_within = slice_get_within among number part part_there

      block_each : length block_parts ≡ length now.threads
      block_each =
          length_set among number c.due ∙ fits.each
          ∙ sym (length-append (slice_set machine.threads number change.thread) (option_to_list change.begins)
          ∙ ap (λ (b : Option Thread). length (slice_set machine.threads number change.thread) + length (option_to_list b)) c.begins
          ∙ ap (λ (n : ℕ). n + 0) (length_set machine.threads number change.thread) ∙ no_more (length machine.threads)) where
            no_more : (n : ℕ) → n + 0 ≡ n
            no_more n = omega arith

      either_loose : (Loose part × Loose c.due × IfSome (clause_event policy change.event) (IsLooseEvent policy annotations.held Fit)) ⊎ ((n : ℕ) (q : Part) → n ≢ number → slice_get among n ≡ Some q → Loose q)
      either_loose = by mine refl c.loose where
        by : (b : Bool) → mine ≡ b → AreLoose program policy annotations b part (clause_event policy change.event) c.due
            → (Loose part × Loose c.due × IfSome (clause_event policy change.event) (IsLooseEvent policy annotations.held Fit)) ⊎ ((n : ℕ) (q : Part) → n ≢ number → slice_get among n ≡ Some q → Loose q)
        by true is loose = inr (others_loose is)
        by false is loose = inl loose

      pub turned : Agree (next policy) (initial policy) (spoken policy more_seen) c.now (all_granted block_parts) (all_owed block_parts) × ObeysIn (is_always annotations.held) policy more_seen
      turned =
          turn_keeps seen fits.recorded c.now among number part c.due change.event fits.ranged c.ranged part_there c.turns fair c.fair c.fit fairs either_loose fits.agree obeys

      -- those that were no owners are none
      pub others_stay : (IsMeant : ℕ → Type 0) → AreOthers program policy annotations IsMeant machine.threads among
          → (n : ℕ) (t : Thread) (q : Part) → IsMeant n → n ≢ number → slice_get now.threads n ≡ Some t → slice_get block_parts n ≡ Some q → IsOther program policy annotations t q
      others_stay IsMeant others n t q meant differ e is =
          elim (was_thread machine.threads number change.thread change.begins n t e within) [
            | inl own ↦ absurd (differ own.0)
            | inr (inl old) ↦ others n t q meant old.1 (sym (set_elsewhere among n number c.due (λ same. differ (sym same))) ∙ is)
            | inr (inr begun) ↦ let none = c.begins in let some = begun.1 in absurd cc
          ]

      -- and this one is none
      all_others : (IsMeant : ℕ → Type 0) → AreOthers program policy annotations (λ n. IsMeant n × (n ≢ number)) machine.threads among → IsOther program policy annotations change.thread c.due
          → AreOthers program policy annotations IsMeant now.threads block_parts
      all_others IsMeant others own n t q meant e is = elim (cases_eq n number) [
        | inl same ↦
            let at_own : slice_get now.threads number ≡ Some t = subst (λ (i : ℕ). slice_get now.threads i ≡ Some t) same e in
            let thread_is : change.thread ≡ t = some_is change.thread t (sym (own_thread machine.threads change.begins number change.thread within) ∙ at_own) in
            let at_part : slice_get block_parts number ≡ Some q = subst (λ (i : ℕ). slice_get block_parts i ≡ Some q) same is in
            let part_is : c.due ≡ q = some_is c.due q (sym (set_there among number c.due own_within) ∙ at_part) in
            subst (IsOther program policy annotations t) part_is (subst (λ (x : Thread). IsOther program policy annotations x c.due) thread_is own)
        | inr differ ↦ others_stay (λ m. IsMeant m × (m ≢ number)) others n t q (meant, differ) differ e is
      ]

      abbrev Fitting : List Value → Type 0
      Fitting fields = IsUnlocked program policy annotations now c.now fields block_parts ⊎ IsLocked program policy annotations now c.now fields block_parts

      pub block_fits : is_clean now → (fields : List Value) → slice_get now.statics (state_of program policy annotations) ≡ Some fields → Fitting fields → Fits program policy annotations now more_seen
      block_fits clean fields variables lock = record {
        world = clean;
        fields = fields;
        there = variables;
        recorded = c.now;
        ranged = c.ranged;
        among = block_parts;
        each = block_each;
        agree = turned.0;
        lock = lock;
      }

    -- by the thread that holds the lock, or takes it
    pub holder_keeps : (part : Part) (part_there : slice_get among number ≡ Some part) → Fair part → ChangesBlock program policy annotations true (world_of machine) number fits.recorded part change
        → AreOthers program policy annotations (λ n. n ≢ number) machine.threads among → IsKept program policy annotations now more_seen
    holder_keeps part part_there fair c others =
        let known = λ (n : ℕ) (q : Part) (differ : n ≢ number) (is : slice_get among n ≡ Some q). other_known others n q differ is in
        let fairs = λ (n : ℕ) (q : Part) (differ : n ≢ number) (is : slice_get among n ≡ Some q). (known n q differ is).0 in
        let looses = λ (yes : true ≡ true) (n : ℕ) (q : Part) (differ : n ≢ number) (is : slice_get among n ≡ Some q). (known n q differ is).1 in
        record {
          obeys = (turned true part part_there fair c fairs looses).1;
          fits = λ goes. let made = c.goes goes in by fairs looses made.0 made.1;
        } where
          other_known : AreOthers program policy annotations (λ n. n ≢ number) machine.threads among → (n : ℕ) (q : Part) → n ≢ number → slice_get among n ≡ Some q → Fair q × Loose q
          other_known others n q differ is =
              let t = slice_get_there machine.threads n (omega (arith, slice_get_within among n q is, fits.each)) in
              let o = others n t.0 q differ t.1 is in
              (other_fair t.0 q o, other_loose t.0 q o)

          by : (fairs : (n : ℕ) (q : Part) → n ≢ number → slice_get among n ≡ Some q → Fair q) (looses : true ≡ true → (n : ℕ) (q : Part) → n ≢ number → slice_get among n ≡ Some q → Loose q)
              → is_clean now → StaysOwner program policy annotations number change c.now c.due ⊎ GivesUp program policy annotations change c.now c.due → Fits program policy annotations now more_seen
          by fairs looses clean (inl s) =
              block_fits true part part_there fair c fairs looses clean s.fields s.variables
              (inr (record {
                owner = number;
                locked = s.locks;
                thread = change.thread;
                there = own_thread machine.threads change.begins number change.thread within;
                part = c.due;
                part_there = set_there among number c.due (slice_get_within among number part part_there);
                owns = s.owns;
                others = λ n t q differ e is. others_stay true part part_there fair c fairs looses (λ m. m ≢ number) others n t q differ differ e is;
              }))
          by fairs looses clean (inr g) =
              block_fits true part part_there fair c fairs looses clean g.fields g.variables
              (inl (record {
                free = g.locks;
                variables = g.are;
                threads = all_others true part part_there fair c fairs looses (λ m. Unit {0}) (λ n t q meant e is. others n t q meant.1 e is) g.other;
              }))

    -- by a thread in a block that does not hold it
    pub other_keeps : (part : Part) (part_there : slice_get among number ≡ Some part) → Fair part → ChangesBlock program policy annotations false (world_of machine) number fits.recorded part change
        → (fairs : (n : ℕ) (q : Part) → n ≢ number → slice_get among n ≡ Some q → Fair q)
        → IsUnlocked program policy annotations machine fits.recorded fits.fields among ⊎ ((l : IsLocked program policy annotations machine fits.recorded fits.fields among) × (l.owner ≢ number))
        → IsKept program policy annotations now more_seen
    other_keeps part part_there fair c fairs lock = record {
      obeys = (turned false part part_there fair c fairs looses).1;
      fits = λ goes. let made = c.goes goes in block_fits false part part_there fair c fairs looses made.0 fits.fields (made.1.variables ∙ fits.there) (by made.1 lock);
    } where
      looses : false ≡ true → (n : ℕ) (q : Part) → n ≢ number → slice_get among n ≡ Some q → Loose q
      looses never n q differ is = absurd cc

      by : StaysOther program policy annotations (world_of machine) change fits.recorded c.now c.due
          → IsUnlocked program policy annotations machine fits.recorded fits.fields among ⊎ ((l : IsLocked program policy annotations machine fits.recorded fits.fields among) × (l.owner ≢ number))
          → IsUnlocked program policy annotations now c.now fits.fields (slice_set among number c.due) ⊎ IsLocked program policy annotations now c.now fits.fields (slice_set among number c.due)
      by s (inl u) =
          inl (record {
            free = s.locks ∙ u.free;
            variables = rw s.still u.variables;
            threads = all_others false part part_there fair c fairs looses (λ m. Unit {0}) (λ n t q meant e is. u.threads n t q tt e is) s.other;
          })
      by s (inr (l, differ)) =
          inr (record {
            owner = l.owner;
            locked = s.locks ∙ l.locked;
            thread = l.thread;
            there = other_stays number machine change l.owner differ (slice_get_within machine.threads l.owner l.thread l.there) ∙ l.there;
            part = l.part;
            part_there = set_elsewhere among l.owner number c.due (λ same. differ (sym same)) ∙ l.part_there;
            owns = subst (λ (v : Values). IsInBlock program policy annotations true v fits.fields l.thread l.part) (sym s.still) l.owns;
            others = all_others false part part_there fair c fairs looses (λ m. m ≢ l.owner) (λ n t q meant e is. l.others n t q meant.0 e is) s.other;
          })
