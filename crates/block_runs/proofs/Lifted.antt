-- The laws: one step of the client, whatever it is, is lifted, and so is every list of them.
use Rattle.std.proofs.Common.{◌≡◌, ◌∙◌, ℕ, Bool, true, false, cond, List, [], ◌∷◌, Option, Some, None, refl, sym, ap, subst, inl, inr}
use Rattle.std.specs.Prelude.{◌⊎◌, if◌then◌else◌, is_some, not, option_and_then, slice_get}
use Rattle.std.specs.Option.{option_map_or}
use Rattle.api_listing.specs.declared.descriptor.FieldType.{FieldType}
use Rattle.api_listing.specs.declared.events.ApiAnswer.{ApiAnswer}
use Rattle.api_listing.specs.declared.events.ApiAnswer.TheVariants as given
use Rattle.api_listing.specs.declared.events.Event.{Event}
use Rattle.api_listing.specs.declared.events.Event.TheVariants as events
use Rattle.api_listing.specs.declared.types.Listing.{Listing}
use Rattle.insn_codec.specs.declared.insn.Insn.{Insn}
use Rattle.bytecode_model.specs.declared.program.Method.{Method}
use Rattle.bytecode_model.specs.declared.program.Program.{Program}
use Rattle.bytecode_model.specs.declared.program.Target.{Target}
use Rattle.bytecode_model.specs.declared.program.Target.TheVariants as target
use Rattle.bytecode_model.specs.SearchOrder.{Name}
use Rattle.cert_format.specs.declared.certificate.Mode.{Mode}
use Rattle.conspec_automaton.specs.declared.policy.Policy.{Policy}
use Rattle.conspec_automaton.specs.Next.{Values, has_clauses}
use Rattle.guest_heap.specs.declared.frame.Frame.{Frame}
use Rattle.guest_heap.specs.declared.object.Object.{Object}
use Rattle.guest_heap.specs.declared.thread.Doing.{Doing}
use Rattle.guest_heap.specs.declared.thread.Doing.TheVariants as doings
use Rattle.guest_heap.specs.declared.thread.Thread.{Thread}
use Rattle.guest_heap.specs.declared.value.Value.{Value}
use Rattle.guest_model.specs.declared.machine.Choice.{Choice}
use Rattle.guest_model.specs.declared.machine.Choice.TheVariants as choices
use Rattle.guest_model.specs.declared.machine.Machine.{Machine}
use Rattle.guest_model.specs.declared.machine.Step.{Step}
use Rattle.guest_model.specs.Answering.{answer_fits, answered, thrown_by}
use Rattle.guest_model.specs.Answers.{may_throw}
use Rattle.guest_model.specs.Calls.{types_of}
use Rattle.guest_model.specs.Changes.{Change, applied, throws_new, world_of}
use Rattle.guest_model.specs.Parts.{null_pointer}
use Rattle.guest_model.specs.Places.{insn_at}
use Rattle.guest_model.specs.Stepping.{changed, doing_stepped, insn_stepped, is_on_null, null_thrown, stepped}
use Rattle.guest_model.proofs.Options.{all_get, and_then_of, map_of, some_is}
use Rattle.guest_erasing.specs.Laid.{IsClientName}
use Rattle.guest_erasing.specs.Mirrors.{AreBelow, FrameMirrors, FramesMirror, IsAtCall, IsAtFront, ThreadMirrors}
use Rattle.guest_erasing.specs.Places.{has_block}
use Rattle.guest_erasing.specs.Steps.{AreRoomy, is_alone}
use Rattle.guest_erasing.proofs.Answering.{fits_same, throw_own}
use Rattle.guest_erasing.proofs.Calling.{are_clients}
use Rattle.guest_erasing.proofs.Climbing.{lifts_ran}
use Rattle.guest_erasing.proofs.Runs.{all_lifted}
use Rattle.guest_erasing.proofs.Steps.{got_alike}
use Rattle.block_runs.specs.Joining.{AllWait, IsAllowed, IsLifted, IsWovenBy, MirrorsIn, RunsAreLifted, StandsAtCall, StepsAreLifted, sites}
use Rattle.block_runs.proofs.Alone.{alone_lifted}
use Rattle.block_runs.proofs.Answered.{Fits, Returns, Throws, answer_throws, answered_is}
use Rattle.block_runs.proofs.Calls.{call_lifted}
use Rattle.block_runs.proofs.Joined.{changed_is, not_stopped}
use Rattle.block_runs.proofs.Returns.{return_lifted}
use Rattle.block_runs.proofs.Standing.{IsAtBlock, at_block, at_some}
use Rattle.block_runs.proofs.Thrown.{throw_lifted}
use Rattle.block_runs.proofs.Waiting.{waits_kept}

-- what an answer throws the library may throw
throws_well : (program : Program) (heap : List Object) (result : Option FieldType) (receiver : Option Value) (arguments : List Value)
    (answer : ApiAnswer) (class : Name)
    → thrown_by answer ≡ Some class → answer_fits program heap result receiver arguments answer ≡ true → may_throw program class ≡ true
throws_well program heap result receiver arguments given.Nothing class e fits = absurd cc
throws_well program heap result receiver arguments (given.Int n) class e fits = absurd cc
throws_well program heap result receiver arguments given.Null class e fits = absurd cc
throws_well program heap result receiver arguments (given.Text text) class e fits = absurd cc
throws_well program heap result receiver arguments (given.Fresh name) class e fits = absurd cc
throws_well program heap result receiver arguments (given.Arg i) class e fits = absurd cc
throws_well program heap result receiver arguments given.Receiver class e fits = absurd cc
throws_well program heap result receiver arguments (given.Throws name) class e fits =
    let same : name ≡ class = cc in
    subst (λ (n : Name). may_throw program n ≡ true) same fits

module _ (policy : Policy) (mode : Mode) (client woven : Program) (w : IsWovenBy policy mode client woven) (roomy : AreRoomy client)
    (now new : Values)
    (machine other : Machine) (m : MirrorsIn policy mode client woven now machine other) (number : ℕ) (choice : Choice)
    (made : Machine × Option Event)
    (is : stepped client machine (record { thread = number; choice = choice }) ≡ Some made)
    (allowed : IsAllowed policy mode client now machine (record { thread = number; choice = choice }) made new)
    (waits : AllWait client machine) where
  abbrev step : Step
  step = record { thread = number; choice = choice }

  abbrev Lifted : Type 0
  Lifted = IsLifted policy mode client woven other step made new

  on : machine.stopped ≡ None
  on = not_stopped client machine step made is

  -- ---- a thread that waits for the library, at a call with a block

  module _ (frame next : Frame) (below others : List Frame) (to_begin more_begin : List (ℕ × ℕ)) (listed : ℕ) (receiver : Option Value)
      (arguments : List Value)
      (there : slice_get machine.threads number ≡ Some
      (record { frames = frame ∷ below; to_begin = to_begin; doing = doings.InCall listed receiver arguments }))
      (woven_there : slice_get other.threads number ≡ Some
      (record { frames = next ∷ others; to_begin = more_begin; doing = doings.InCall listed receiver arguments }))
      (same : more_begin ≡ to_begin)
      (at : IsAtCall (sites policy mode) client woven frame next) (bs : AreBelow (sites policy mode) client woven below others)
      (b : IsAtBlock policy mode client woven frame next at.mirrors listed) (change : Change)
      (made_is : (applied number machine change, change.event) ≡ made) where
    abbrev its : Thread
    its = record { frames = frame ∷ below; to_begin = to_begin; doing = doings.InCall listed receiver arguments }

    abbrev more : Thread
    more = record { frames = next ∷ others; to_begin = more_begin; doing = doings.InCall listed receiver arguments }

    -- the library throws an object of the class in both programs
    throws_both : (class : Name) → IsClientName class
        → throws_new client (world_of machine) number its (frame ∷ below) class (Some (events.Except number listed)) ≡ change
        → changed woven other step ≡ Some
        (throws_new woven (world_of other) number more (next ∷ others) class (Some (events.Except number listed)))
        → Lifted
    throws_both class own throws_it there_too =
        let all : (
          applied number machine
              (throws_new client (world_of machine) number its (frame ∷ below) class (Some (events.Except number listed))),
          Some
              (events.Except number listed),
        ) ≡ made =
        ap (λ (c : Change). (applied number machine c, c.event)) throws_it ∙ made_is in
        subst (λ (x : Machine × Option Event). IsLifted policy mode client woven other step x new) all
        (throw_lifted policy mode client woven w roomy now new machine other m allowed.ours number frame next below others
        to_begin more_begin
        listed receiver arguments there woven_there same at bs b class own choice there_too
        (subst (λ (x : Machine × Option Event). IsAllowed policy mode client now machine step x new) (sym all) allowed))

    null_by : (null : Bool) → is_on_null receiver ≡ null → choice ≡ choices.Plain
        → cond null (null_thrown client (world_of machine) number its listed) None ≡ Some change → Lifted
    null_by false e plain stepping = absurd cc
    null_by true e plain stepping =
        throws_both null_pointer refl (some_is _ change stepping)
        (changed_is woven other step more (m.mirrors.stopped ∙ on) woven_there
        ∙ ap (λ (c : Choice). doing_stepped woven other number more (doings.InCall listed receiver arguments) c) plain
        ∙ ap (λ (x : Bool). cond x (null_thrown woven (world_of other) number more listed) None) e)

    fits_both : (answer : ApiAnswer) → Fits client (world_of machine) number its listed receiver arguments answer
        → Fits woven (world_of other) number more listed receiver arguments answer
    fits_both answer fit = record {
      listed = fit.listed;
      there = ap (λ (l : Listing). slice_get l.methods listed) w.tell.listing ∙ fit.there;
      fits =
          ap (λ (h : List Object). answer_fits woven h (types_of fit.listed.id.desc).result receiver arguments answer) m.mirrors.heap
          ∙ fits_same (sites policy mode) client woven w.tell roomy machine.heap (are_clients client machine.heap allowed.ours.objects)
          (types_of fit.listed.id.desc).result receiver arguments answer
          ∙ fit.fits;
    }

    answer_by : (null : Bool) → is_on_null receiver ≡ null → (answer : ApiAnswer) → choice ≡ choices.Answer answer
        → cond null None (answered client (world_of machine) number its listed receiver arguments answer) ≡ Some change → Lifted
    answer_by true e answer chosen stepping = absurd cc
    answer_by false e answer chosen stepping =
        by (answered_is client (world_of machine) number its listed receiver arguments answer change stepping)
      where
        by : Returns client (world_of machine) number its listed receiver arguments answer change ⊎ Throws client
            (world_of machine) number its listed receiver arguments answer change
            → Lifted
        by (inl r) =
            let chosen_step : record { thread = number; choice = choices.Answer answer } ≡ step = ap
            (λ (c : Choice). record { thread = number; choice = c }) (sym chosen) in
            subst (λ (s : Step). IsLifted policy mode client woven other s made new) chosen_step
            (return_lifted policy mode client woven w roomy now new machine other m allowed.ours number frame next below others
            to_begin more_begin
            listed receiver arguments there woven_there same at bs b answer on e made change r made_is
            (subst (λ (s : Step). IsAllowed policy mode client now machine s made new) (sym chosen_step) allowed))
        by (inr t) =
            throws_both t.class
            (throw_own (sites policy mode) client woven w.tell roomy t.class
            (throws_well client machine.heap
            (types_of t.fit.listed.id.desc).result receiver arguments answer t.class t.throws t.fit.fits)) t.is
            (changed_is woven other step more (m.mirrors.stopped ∙ on) woven_there
            ∙ ap (λ (c : Choice). doing_stepped woven other number more (doings.InCall listed receiver arguments) c) chosen
            ∙ ap (λ (x : Bool). cond x None (answered woven (world_of other) number more listed receiver arguments answer)) e
            ∙ answer_throws woven (world_of other) number more listed receiver arguments answer (fits_both answer t.fit) t.class t.throws)

    call_by : (c : Choice) → choice ≡ c → doing_stepped client machine number its (doings.InCall listed receiver arguments) c ≡ Some change
        → Lifted
    call_by choices.Plain chosen stepping = null_by (is_on_null receiver) refl chosen stepping
    call_by (choices.Answer answer) chosen stepping = answer_by (is_on_null receiver) refl answer chosen stepping

  -- ---- a frame at an instruction with a block

  has_one : (frame next : Frame) (mm : FrameMirrors (sites policy mode) client woven frame next)
      → is_alone (sites policy mode) client frame ≡ false
      → has_block (sites policy mode mm.old) frame.at ≡ true
  has_one frame next mm e =
      by (has_block (sites policy mode mm.old) frame.at)
      (sym (ap (λ (o : Option Method). option_map_or (λ method. not (has_block (sites policy mode method) frame.at)) o false) mm.there) ∙ e)
    where
      by : (x : Bool) → not x ≡ false → x ≡ true
      by true f = refl
      by false f = absurd cc

  abbrev thread_of : List Frame → List (ℕ × ℕ) → Doing → Thread
  thread_of frames to_begin doing = record { frames = frames; to_begin = to_begin; doing = doing }

  runs_by : (c : Choice) → choice ≡ c → (frame next : Frame) (below others : List Frame) (to_begin more_begin : List (ℕ × ℕ))
      → slice_get machine.threads number ≡ Some (thread_of (frame ∷ below) to_begin doings.Running)
      → slice_get other.threads number ≡ Some (thread_of (next ∷ others) more_begin doings.Running) → more_begin ≡ to_begin
      → IsAtFront (sites policy mode) client woven frame next → AreBelow (sites policy mode) client woven below others
      → is_alone (sites policy mode) client frame ≡ false → (change : Change)
      → doing_stepped client machine number (thread_of (frame ∷ below) to_begin doings.Running) doings.Running c ≡ Some change → Lifted
  runs_by (choices.Answer answer) chosen frame next below others to_begin more_begin there woven_there same at bs alone change stepping =
      absurd cc
  runs_by choices.Plain chosen frame next below others to_begin more_begin there woven_there same at bs alone change stepping =
      let a = and_then_of
      (insn_stepped client machine
      (record { number = number; thread = thread_of (frame ∷ below) to_begin doings.Running; frame = frame; below = below }))
      (insn_at client frame) change stepping in
      let b = at_some policy mode client woven w frame next at.mirrors a.0 a.1 (has_one frame next at.mirrors alone) in
      let chosen_step : record { thread = number; choice = choices.Plain } ≡ step = ap
      (λ (c : Choice). record { thread = number; choice = c }) (sym chosen) in
      subst (λ (s : Step). IsLifted policy mode client woven other s made new) chosen_step
      (call_lifted policy mode client woven w now new machine other m number frame next below others to_begin more_begin
      there woven_there same at bs b.0 b.1 made
      (subst (λ (s : Step). stepped client machine s ≡ Some made) (sym chosen_step) is)
      (subst (λ (s : Step). IsAllowed policy mode client now machine s made new) (sym chosen_step) allowed))

  -- its instruction calls the method for which it waits
  named_so : (frame : Frame) (insn other_insn : Insn) (listed named : ℕ) → insn_at client frame ≡ Some (insn, target.ApiMethod listed)
      → insn_at client frame ≡ Some (other_insn, target.ApiMethod named) → named ≡ listed
  named_so frame insn other_insn listed named at again =
      let pair : (other_insn, target.ApiMethod named) ≡ (insn, target.ApiMethod listed) = some_is _ _ (sym again ∙ at) in
      let ref : target.ApiMethod named ≡ target.ApiMethod listed = ap (λ (p : Insn × Target). p.1) pair in cc

  waits_by : (frame next : Frame) (below others : List Frame) (to_begin more_begin : List (ℕ × ℕ)) (listed : ℕ) (receiver : Option Value)
      (arguments : List Value)
      → slice_get machine.threads number ≡ Some (thread_of (frame ∷ below) to_begin (doings.InCall listed receiver arguments))
      → slice_get other.threads number ≡ Some (thread_of (next ∷ others) more_begin (doings.InCall listed receiver arguments))
      → more_begin ≡ to_begin
      → IsAtCall (sites policy mode) client woven frame next → AreBelow (sites policy mode) client woven below others
      → StandsAtCall client (doings.InCall listed receiver arguments) (frame ∷ below)
      → is_alone (sites policy mode) client frame ≡ false → (change : Change)
      → doing_stepped client machine number (thread_of (frame ∷ below) to_begin (doings.InCall listed receiver arguments))
      (doings.InCall listed receiver arguments) choice ≡ Some change
      → (applied number machine change, change.event) ≡ made → Lifted
  waits_by frame next below others to_begin more_begin listed receiver arguments there woven_there same at bs
      (insn, here) alone change stepping made_is =
      let b = at_some policy mode client woven w frame next at.mirrors (insn, target.ApiMethod listed) here
      (has_one frame next at.mirrors alone) in
      let clauses : has_clauses policy listed ≡ true =
      subst (λ (n : ℕ). has_clauses policy n ≡ true) (named_so frame insn b.1.insn listed b.0 here b.1.at) b.1.clauses in
      call_by frame next below others to_begin more_begin listed receiver arguments there woven_there same at bs
      (at_block policy mode client woven w frame next at.mirrors insn listed here clauses) change made_is choice refl stepping

  -- ---- the step

  alone_by : (frame : Frame) (below : List Frame) (to_begin : List (ℕ × ℕ)) (doing : Doing)
      → slice_get machine.threads number ≡ Some (thread_of (frame ∷ below) to_begin doing)
      → is_alone (sites policy mode) client frame ≡ true → Lifted
  alone_by frame below to_begin doing there alone =
      alone_lifted policy mode client woven w roomy now new machine other step made m is allowed waits
      (record { thread = thread_of (frame ∷ below) to_begin doing; there = there; frame = frame; top = refl; alone = alone })

  none_runs : (c : Choice) (to_begin : List (ℕ × ℕ)) (change : Change)
      → doing_stepped client machine number (thread_of [] to_begin doings.Running) doings.Running c ≡ Some change → ⊥
  none_runs choices.Plain to_begin change e = cc
  none_runs (choices.Answer answer) to_begin change e = cc

  frames_by : (doing : Doing) (frames others : List Frame) (to_begin more_begin : List (ℕ × ℕ))
      → slice_get machine.threads number ≡ Some (thread_of frames to_begin doing)
      → slice_get other.threads number ≡ Some (thread_of others more_begin doing)
      → more_begin ≡ to_begin → FramesMirror (sites policy mode) client woven doing frames others → StandsAtCall client doing frames
      → (change : Change)
      → doing_stepped client machine number (thread_of frames to_begin doing) doing choice ≡ Some change
      → (applied number machine change, change.event) ≡ made → Lifted
  frames_by doings.Running [] others to_begin more_begin there woven_there same mirrors stands change stepping made_is =
      absurd (none_runs choice to_begin change stepping)
  frames_by doings.Running (frame ∷ below)
      [] to_begin more_begin there woven_there same mirrors stands change stepping made_is =
      absurd mirrors
  frames_by doings.Running (frame ∷ below)
      (next ∷ others) to_begin more_begin there woven_there same mirrors stands change stepping made_is =
      by (is_alone (sites policy mode) client frame) refl
    where
      by : (x : Bool) → is_alone (sites policy mode) client frame ≡ x → Lifted
      by true e = alone_by frame below to_begin doings.Running there e
      by false e =
          runs_by choice refl frame next below others to_begin more_begin there woven_there same mirrors.0 mirrors.1 e change stepping
  frames_by (doings.InCall listed receiver arguments) []
      others to_begin more_begin there woven_there same mirrors stands change stepping made_is =
      absurd stands
  frames_by (doings.InCall listed receiver arguments) (frame ∷ below)
      [] to_begin more_begin there woven_there same mirrors stands change stepping made_is =
      absurd mirrors
  frames_by (doings.InCall listed receiver arguments) (frame ∷ below)
      (next ∷ others) to_begin more_begin there woven_there same mirrors stands change stepping made_is =
      by (is_alone (sites policy mode) client frame) refl
    where
      by : (x : Bool) → is_alone (sites policy mode) client frame ≡ x → Lifted
      by true e = alone_by frame below to_begin (doings.InCall listed receiver arguments) there e
      by false e =
          waits_by frame next below others to_begin more_begin listed receiver arguments there woven_there same mirrors.0 mirrors.1
          stands e change stepping made_is
  frames_by doings.Ended frames others to_begin more_begin there woven_there same mirrors stands change stepping made_is =
      absurd cc

  one_lifted : Lifted
  one_lifted =
      let its = map_of (λ (c : Change). (applied number machine c, c.event)) (changed client machine step) made is in
      let whole : option_and_then (λ (t : Thread). doing_stepped client machine number t t.doing choice)
      (slice_get machine.threads number) ≡ Some its.0 =
      sym (ap (λ (o : Option _). if is_some o then None else option_and_then
      (λ (t : Thread). doing_stepped client machine number t t.doing choice) (slice_get machine.threads number)) on) ∙ its.1 in
      let t = and_then_of (λ (t : Thread). doing_stepped client machine number t t.doing choice)
      (slice_get machine.threads number) its.0 whole in
      let u = got_alike (ThreadMirrors (sites policy mode) client woven) machine.threads other.threads number t.0 m.mirrors.threads t.1 in
      let woven_there : slice_get other.threads number ≡ Some (thread_of u.0.frames u.0.to_begin t.0.doing) =
      u.1 ∙ ap (λ (d : Doing). Some (thread_of u.0.frames u.0.to_begin d)) u.2.doing in
      frames_by t.0.doing t.0.frames u.0.frames t.0.to_begin u.0.to_begin t.1 woven_there u.2.to_begin u.2.frames
      (all_get (λ (x : Thread). StandsAtCall client x.doing x.frames) machine.threads number t.0 waits t.1) its.0 t.2 its.2

pub steps_lifted : StepsAreLifted
steps_lifted policy mode client woven w roomy now new machine other step made m waits is allowed =
    one_lifted policy mode client woven w roomy now new machine other m step.thread step.choice made is allowed waits

pub runs_lifted : RunsAreLifted
runs_lifted policy mode client woven w roomy steps now end machine other m waits goes =
    let Both : Values → Machine → Machine → Type 0 = λ state before after.
    MirrorsIn policy mode client woven state before after × AllWait client before in
    let all = all_lifted (IsAllowed policy mode client) (sites policy mode) client woven Both
    (λ state next before other step made both is allowed.
    let l = steps_lifted policy mode client woven w roomy state next before other step made both.0 both.1 is allowed in (
      l.after,
      (
        lifts_ran (sites policy mode) client woven other step made.1 l.after l.lifts,
        (l.mirrors, waits_kept client before step made both.1 is),
      ),
    )) steps now end machine other (m, waits) goes in
    record { after = all.0; ran = all.1.0; mirrors = all.1.1.0 }
