-- What lifting a list of steps comes to.
use Rattle.std.proofs.Common.{◌≡◌, ◌∙◌, ℕ, ◌+◌, Bool, true, false, List, [], ◌∷◌, ◌++◌, length, Option, Some, None, Result, Ok, Err, refl, sym, ap, subst, inl, inr, arith, append_assoc, append-nil}
use Rattle.std.specs.Prelude.{⊤, ◌⊎◌, IsOk}
use Rattle.std.specs.Option.{IsSomeAnd, option_map_or, option_to_list}
use Rattle.mon_base.specs.Reading.{◌>>=◌, need}
use Rattle.api_listing.specs.declared.events.Event.{Event}
use Rattle.bytecode_model.specs.declared.program.Program.{Program}
use Rattle.cert_format.specs.declared.certificate.Mode.{Mode}
use Rattle.cert_format.specs.declared.certificate.Mode.TheVariants.{Hold, Release}
use Rattle.conspec_automaton.specs.declared.policy.Policy.{Policy}
use Rattle.conspec_automaton.specs.Next.{Values, initial, next}
use Rattle.conspec_automaton.specs.Obeys.{after}
use Rattle.event_record.specs.RunLines.{AreLinesFrom}
use Rattle.guest_model.specs.declared.machine.Machine.{Machine}
use Rattle.guest_model.specs.declared.machine.Step.{Step}
use Rattle.guest_model.specs.Runs.{exec, exec_from, seen, start_of, stepped_or_same, trace, trace_from}
use Rattle.guest_model.specs.Stepping.{stepped}
use Rattle.guest_erasing.specs.Accepted.{AreApart, IsAcceptedRun}
use Rattle.guest_erasing.specs.Lifting.{lifted_from, lifted_step}
use Rattle.guest_erasing.specs.Runs.{AreMadeFrom}
use Rattle.guest_erasing.proofs.Accepted.{spoken_alone}
use Rattle.guest_erasing.proofs.Runs.{comes_to, sees}
use Rattle.lift_schedule.specs.declared.client.ClientRun.{ClientRun}
use Rattle.lift_schedule.specs.declared.fault.LiftFault.{LiftFault}
use Rattle.lift_schedule.specs.declared.fault.LiftFault.TheVariants as faults
use Rattle.lift_schedule.specs.declared.lifting.Lifted.{Lifted}
use Rattle.lift_schedule.specs.declared.woven.WovenRun.{WovenRun}
use Rattle.lift_schedule.specs.Laws.{IsLiftOf, LiftsAccepted, LiftsAreTold, StopsAt, TellsLift, steps_of}
use Rattle.lift_schedule.specs.Lifting.{after_step, blocks_in, lift_from, lift_of, lift_start}
use Rattle.lift_schedule.specs.Running.{client_stepped, lifted_stepped, overlaps, under_way_after}
use Rattle.lift_schedule.proofs.Judging.{ApartFrom, HasGone, TellsStep, accepted_back, accepted_on, apart_alone, apart_back, apart_first, apart_on, held_overlaps, step_told}
use Rattle.lift_schedule.proofs.Climbing.{TellsOn, WentOn, after_both, both, lifted_so, made_first, made_second, nothing}

module _ (policy : Policy) (mode : Mode) (client woven : Program) where
  -- the steps of the woven program from a machine on
  abbrev lifts : Machine → List Step → List Step
  lifts machine steps = lifted_from (blocks_in policy mode) client woven machine steps

  -- ---- from any place on

  -- The client makes the steps, the policy accepts what is seen, and calls do not overlap.
  record GoesOn (before : ClientRun) (steps : List Step) (end : Values) : Type 0 where
    pub made : AreMadeFrom client before.machine steps
    pub accepted : after (next policy) before.state (trace_from client before.machine steps) ≡ Some end
    pub apart : ApartFrom policy mode before.under_way (trace_from client before.machine steps)

  -- Both runs go on so.
  record BothGoOn (before : Lifted) (steps : List Step) (now : Lifted) : Type 0 where
    pub clients : GoesOn before.client steps now.client.state
    pub comes : now.client.machine ≡ exec_from client before.client.machine steps
    pub index : ℕ
    pub wovens : WentOn woven index before.woven (lifts before.woven.machine steps) now.woven

  abbrev Because : Type 1
  Because = Lifted → List Step → Values → Step → Type 0

  record StopsFrom (run : Lifted) (index : ℕ) (steps : List Step) (told : ℕ) (Why : Because) : Type 0 where
    pub before : List Step
    pub step : Step
    pub later : List Step
    pub whole : steps ≡ before ++ step ∷ later
    pub place : index + length before ≡ told
    pub state : Values
    pub goes : GoesOn run.client before state
    pub why : Why run before state step

  abbrev NotMade : Because
  NotMade run before state step =
      (stepped client (exec_from client run.client.machine before) step ≡ None)
      ⊎ (AreMadeFrom woven run.woven.machine (lifts run.woven.machine (before ++ step ∷ [])) → ⊥)

  abbrev Refused : Because
  Refused run before state step =
      (made : Machine) × (event : Event) × (stepped client (exec_from client run.client.machine before) step ≡ Some (made, Some event))
      × (next policy state event ≡ None)

  abbrev Overlapping : Because
  Overlapping run before state step =
      (mode ≡ Hold) × (ApartFrom policy mode run.client.under_way (trace_from client run.client.machine (before ++ step ∷ [])) → ⊥)

  abbrev TellsFrom : Lifted → ℕ → List Step → Result Lifted LiftFault → Type 0
  TellsFrom run index steps (Ok now) = BothGoOn run steps now
  TellsFrom run index steps (Err (faults.NotEnabled told)) = StopsFrom run index steps told NotMade
  TellsFrom run index steps (Err (faults.Disobeys told)) = StopsFrom run index steps told Refused
  TellsFrom run index steps (Err (faults.Overlaps told)) = StopsFrom run index steps told Overlapping
  TellsFrom run index steps (Err faults.Memory) = ⊥

  none_goes : (run : ClientRun) → GoesOn run [] run.state
  none_goes run = record { made = tt; accepted = refl; apart = none mode } where
    none : (m : Mode) → ApartFrom policy m run.under_way []
    none Release = tt
    none Hold = tt

  -- ---- a step, and others after it

  module _ (step : Step) (before after_one : ClientRun) (index : ℕ) (gone : HasGone policy mode client index step before after_one) where
    abbrev came : Machine × Option Event
    came = (after_one.machine, gone.event)

    comes : stepped_or_same client before.machine step ≡ after_one.machine
    comes = comes_to client before.machine step came gone.made

    trace_is : (steps : List Step)
        → trace_from client before.machine (step ∷ steps) ≡ option_to_list gone.event ++ trace_from client after_one.machine steps
    trace_is steps =
        ap (λ (es : List Event). es ++ trace_from client (stepped_or_same client before.machine step) steps) (sees client before.machine step came gone.made)
        ∙ ap (λ (m : Machine). option_to_list gone.event ++ trace_from client m steps) comes

    first_goes : (steps : List Step) (end : Values) → GoesOn after_one steps end → GoesOn before (step ∷ steps) end
    first_goes steps end goes = record {
      made = subst (λ (o : Option (Machine × Option Event)). IsSomeAnd o (λ (m : Machine × Option Event). AreMadeFrom client m.0 steps)) (sym gone.made) goes.made;
      accepted =
          ap (after (next policy) before.state) (trace_is steps)
          ∙ accepted_back policy index before.state after_one.state gone.event (trace_from client after_one.machine steps) gone.state
          ∙ goes.accepted;
      apart = subst (ApartFrom policy mode before.under_way) (sym (trace_is steps))
          (apart_back policy mode before.under_way gone.event (trace_from client after_one.machine steps) gone.apart
          (subst (λ (b : Bool). ApartFrom policy mode b (trace_from client after_one.machine steps)) gone.under_way goes.apart));
    }

    exec_is : (steps : List Step) → exec_from client before.machine (step ∷ steps) ≡ exec_from client after_one.machine steps
    exec_is steps = ap (λ (m : Machine). exec_from client m steps) comes

    apart_later : (steps : List Step) → ApartFrom policy mode before.under_way (trace_from client before.machine (step ∷ steps))
        → ApartFrom policy mode after_one.under_way (trace_from client after_one.machine steps)
    apart_later steps apart =
        subst (λ (b : Bool). ApartFrom policy mode b (trace_from client after_one.machine steps)) (sym gone.under_way)
        (apart_on policy mode before.under_way gone.event (trace_from client after_one.machine steps)
        (subst (ApartFrom policy mode before.under_way) (trace_is steps) apart))

  module _ (step : Step) (run now : Lifted) (index : ℕ) (gone : HasGone policy mode client index step run.client now.client)
      (went : WentOn woven index run.woven (lifted_step (blocks_in policy mode) client woven run.woven.machine step) now.woven) where
    abbrev here : List Step
    here = lifted_step (blocks_in policy mode) client woven run.woven.machine step

    lifts_is : (steps : List Step) → lifts run.woven.machine (step ∷ steps) ≡ here ++ lifts now.woven.machine steps
    lifts_is steps = ap (λ (m : Machine). here ++ lifts m steps) (sym went.comes)

    made_later : (steps : List Step) → AreMadeFrom woven run.woven.machine (lifts run.woven.machine (step ∷ steps))
        → AreMadeFrom woven now.woven.machine (lifts now.woven.machine steps)
    made_later steps made =
        subst (λ (m : Machine). AreMadeFrom woven m (lifts now.woven.machine steps)) (sym went.comes)
        (made_second woven here (lifts now.woven.machine steps) run.woven.machine
        (subst (AreMadeFrom woven run.woven.machine) (lifts_is steps) made))

    stops_later : (steps : List Step) (told : ℕ) (Why : Because)
        → ((before : List Step) (state : Values) (last : Step) → Why now before state last → Why run (step ∷ before) state last)
        → StopsFrom now (index + 1) steps told Why → StopsFrom run index (step ∷ steps) told Why
    stops_later steps told Why back stops = record {
      before = step ∷ stops.before;
      step = stops.step;
      later = stops.later;
      whole = ap (λ ss. step ∷ ss) stops.whole;
      place = omega (arith, stops.place);
      state = stops.state;
      goes = first_goes step run.client now.client index gone stops.before stops.state stops.goes;
      why = back stops.before stops.state stops.step stops.why;
    }

    exec_at : (before : List Step) (last : Step)
        → stepped client (exec_from client run.client.machine (step ∷ before)) last ≡ stepped client (exec_from client now.client.machine before) last
    exec_at before last = ap (λ (m : Machine). stepped client m last) (exec_is step run.client now.client index gone before)

    not_made_back : (before : List Step) (state : Values) (last : Step) → NotMade now before state last → NotMade run (step ∷ before) state last
    not_made_back before state last (inl none) = inl (exec_at before last ∙ none)
    not_made_back before state last (inr wrong) = inr (λ made. wrong (made_later (before ++ last ∷ []) made))

    refused_back : (before : List Step) (state : Values) (last : Step) → Refused now before state last → Refused run (step ∷ before) state last
    refused_back before state last (made, event, is, none) = (made, event, exec_at before last ∙ is, none)

    overlapping_back : (before : List Step) (state : Values) (last : Step) → Overlapping now before state last → Overlapping run (step ∷ before) state last
    overlapping_back before state last (held, wrong) =
        (held, λ apart. wrong (apart_later step run.client now.client index gone (before ++ last ∷ []) apart))

    following : (steps : List Step) (result : Result Lifted LiftFault) → TellsFrom now (index + 1) steps result → TellsFrom run index (step ∷ steps) result
    following steps (Ok end) goes = record {
      clients = first_goes step run.client now.client index gone steps end.client.state goes.clients;
      comes = goes.comes ∙ sym (exec_is step run.client now.client index gone steps);
      index = goes.index;
      wovens = subst (λ (ss : List Step). WentOn woven goes.index run.woven ss end.woven) (sym (lifts_is steps))
          (both woven goes.index run.woven now.woven end.woven here (lifts now.woven.machine steps) (at_index went) goes.wovens);
    } where
      at_index : WentOn woven index run.woven here now.woven → WentOn woven goes.index run.woven here now.woven
      at_index w = record { lines = w.lines; put = w.put; steps_are = w.steps_are; are = w.are; comes = w.comes }
    following steps (Err (faults.NotEnabled told)) stops = stops_later steps told NotMade not_made_back stops
    following steps (Err (faults.Disobeys told)) stops = stops_later steps told Refused refused_back stops
    following steps (Err (faults.Overlaps told)) stops = stops_later steps told Overlapping overlapping_back stops
    following steps (Err faults.Memory) none = none

  -- ---- where the first step stops it

  stops_here : (step : Step) (steps : List Step) (run : Lifted) (index told : ℕ) (Why : Because) → told ≡ index
      → Why run [] run.client.state step → StopsFrom run index (step ∷ steps) told Why
  stops_here step steps run index told Why same why = record {
    before = [];
    step = step;
    later = steps;
    whole = refl;
    place = omega (arith, same);
    state = run.client.state;
    goes = none_goes run.client;
    why = why;
  }

  -- a step more of the woven program, once the client has gone on
  woven_told : (step : Step) (steps : List Step) (run : Lifted) (index : ℕ) (clients : ClientRun)
      → HasGone policy mode client index step run.client clients
      → ((now : Lifted) → TellsFrom now (index + 1) steps (lift_from policy mode client woven (index + 1) now steps))
      → (r : Result WovenRun LiftFault) → TellsOn woven index run.woven (lifted_step (blocks_in policy mode) client woven run.woven.machine step) r
      → TellsFrom run index (step ∷ steps) ((r >>= λ wovens. Ok (record { client = clients; woven = wovens })) >>= λ now. lift_from policy mode client woven (index + 1) now steps)
  woven_told step steps run index clients gone later (Ok wovens) went =
      let now : Lifted = record { client = clients; woven = wovens } in
      following step run now index gone went steps (lift_from policy mode client woven (index + 1) now steps) (later now)
  woven_told step steps run index clients gone later (Err (faults.NotEnabled told)) (same, wrong) =
      stops_here step steps run index told NotMade same
      (inr (λ made. wrong (subst (AreMadeFrom woven run.woven.machine) (append-nil _) made)))
  woven_told step steps run index clients gone later (Err (faults.Disobeys told)) none = absurd none
  woven_told step steps run index clients gone later (Err (faults.Overlaps told)) none = absurd none
  woven_told step steps run index clients gone later (Err faults.Memory) none = none

  client_told : (step : Step) (steps : List Step) (run : Lifted) (index : ℕ)
      → ((now : Lifted) → TellsFrom now (index + 1) steps (lift_from policy mode client woven (index + 1) now steps))
      → (r : Result ClientRun LiftFault) → TellsStep policy mode client index step run.client r
      → TellsFrom run index (step ∷ steps)
      ((r >>= λ clients. lifted_stepped (blocks_in policy mode) client woven index step run.woven >>= λ wovens. Ok (record { client = clients; woven = wovens }))
      >>= λ now. lift_from policy mode client woven (index + 1) now steps)
  client_told step steps run index later (Ok clients) gone =
      woven_told step steps run index clients gone later (lifted_stepped (blocks_in policy mode) client woven index step run.woven)
      (lifted_so woven index (blocks_in policy mode) client step run.woven)
  client_told step steps run index later (Err (faults.NotEnabled told)) (same, none) = stops_here step steps run index told NotMade same (inl none)
  client_told step steps run index later (Err (faults.Disobeys told)) (same, made, event, is, none) =
      stops_here step steps run index told Refused same (made, event, is, none)
  client_told step steps run index later (Err (faults.Overlaps told)) (same, made, event, is, holds) =
      stops_here step steps run index told Overlapping same (
        held_overlaps policy mode run.client.under_way event holds,
        λ apart.
            let sees_it : trace_from client run.client.machine (step ∷ []) ≡ option_to_list event ++ [] =
            ap (λ (es : List Event). es ++ []) (sees client run.client.machine step (made, event) is) in
            let fails = apart_alone policy mode run.client.under_way event [] (subst (ApartFrom policy mode run.client.under_way) sees_it apart) in
            cc,
      )
  client_told step steps run index later (Err faults.Memory) none = none

  tells_from : (steps : List Step) (index : ℕ) (run : Lifted) → TellsFrom run index steps (lift_from policy mode client woven index run steps)
  tells_from [] index run = record {
    clients = none_goes run.client;
    comes = refl;
    index = index;
    wovens = nothing woven index run.woven;
  }
  tells_from (step ∷ steps) index run =
      client_told step steps run index (tells_from steps (index + 1)) (client_stepped policy mode client index step run.client)
      (step_told policy mode client index step run.client)

  -- ---- runs that are accepted are lifted

  abbrev Lifts : List Step → Type 0
  Lifts steps = (index : ℕ) (run : Lifted) (end : Values) → GoesOn run.client steps end
      → AreMadeFrom woven run.woven.machine (lifts run.woven.machine steps) → IsOk (lift_from policy mode client woven index run steps)

  -- the client's step is made
  client_goes : (step : Step) (steps : List Step) (index : ℕ) (run : ClientRun) (end : Values) → GoesOn run (step ∷ steps) end
      → (r : Result ClientRun LiftFault) → TellsStep policy mode client index step run r
      → (now : ClientRun) × (r ≡ Ok now) × HasGone policy mode client index step run now × GoesOn now steps end
  client_goes step steps index run end goes (Ok now) gone =
      let is = trace_is step run now index gone steps in
      let on = accepted_on policy run.state end gone.event (trace_from client now.machine steps)
      (subst (λ (es : List Event). after (next policy) run.state es ≡ Some end) is goes.accepted) index in
      let same : ◌≡◌ {A = Result Values LiftFault} (Ok on.0) (Ok now.state) = sym on.1 ∙ gone.state in
      let state : on.0 ≡ now.state = cc in (
        now,
        refl,
        gone,
        record {
          made = subst (λ (o : Option (Machine × Option Event)). IsSomeAnd o (λ (m : Machine × Option Event). AreMadeFrom client m.0 steps)) gone.made goes.made;
          accepted = subst (λ (values : Values). after (next policy) values (trace_from client now.machine steps) ≡ Some end) state on.2;
          apart = apart_later step run now index gone steps goes.apart;
        },
      )
  client_goes step steps index run end goes (Err (faults.NotEnabled told)) (same, none) =
      let wrong : ⊥ = subst (λ (o : Option (Machine × Option Event)). IsSomeAnd o (λ (m : Machine × Option Event). AreMadeFrom client m.0 steps)) none goes.made in
      absurd wrong
  client_goes step steps index run end goes (Err (faults.Disobeys told)) (same, made, event, is, none) =
      let seen_so : trace_from client run.machine (step ∷ steps) ≡ event ∷ trace_from client (stepped_or_same client run.machine step) steps =
      ap (λ (es : List Event). es ++ trace_from client (stepped_or_same client run.machine step) steps) (sees client run.machine step (made, Some event) is) in
      let ends : after (next policy) run.state (event ∷ trace_from client (stepped_or_same client run.machine step) steps) ≡ Some end =
      subst (λ (es : List Event). after (next policy) run.state es ≡ Some end) seen_so goes.accepted in
      let wrong : ◌≡◌ {A = Option Values} None (Some end) = rw none at ends in
      absurd cc
  client_goes step steps index run end goes (Err (faults.Overlaps told)) (same, made, event, is, holds) =
      let seen_so : trace_from client run.machine (step ∷ steps) ≡ option_to_list event ++ trace_from client (stepped_or_same client run.machine step) steps =
      ap (λ (es : List Event). es ++ trace_from client (stepped_or_same client run.machine step) steps) (sees client run.machine step (made, event) is) in
      let fails = apart_alone policy mode run.under_way event (trace_from client (stepped_or_same client run.machine step) steps)
      (subst (ApartFrom policy mode run.under_way) seen_so goes.apart) in
      absurd cc
  client_goes step steps index run end goes (Err faults.Memory) none = absurd none

  -- the woven program's is
  woven_goes : (step : Step) (index : ℕ) (run : WovenRun) (r : Result WovenRun LiftFault)
      → TellsOn woven index run (lifted_step (blocks_in policy mode) client woven run.machine step) r
      → AreMadeFrom woven run.machine (lifted_step (blocks_in policy mode) client woven run.machine step)
      → (now : WovenRun) × (r ≡ Ok now) × WentOn woven index run (lifted_step (blocks_in policy mode) client woven run.machine step) now
  woven_goes step index run (Ok now) went made = (now, refl, went)
  woven_goes step index run (Err (faults.NotEnabled told)) (same, wrong) made = absurd (wrong made)
  woven_goes step index run (Err (faults.Disobeys told)) none made = absurd none
  woven_goes step index run (Err (faults.Overlaps told)) none made = absurd none
  woven_goes step index run (Err faults.Memory) none made = absurd none

  lifts_all : (steps : List Step) → Lifts steps
  lifts_all [] index run end goes made = refl
  lifts_all (step ∷ steps) index run end goes made =
      let c = client_goes step steps index run.client end goes (client_stepped policy mode client index step run.client)
      (step_told policy mode client index step run.client) in
      let here = lifted_step (blocks_in policy mode) client woven run.woven.machine step in
      let w = woven_goes step index run.woven (lifted_stepped (blocks_in policy mode) client woven index step run.woven)
      (lifted_so woven index (blocks_in policy mode) client step run.woven)
      (made_first woven here _ run.woven.machine made) in
      let now : Lifted = record { client = c.0; woven = w.0 } in
      let later : IsOk (lift_from policy mode client woven (index + 1) now steps) =
      lifts_all steps (index + 1) now end c.3 (made_later step run now index c.2 w.2 steps made) in
      rw (c.1, w.1) later

  -- ---- from the start

  abbrev first : Lifted
  first = lift_start policy client woven

  accepted_from : (steps : List Step) (end : Values) → IsAcceptedRun policy mode client steps end → GoesOn first.client steps end
  accepted_from steps end run = record {
    made = run.made;
    accepted = sym (spoken_alone policy (trace client steps) (initial policy)) ∙ run.accepted;
    apart = subst (λ (T : Type 0). T) (sym (apart_first policy mode (trace client steps))) run.apart;
  }

  accepted_run : (steps : List Step) (end : Values) → GoesOn first.client steps end → IsAcceptedRun policy mode client steps end
  accepted_run steps end goes = record {
    made = goes.made;
    accepted = spoken_alone policy (trace client steps) (initial policy) ∙ goes.accepted;
    apart = subst (λ (T : Type 0). T) (apart_first policy mode (trace client steps)) goes.apart;
  }

  stops_at : (steps : List Step) (told : ℕ) (Why : Because) (Whole : List Step → Values → Step → Type 0)
      → ((before : List Step) (state : Values) (step : Step) → Why first before state step → Whole before state step)
      → StopsFrom first 0 steps told Why → StopsAt policy mode client woven steps told Whole
  stops_at steps told Why Whole to stops = record {
    before = stops.before;
    step = stops.step;
    later = stops.later;
    whole = stops.whole;
    place = omega (arith, stops.place);
    state = stops.state;
    accepted = accepted_run stops.before stops.state stops.goes;
    why = to stops.before stops.state stops.step stops.why;
  }

  told_so : (steps : List Step) (r : Result Lifted LiftFault) → TellsFrom first 0 steps r → TellsLift policy mode client woven steps r
  told_so steps (Ok now) goes = record {
    accepted = accepted_run steps now.client.state goes.clients;
    client_is = goes.comes;
    steps_are = ap steps_of goes.wovens.put ∙ goes.wovens.steps_are;
    lines_are = subst (AreLinesFrom woven (start_of woven)) (sym goes.wovens.put) goes.wovens.are;
    woven_is = goes.wovens.comes;
  }
  told_so steps (Err (faults.NotEnabled told)) stops = stops_at steps told NotMade _ (λ before state step why. why) stops
  told_so steps (Err (faults.Disobeys told)) stops = stops_at steps told Refused _ (λ before state step why. why) stops
  told_so steps (Err (faults.Overlaps told)) stops =
      stops_at steps told Overlapping _ (λ before state step why. (
        why.0,
        λ apart.
            why.1 (subst (λ (T : Type 0). T) (sym (apart_first policy mode (trace client (before ++ step ∷ [])))) apart),
      )) stops
  told_so steps (Err faults.Memory) none = none

pub lifts_are_told : LiftsAreTold
lifts_are_told policy mode client woven steps = (
  told_so policy mode client woven steps (lift_of policy mode client woven steps) (tells_from policy mode client woven steps 0 (lift_start policy client woven)),
  λ end run made. lifts_all policy mode client woven steps 0 (lift_start policy client woven) end (accepted_from policy mode client woven steps end run) made,
)
