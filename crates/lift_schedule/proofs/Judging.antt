-- What the run of the client comes to by a step: it is made, its event is accepted, and it overlaps no call; or why not.
use Rattle.std.proofs.Common.{◌≡◌, ◌∙◌, ℕ, Bool, true, false, cond, List, [], ◌∷◌, ◌++◌, Option, Some, None, Result, Ok, Err, refl, sym, ap, subst}
use Rattle.std.specs.Prelude.{⊤, ◌&&◌, not, IfSome, option_and_then}
use Rattle.std.specs.Option.{option_map_or, option_to_list}
use Rattle.mon_base.specs.Reading.{◌>>=◌, need}
use Rattle.api_listing.specs.declared.events.Event.{Event}
use Rattle.api_listing.specs.declared.events.Event.TheVariants as events
use Rattle.bytecode_model.specs.declared.program.Program.{Program}
use Rattle.cert_format.specs.declared.certificate.Mode.{Mode}
use Rattle.cert_format.specs.declared.certificate.Mode.TheVariants.{Hold, Release}
use Rattle.conspec_automaton.specs.declared.policy.Policy.{Policy}
use Rattle.conspec_automaton.specs.Next.{Values, has_clauses, method_of, next}
use Rattle.conspec_automaton.specs.Obeys.{after}
use Rattle.guest_model.specs.declared.machine.Machine.{Machine}
use Rattle.guest_model.specs.declared.machine.Step.{Step}
use Rattle.guest_model.specs.Stepping.{stepped}
use Rattle.guest_erasing.specs.Accepted.{Alternate, AreApart, with_clauses}
use Rattle.lift_schedule.specs.declared.client.ClientRun.{ClientRun}
use Rattle.lift_schedule.specs.declared.fault.LiftFault.{LiftFault}
use Rattle.lift_schedule.specs.declared.fault.LiftFault.TheVariants as faults
use Rattle.lift_schedule.specs.Running.{client_stepped, is_call, judged, of_clauses, overlaps, under_way_after}

module _ (policy : Policy) where
  -- calls of methods with clauses do not overlap in mode hold, where one is under way at first, or none
  abbrev pub ApartFrom : Mode → Bool → List Event → Type 0
  ApartFrom Release under_way seen = ⊤
  ApartFrom Hold under_way seen = Alternate under_way (with_clauses policy seen)

  pub apart_first : (mode : Mode) (seen : List Event) → ApartFrom mode false seen ≡ AreApart mode policy seen
  apart_first Release seen = refl
  apart_first Hold seen = refl

  -- ---- calls that are apart

  quiet : (under_way : Bool) (e : Event) (seen : List Event) → of_clauses policy e ≡ false
      → Alternate under_way (with_clauses policy (e ∷ seen)) ≡ Alternate (under_way_after policy under_way (Some e)) (with_clauses policy seen)
  quiet under_way e seen fails = rw fails refl

  loud : (under_way : Bool) (e : Event) (seen : List Event) → of_clauses policy e ≡ true
      → Alternate under_way (with_clauses policy (e ∷ seen)) ≡ Alternate under_way (e ∷ with_clauses policy seen)
  loud under_way e seen holds = rw holds refl

  begins : (under_way : Bool) (e : Event) (seen : List Event)
      → Alternate under_way (e ∷ seen) → (under_way && is_call e) ≡ false
  begins under_way (events.Call thread method arguments) seen apart = rw apart.0 refl
  begins false (events.Return thread method value) seen apart = refl
  begins true (events.Return thread method value) seen apart = refl
  begins false (events.Except thread method) seen apart = refl
  begins true (events.Except thread method) seen apart = refl

  goes_on : (under_way : Bool) (e : Event) (seen : List Event) → Alternate under_way (e ∷ seen) → Alternate (is_call e) seen
  goes_on under_way (events.Call thread method arguments) seen apart = apart.1
  goes_on under_way (events.Return thread method value) seen apart = apart
  goes_on under_way (events.Except thread method) seen apart = apart

  put_first : (under_way : Bool) (e : Event) (seen : List Event) → (under_way && is_call e) ≡ false → Alternate (is_call e) seen
      → Alternate under_way (e ∷ seen)
  put_first false (events.Call thread method arguments) seen fails apart = (refl, apart)
  put_first true (events.Call thread method arguments) seen fails apart = absurd cc
  put_first under_way (events.Return thread method value) seen fails apart = apart
  put_first under_way (events.Except thread method) seen fails apart = apart

  -- what is seen, and then others
  abbrev seen_first : Option Event → List Event → List Event
  seen_first event seen = option_to_list event ++ seen

  pub apart_on : (mode : Mode) (under_way : Bool) (event : Option Event) (seen : List Event) → ApartFrom mode under_way (seen_first event seen)
      → ApartFrom mode (under_way_after policy under_way event) seen
  apart_on Release under_way event seen apart = tt
  apart_on Hold under_way None seen apart = apart
  apart_on Hold under_way (Some e) seen apart = by (of_clauses policy e) refl where
    by : (b : Bool) → of_clauses policy e ≡ b → Alternate (under_way_after policy under_way (Some e)) (with_clauses policy seen)
    by false fails = subst (λ (T : Type 0). T) (quiet under_way e seen fails) apart
    by true holds = rw holds (goes_on under_way e (with_clauses policy seen) (subst (λ (T : Type 0). T) (loud under_way e seen holds) apart))

  pub apart_back : (mode : Mode) (under_way : Bool) (event : Option Event) (seen : List Event) → overlaps policy mode under_way event ≡ false
      → ApartFrom mode (under_way_after policy under_way event) seen → ApartFrom mode under_way (seen_first event seen)
  apart_back Release under_way event seen fails apart = tt
  apart_back Hold under_way None seen fails apart = apart
  apart_back Hold under_way (Some e) seen fails apart = by (of_clauses policy e) refl where
    by : (b : Bool) → of_clauses policy e ≡ b → Alternate under_way (with_clauses policy (e ∷ seen))
    by false is = subst (λ (T : Type 0). T) (sym (quiet under_way e seen is)) apart
    by true is =
        let alone : (under_way && is_call e) ≡ false = rw is at fails in
        let rest : Alternate (is_call e) (with_clauses policy seen) = rw is at apart in
        subst (λ (T : Type 0). T) (sym (loud under_way e seen is)) (put_first under_way e (with_clauses policy seen) alone rest)

  pub apart_alone : (mode : Mode) (under_way : Bool) (event : Option Event) (seen : List Event) → ApartFrom mode under_way (seen_first event seen)
      → overlaps policy mode under_way event ≡ false
  apart_alone mode under_way None seen apart = refl
  apart_alone Release under_way (Some e) seen apart = refl
  apart_alone Hold under_way (Some e) seen apart = by (of_clauses policy e) refl where
    none : (u : Bool) → (u && false) ≡ false
    none true = refl
    none false = refl

    by : (b : Bool) → of_clauses policy e ≡ b → overlaps policy Hold under_way (Some e) ≡ false
    by false fails = rw fails (none under_way)
    by true holds = rw holds (begins under_way e (with_clauses policy seen) (subst (λ (T : Type 0). T) (loud under_way e seen holds) apart))

  pub held_overlaps : (mode : Mode) (under_way : Bool) (event : Option Event) → overlaps policy mode under_way event ≡ true → mode ≡ Hold
  held_overlaps mode under_way None holds = absurd cc
  held_overlaps Release under_way (Some e) holds = absurd cc
  held_overlaps Hold under_way (Some e) holds = refl

  -- ---- what the policy says

  abbrev goes_from : Values → List Event → Option Values
  goes_from now seen = after (next policy) now seen

  pub accepted_on : (now end : Values) (event : Option Event) (seen : List Event) → goes_from now (seen_first event seen) ≡ Some end
      → (index : ℕ) → (new : Values) × (judged policy index now event ≡ Ok new) × (goes_from new seen ≡ Some end)
  accepted_on now end None seen e index = (now, refl, e)
  accepted_on now end (Some event) seen e index = by (next policy now event) refl e where
    by : (o : Option Values) → next policy now event ≡ o → option_and_then (λ reached. goes_from reached seen) o ≡ Some end
        → (new : Values) × (judged policy index now (Some event) ≡ Ok new) × (goes_from new seen ≡ Some end)
    by None is none = absurd cc
    by (Some new) is then = (new, rw is refl, then)

  pub accepted_back : (index : ℕ) (now new : Values) (event : Option Event) (seen : List Event) → judged policy index now event ≡ Ok new
      → goes_from now (seen_first event seen) ≡ goes_from new seen
  accepted_back index now new None seen e = ap (λ (r : Result Values LiftFault). goes_from (values_in r) seen) e where
    values_in : Result Values LiftFault → Values
    values_in (Ok values) = values
    values_in (Err fault) = now
  accepted_back index now new (Some event) seen e = by (next policy now event) refl where
    by : (o : Option Values) → next policy now event ≡ o → goes_from now (event ∷ seen) ≡ goes_from new seen
    by None is = let wrong : ◌≡◌ {A = Result Values LiftFault} (Err (faults.Disobeys index)) (Ok new) = rw is at e in absurd cc
    by (Some reached) is =
        let right : ◌≡◌ {A = Result Values LiftFault} (Ok reached) (Ok new) = rw is at e in
        let same : reached ≡ new = cc in
        rw (is, same) refl

-- ---- a step

module _ (policy : Policy) (mode : Mode) (client : Program) (index : ℕ) (step : Step) (run : ClientRun) where
  -- It is made, its event is accepted, and it overlaps no call.
  pub record HasGone (next_run : ClientRun) : Type 0 where
    pub event : Option Event
    pub made : stepped client run.machine step ≡ Some (next_run.machine, event)
    pub state : judged policy index run.state event ≡ Ok next_run.state
    pub apart : overlaps policy mode run.under_way event ≡ false
    pub under_way : next_run.under_way ≡ under_way_after policy run.under_way event

  -- it is not made; its event is refused; it overlaps a call
  abbrev pub TellsStep : Result ClientRun LiftFault → Type 0
  TellsStep (Ok next_run) = HasGone next_run
  TellsStep (Err (faults.NotEnabled told)) = (told ≡ index) × (stepped client run.machine step ≡ None)
  TellsStep (Err (faults.Disobeys told)) =
      (told ≡ index) × (made : Machine) × (event : Event) × (stepped client run.machine step ≡ Some (made, Some event))
      × (next policy run.state event ≡ None)
  TellsStep (Err (faults.Overlaps told)) =
      (told ≡ index) × (made : Machine) × (event : Option Event) × (stepped client run.machine step ≡ Some (made, event))
      × (overlaps policy mode run.under_way event ≡ true)
  TellsStep (Err faults.Memory) = ⊥

  -- what comes of it, once the policy has judged what is seen
  abbrev then_apart : Machine → Option Event → Result Values LiftFault → Result ClientRun LiftFault
  then_apart made event r = r >>= λ state. need (not (overlaps policy mode run.under_way event)) (faults.Overlaps index) >>= λ apart.
      Ok (record { machine = made; state = state; under_way = under_way_after policy run.under_way event })

  pub step_told : TellsStep (client_stepped policy mode client index step run)
  step_told = by (stepped client run.machine step) refl where
    apart_told : (made : Machine) (event : Option Event) (state : Values) → stepped client run.machine step ≡ Some (made, event)
        → judged policy index run.state event ≡ Ok state → (b : Bool) → overlaps policy mode run.under_way event ≡ b
        → TellsStep (need (not b) (faults.Overlaps index) >>= λ apart.
        Ok (record { machine = made; state = state; under_way = under_way_after policy run.under_way event }))
    apart_told made event state is told true holds = (refl, made, event, is, holds)
    apart_told made event state is told false fails = record { event = event; made = is; state = told; apart = fails; under_way = refl }

    judged_told : (made : Machine) (event : Option Event) → stepped client run.machine step ≡ Some (made, event)
        → TellsStep (then_apart made event (judged policy index run.state event))
    judged_told made None is = apart_told made None run.state is refl (overlaps policy mode run.under_way None) refl
    judged_told made (Some event) is = next_told (next policy run.state event) refl where
      next_told : (o : Option Values) → next policy run.state event ≡ o
          → TellsStep (then_apart made (Some event) (option_map_or Ok o (Err (faults.Disobeys index))))
      next_told None e = (refl, made, event, is, e)
      next_told (Some state) e =
          apart_told made (Some event) state is (rw e refl) (overlaps policy mode run.under_way (Some event)) refl

    by : (o : Option (Machine × Option Event)) → stepped client run.machine step ≡ o → TellsStep (client_stepped policy mode client index step run)
    by None e = rw e (refl, e)
    by (Some made) e = rw e (judged_told made.0 made.1 e)
