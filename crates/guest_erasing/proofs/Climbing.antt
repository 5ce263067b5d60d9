-- What a thread does alone before a call and after its end is what lifting puts there.
use Rattle.std.proofs.Common.{◌≡◌, ◌∙◌, ◌≤◌, ℕ, zero, suc, List, [], ◌∷◌, ◌++◌, Bool, cond, Option, Some, None, refl, sym, ap, subst, arith, append-nil}
use Rattle.std.specs.Option.{IsSomeAnd, option_to_list}
use Rattle.api_listing.specs.declared.events.Event.{Event}
use Rattle.bytecode_model.specs.declared.program.Method.{Method}
use Rattle.bytecode_model.specs.declared.program.Program.{Program}
use Rattle.guest_model.specs.declared.machine.Machine.{Machine}
use Rattle.guest_model.specs.declared.machine.Step.{Step}
use Rattle.guest_model.specs.Runs.{stepped_or_same}
use Rattle.guest_model.specs.Stepping.{stepped}
use Rattle.guest_erasing.specs.Climbing.{Climbs, Lifts, plain_steps}
use Rattle.guest_erasing.specs.Lifting.{goes_out, goes_up, lifted_step, made_there, most_steps, plain_step, steps_out, steps_up, while_goes}
use Rattle.guest_erasing.specs.Places.{Sites}
use Rattle.guest_erasing.specs.Runs.{AreMadeFrom, Ran}
use Rattle.guest_erasing.proofs.Runs.{comes_to, ran-append, sees}

-- ---- one step

one_made : (program : Program) (machine : Machine) (step : Step) (after : Machine) (event : Option Event) → stepped program machine step ≡ Some (after, event)
    → Ran program machine (step ∷ []) (option_to_list event) after
one_made program machine step after event is = record {
  made = subst (λ (o : Option (Machine × Option Event)). IsSomeAnd o (λ (m : Machine × Option Event). AreMadeFrom program m.0 [])) (sym is) tt;
  seen = append-nil _ ∙ sees program machine step (after, event) is;
  comes = comes_to program machine step (after, event) is;
}

nothing_made : (program : Program) (machine end : Machine) → machine ≡ end → Ran program machine [] [] end
nothing_made program machine end same = record { made = tt; seen = refl; comes = same }

-- ---- steps while a thread goes on

module _ (sites_of : Method → Sites) (client woven : Program) (goes : Machine → ℕ → Bool) (number : ℕ) where
  pub climbed : (k : ℕ) (machine end : Machine) → Climbs woven goes number k machine end → Ran woven machine (plain_steps number k) [] end
  climbed zero machine end (stops, same) = nothing_made woven machine end same
  climbed (suc k) machine end (on, (next, (is, later))) =
      ran-append woven machine next end (plain_step number ∷ []) (plain_steps number k) [] [] (one_made woven machine (plain_step number) next None is) (climbed k next end later)

  pub goes_so : (n k : ℕ) (machine end : Machine) → k ≤ n → Climbs woven goes number k machine end → while_goes sites_of client woven goes n machine number ≡ plain_steps number k
  goes_so zero zero machine end few climbs = refl
  goes_so zero (suc k) machine end few climbs = absurd (omega (arith, few))
  goes_so (suc n) zero machine end few (stops, same) =
      ap (λ (b : Bool). cond b (plain_step number ∷ while_goes sites_of client woven goes n (stepped_or_same woven machine (plain_step number)) number) []) stops
  goes_so (suc n) (suc k) machine end few (on, (next, (is, later))) =
      ap (λ (b : Bool). cond b (plain_step number ∷ while_goes sites_of client woven goes n (stepped_or_same woven machine (plain_step number)) number) []) on
      ∙ ap (λ (m : Machine). plain_step number ∷ while_goes sites_of client woven goes n m number) (comes_to woven machine (plain_step number) (next, None) is)
      ∙ ap (λ (steps : List Step). plain_step number ∷ steps) (goes_so n k next end (omega (arith, few)) later)

-- ---- a step with those before it and after it

module _ (sites_of : Method → Sites) (client woven : Program) where
  pub lifts_ran : (before : Machine) (step : Step) (event : Option Event) (after : Machine) → Lifts sites_of client woven before step event after
      → Ran woven before (lifted_step sites_of client woven before step) (option_to_list event) after
  lifts_ran before step event after l =
      let number = step.thread in
      let up : steps_up sites_of client woven before number ≡ plain_steps number l.up =
      goes_so sites_of client woven (goes_up sites_of client woven) number (most_steps sites_of client woven before number) l.up before l.there l.few l.climbs in
      let ran_up : Ran woven before (steps_up sites_of client woven before number) [] l.there =
      subst (λ (steps : List Step). Ran woven before steps [] l.there) (sym up) (climbed sites_of client woven (goes_up sites_of client woven) number l.up before l.there l.climbs) in
      let there : made_there sites_of client woven before step ≡ l.made =
      ap (λ (m : Machine). stepped_or_same woven m step) ran_up.comes ∙ comes_to woven l.there step (l.made, event) l.steps in
      let out : steps_out sites_of client woven l.made number ≡ plain_steps number l.out =
      goes_so sites_of client woven (goes_out sites_of client woven) number (most_steps sites_of client woven l.made number) l.out l.made after l.few_out l.leaves in
      let ran_out : Ran woven l.made (steps_out sites_of client woven (made_there sites_of client woven before step) number) [] after =
      subst (λ (m : Machine). Ran woven l.made (steps_out sites_of client woven m number) [] after) (sym there)
      (subst (λ (steps : List Step). Ran woven l.made steps [] after) (sym out) (climbed sites_of client woven (goes_out sites_of client woven) number l.out l.made after l.leaves)) in
      let ends : Ran woven l.there (step ∷ steps_out sites_of client woven (made_there sites_of client woven before step) number) (option_to_list event ++ []) after =
      ran-append woven l.there l.made after (step ∷ []) (steps_out sites_of client woven (made_there sites_of client woven before step) number) (option_to_list event) []
      (one_made woven l.there step l.made event l.steps) ran_out in
      let whole = ran-append woven before l.there after (steps_up sites_of client woven before number) (step ∷ steps_out sites_of client woven (made_there sites_of client woven before step) number) []
      (option_to_list event ++ []) ran_up ends in
      subst (λ (events : List Event). Ran woven before (lifted_step sites_of client woven before step) events after) (append-nil (option_to_list event)) whole
