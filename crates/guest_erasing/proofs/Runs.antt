-- From steps to lists of steps: where each step of the client, with what is put before and after it, is a run of the woven program, so
-- are all its runs.
use Rattle.std.proofs.Common.{◌≡◌, ◌∙◌, List, [], ◌∷◌, ◌++◌, Option, Some, None, refl, sym, ap, subst, append_assoc}
use Rattle.std.specs.Option.{IsSomeAnd, option_map_or, option_to_list}
use Rattle.api_listing.specs.declared.events.Event.{Event}
use Rattle.bytecode_model.specs.declared.program.Method.{Method}
use Rattle.bytecode_model.specs.declared.program.Program.{Program}
use Rattle.guest_model.specs.declared.machine.Machine.{Machine}
use Rattle.guest_model.specs.declared.machine.Step.{Step}
use Rattle.guest_model.specs.Runs.{exec_from, seen, stepped_or_same, trace_from}
use Rattle.guest_model.specs.Stepping.{stepped}
use Rattle.guest_erasing.specs.Lifting.{lifted_from, lifted_step}
use Rattle.guest_erasing.specs.Places.{Sites}
use Rattle.guest_erasing.specs.Runs.{AreMadeFrom, GoOn, Ran}

-- ---- a step that is made

module _ (program : Program) (machine : Machine) (step : Step) (made : Machine × Option Event) (is : stepped program machine step ≡ Some made) where
  pub comes_to : stepped_or_same program machine step ≡ made.0
  comes_to = ap (λ (o : Option (Machine × Option Event)). option_map_or (λ (m : Machine × Option Event). m.0) o machine) is

  pub sees : seen program machine step ≡ option_to_list made.1
  sees = ap (λ (o : Option (Machine × Option Event)). option_map_or (λ (m : Machine × Option Event). option_to_list m.1) o []) is

-- ---- one list of steps after another

pub exec_from-append : (program : Program) (machine : Machine) (xs ys : List Step) → exec_from program machine (xs ++ ys) ≡ exec_from program (exec_from program machine xs) ys
exec_from-append program machine [] ys = refl
exec_from-append program machine (x ∷ xs) ys = exec_from-append program (stepped_or_same program machine x) xs ys

pub trace_from-append : (program : Program) (machine : Machine) (xs ys : List Step)
    → trace_from program machine (xs ++ ys) ≡ trace_from program machine xs ++ trace_from program (exec_from program machine xs) ys
trace_from-append program machine [] ys = refl
trace_from-append program machine (x ∷ xs) ys =
    ap (λ (es : List Event). seen program machine x ++ es) (trace_from-append program (stepped_or_same program machine x) xs ys)
    ∙ sym (append_assoc (seen program machine x) (trace_from program (stepped_or_same program machine x) xs) (trace_from program (exec_from program (stepped_or_same program machine x) xs) ys))

made_then : (program : Program) (machine : Machine) (x : Step) (o : Option (Machine × Option Event)) → stepped program machine x ≡ o → (P Q : Machine → Type 0)
    → ((m : Machine) → m ≡ stepped_or_same program machine x → P m → Q m)
    → IsSomeAnd o (λ (made : Machine × Option Event). P made.0) → IsSomeAnd o (λ (made : Machine × Option Event). Q made.0)
made_then program machine x (Some made) is P Q f p = f made.0 (sym (comes_to program machine x made is)) p
made_then program machine x None is P Q f p = p

pub are_made-append : (program : Program) (xs ys : List Step) (machine : Machine) → AreMadeFrom program machine xs → AreMadeFrom program (exec_from program machine xs) ys
    → AreMadeFrom program machine (xs ++ ys)
are_made-append program [] ys machine first then = then
are_made-append program (x ∷ xs) ys machine first then =
    made_then program machine x (stepped program machine x) refl (λ m. AreMadeFrom program m xs) (λ m. AreMadeFrom program m (xs ++ ys))
    (λ m is made. are_made-append program xs ys m made (subst (λ n. AreMadeFrom program (exec_from program n xs) ys) (sym is) then)) first

-- one run after another
pub ran-append : (program : Program) (before middle after : Machine) (xs ys : List Step) (es fs : List Event) → Ran program before xs es middle → Ran program middle ys fs after
    → Ran program before (xs ++ ys) (es ++ fs) after
ran-append program before middle after xs ys es fs first then = record {
  made = are_made-append program xs ys before first.made (subst (λ m. AreMadeFrom program m ys) (sym first.comes) then.made);
  seen =
      trace_from-append program before xs ys ∙ ap (λ (events : List Event). events ++ trace_from program (exec_from program before xs) ys) first.seen
      ∙ ap (λ m. es ++ trace_from program m ys) first.comes ∙ ap (λ (events : List Event). es ++ events) then.seen;
  comes = exec_from-append program before xs ys ∙ ap (λ m. exec_from program m ys) first.comes ∙ then.comes;
}

-- ---- all steps

module _ {D : Type 0} (Allowed : D → Machine → Step → Machine × Option Event → D → Type 0) (sites_of : Method → Sites) (client woven : Program)
    (Mirrored : D → Machine → Machine → Type 0)
    (one : (state next : D) (machine other : Machine) (step : Step) (made : Machine × Option Event) → Mirrored state machine other → stepped client machine step ≡ Some made
    → Allowed state machine step made next
    → (after : Machine) × (Ran woven other (lifted_step sites_of client woven other step) (option_to_list made.1) after × Mirrored next made.0 after)) where
  -- What the client's steps come to, the lifted ones come to, and the same is seen.
  pub all_lifted : (steps : List Step) (state end : D) (machine other : Machine) → Mirrored state machine other → GoOn Allowed client state machine steps end
      → (after : Machine) × (Ran woven other (lifted_from sites_of client woven other steps) (trace_from client machine steps) after × Mirrored end (exec_from client machine steps) after)
  all_lifted [] state end machine other mirrored ends =
      (other, (record { made = tt; seen = refl; comes = refl }, subst (λ d. Mirrored d machine other) ends mirrored))
  all_lifted (step ∷ steps) state end machine other mirrored (made, (is, (next, (allowed, later)))) =
      let first = one state next machine other step made mirrored is allowed in
      let rest = all_lifted steps next end made.0 first.0 first.1.1 later in
      let own = lifted_step sites_of client woven other step in
      let ran : Ran woven (exec_from woven other own) (lifted_from sites_of client woven (exec_from woven other own) steps) (trace_from client made.0 steps) rest.0 =
      subst (λ m. Ran woven m (lifted_from sites_of client woven m steps) (trace_from client made.0 steps) rest.0) (sym first.1.0.comes) rest.1.0 in
      let whole = ran-append woven other (exec_from woven other own) rest.0 own (lifted_from sites_of client woven (exec_from woven other own) steps) (option_to_list made.1) (trace_from client made.0 steps)
      (record { made = first.1.0.made; seen = first.1.0.seen; comes = refl }) ran in
      let events : option_to_list made.1 ++ trace_from client made.0 steps ≡ trace_from client machine (step ∷ steps) =
      ap (λ (es : List Event). es ++ trace_from client made.0 steps) (sym (sees client machine step made is))
      ∙ ap (λ m. seen client machine step ++ trace_from client m steps) (sym (comes_to client machine step made is)) in (
        rest.0,
        (
          subst (λ es. Ran woven other (lifted_from sites_of client woven other (step ∷ steps)) es rest.0) events whole,
          subst (λ m. Mirrored end (exec_from client m steps) rest.0) (sym (comes_to client machine step made is)) rest.1.1,
        ),
      )
