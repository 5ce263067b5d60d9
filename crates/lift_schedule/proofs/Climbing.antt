-- What the run of the woven program comes to: so many more lines, of steps that it makes one after another.
use Rattle.std.proofs.Common.{◌≡◌, ◌∙◌, ℕ, zero, suc, ◌<◌, ◌-◌, arith, Bool, true, false, cond, List, [], ◌∷◌, ◌++◌, map, Option, Some, None, Result, Ok, Err, refl, sym, ap, subst, append-nil, append_assoc}
use Rattle.std.specs.Option.{IsSomeAnd}
use Rattle.mon_base.specs.Reading.{◌>>=◌}
use Rattle.api_listing.specs.declared.events.Event.{Event}
use Rattle.bytecode_model.specs.declared.program.Method.{Method}
use Rattle.bytecode_model.specs.declared.program.Program.{Program}
use Rattle.event_record.specs.declared.writing.Line.{Line}
use Rattle.event_record.specs.RunLines.{AreLinesFrom}
use Rattle.guest_model.specs.declared.machine.Machine.{Machine}
use Rattle.guest_model.specs.declared.machine.Step.{Step}
use Rattle.guest_model.specs.Runs.{exec_from, stepped_or_same}
use Rattle.guest_model.specs.Stepping.{stepped}
use Rattle.guest_erasing.specs.Lifting.{goes_out, goes_up, lifted_step, made_there, most_steps, plain_step, steps_out, steps_up, while_goes}
use Rattle.guest_erasing.specs.Places.{Sites}
use Rattle.guest_erasing.specs.Runs.{AreMadeFrom}
use Rattle.guest_erasing.proofs.Runs.{comes_to, exec_from-append}
use Rattle.lift_schedule.specs.declared.fault.LiftFault.{LiftFault}
use Rattle.lift_schedule.specs.declared.fault.LiftFault.TheVariants as faults
use Rattle.lift_schedule.specs.declared.standing.Way.{Way}
use Rattle.lift_schedule.specs.declared.standing.Way.TheVariants as ways
use Rattle.lift_schedule.specs.declared.woven.WovenRun.{WovenRun}
use Rattle.lift_schedule.specs.Laws.{steps_of}
use Rattle.lift_schedule.specs.Running.{climbed, gone, goes, lifted_by, lifted_stepped, woven_stepped}

then_same : {A B E : Type 0} (r : Result A E) (f g : A → Result B E) → ((x : A) → f x ≡ g x) → (r >>= f) ≡ (r >>= g)
then_same (Ok x) f g same = same x
then_same (Err e) f g same = refl

-- ---- steps that are made, and those before and after them

module _ (program : Program) where
  pub made_first : (xs ys : List Step) (machine : Machine) → AreMadeFrom program machine (xs ++ ys) → AreMadeFrom program machine xs
  made_first [] ys machine made = tt
  made_first (x ∷ xs) ys machine made = by (made_first xs ys) (stepped program machine x) refl made where
    by : ((m : Machine) → AreMadeFrom program m (xs ++ ys) → AreMadeFrom program m xs) → (o : Option (Machine × Option Event)) → stepped program machine x ≡ o
        → IsSomeAnd o (λ (m : Machine × Option Event). AreMadeFrom program m.0 (xs ++ ys))
        → IsSomeAnd o (λ (m : Machine × Option Event). AreMadeFrom program m.0 xs)
    by later None e made = made
    by later (Some m) e made = later m.0 made

  pub made_second : (xs ys : List Step) (machine : Machine) → AreMadeFrom program machine (xs ++ ys)
      → AreMadeFrom program (exec_from program machine xs) ys
  made_second [] ys machine made = made
  made_second (x ∷ xs) ys machine made = by (made_second xs ys) (stepped program machine x) refl made where
    by : ((m : Machine) → AreMadeFrom program m (xs ++ ys) → AreMadeFrom program (exec_from program m xs) ys) → (o : Option (Machine × Option Event)) → stepped program machine x ≡ o
        → IsSomeAnd o (λ (m : Machine × Option Event). AreMadeFrom program m.0 (xs ++ ys))
        → AreMadeFrom program (exec_from program (stepped_or_same program machine x) xs) ys
    by later None e made = absurd made
    by later (Some m) e made =
        subst (λ (n : Machine). AreMadeFrom program (exec_from program n xs) ys) (sym (comes_to program machine x m e)) (later m.0 made)

  pub lines_append : (xs ys : List Line) (machine : Machine) → AreLinesFrom program machine xs
      → AreLinesFrom program (exec_from program machine (steps_of xs)) ys → AreLinesFrom program machine (xs ++ ys)
  lines_append [] ys machine first then = then
  lines_append (x ∷ xs) ys machine (next, is, first) then = (
    next,
    is,
    lines_append xs ys next first
        (subst (λ (n : Machine). AreLinesFrom program (exec_from program n (steps_of xs)) ys) (comes_to program machine x.step (next, x.event) is) then),
  )

steps_append : (xs ys : List Line) → steps_of (xs ++ ys) ≡ steps_of xs ++ steps_of ys
steps_append [] ys = refl
steps_append (x ∷ xs) ys = ap (λ (steps : List Step). x.step ∷ steps) (steps_append xs ys)

-- ---- a run that has gone on

module _ (woven : Program) (index : ℕ) where
  -- by these steps
  pub record WentOn (before : WovenRun) (steps : List Step) (after : WovenRun) : Type 0 where
    pub lines : List Line
    pub put : after.lines ≡ before.lines ++ lines
    pub steps_are : steps_of lines ≡ steps
    pub are : AreLinesFrom woven before.machine lines
    pub comes : after.machine ≡ exec_from woven before.machine steps

  -- by these steps, or they are not all made, and the index is told
  abbrev pub TellsOn : WovenRun → List Step → Result WovenRun LiftFault → Type 0
  TellsOn before steps (Ok after) = WentOn before steps after
  TellsOn before steps (Err (faults.NotEnabled told)) = (told ≡ index) × (AreMadeFrom woven before.machine steps → ⊥)
  TellsOn before steps (Err (faults.Disobeys told)) = ⊥
  TellsOn before steps (Err (faults.Overlaps told)) = ⊥
  TellsOn before steps (Err faults.Memory) = ⊥

  pub nothing : (run : WovenRun) → TellsOn run [] (Ok run)
  nothing run = record { lines = []; put = sym (append-nil run.lines); steps_are = refl; are = tt; comes = refl }

  pub one : (step : Step) (run : WovenRun) → TellsOn run (step ∷ []) (woven_stepped woven index step run)
  one step run = by (stepped woven run.machine step) refl where
    by : (o : Option (Machine × Option Event)) → stepped woven run.machine step ≡ o → TellsOn run (step ∷ []) (woven_stepped woven index step run)
    by None e = rw e (refl, λ made. let none : ⊥ = rw e at made in none)
    by (Some made) e = rw e (record {
      lines = record { step = step; event = made.1 } ∷ [];
      put = refl;
      steps_are = refl;
      are = (made.0, e, tt);
      comes = sym (comes_to woven run.machine step made e);
    })

  pub both : (before middle after : WovenRun) (xs ys : List Step) → WentOn before xs middle → WentOn middle ys after → WentOn before (xs ++ ys) after
  both before middle after xs ys first then = record {
    lines = first.lines ++ then.lines;
    put = then.put ∙ ap (λ (ls : List Line). ls ++ then.lines) first.put ∙ append_assoc before.lines first.lines then.lines;
    steps_are = steps_append first.lines then.lines ∙ ap (λ (ss : List Step). ss ++ steps_of then.lines) first.steps_are ∙ ap (λ (ss : List Step). xs ++ ss) then.steps_are;
    are = lines_append woven first.lines then.lines before.machine first.are
        (subst (λ (m : Machine). AreLinesFrom woven m then.lines)
        (first.comes ∙ ap (exec_from woven before.machine) (sym first.steps_are)) then.are);
    comes = then.comes ∙ ap (λ (m : Machine). exec_from woven m ys) first.comes ∙ sym (exec_from-append woven before.machine xs ys);
  }

  -- some steps, and then others
  pub after_both : (before : WovenRun) (xs ys : List Step) (r : Result WovenRun LiftFault) (f : WovenRun → Result WovenRun LiftFault)
      → TellsOn before xs r → ((next : WovenRun) → next.machine ≡ exec_from woven before.machine xs → TellsOn next ys (f next))
      → TellsOn before (xs ++ ys) (r >>= f)
  after_both before xs ys (Ok next) f first then = by (f next) (then next first.comes) where
    by : (s : Result WovenRun LiftFault) → TellsOn next ys s → TellsOn before (xs ++ ys) s
    by (Ok after) t = both before next after xs ys first t
    by (Err (faults.NotEnabled told)) t =
        (t.0, λ made. t.1 (subst (λ (m : Machine). AreMadeFrom woven m ys) (sym first.comes) (made_second woven xs ys before.machine made)))
    by (Err (faults.Disobeys told)) t = t
    by (Err (faults.Overlaps told)) t = t
    by (Err faults.Memory) t = t
  after_both before xs ys (Err (faults.NotEnabled told)) f first then =
      (first.0, λ made. first.1 (made_first woven xs ys before.machine made))
  after_both before xs ys (Err (faults.Disobeys told)) f first then = first
  after_both before xs ys (Err (faults.Overlaps told)) f first then = first
  after_both before xs ys (Err faults.Memory) f first then = first

  -- ---- while a thread goes on

  module _ (sites_of : Method → Sites) (client : Program) where
    pub climbs : (way : Machine → ℕ → Bool) (number n : ℕ) (run : WovenRun)
        → TellsOn run (while_goes sites_of client woven way n run.machine number) (climbed woven way index number n run)
    climbs way number zero run = nothing run
    climbs way number (suc n) run = by (way run.machine number) refl (climbs way number n) where
      by : (b : Bool) → way run.machine number ≡ b
          → ((next : WovenRun) → TellsOn next (while_goes sites_of client woven way n next.machine number) (climbed woven way index number n next))
          → TellsOn run (while_goes sites_of client woven way (suc n) run.machine number) (climbed woven way index number (suc n) run)
      by false e later = rw e (nothing run)
      by true e later =
          let plain = plain_step number in
          let rest = while_goes sites_of client woven way n (stepped_or_same woven run.machine plain) number in
          let whole : TellsOn run (plain ∷ rest) (woven_stepped woven index plain run >>= λ next. climbed woven way index number n next) =
          after_both run (plain ∷ []) rest (woven_stepped woven index plain run) (λ next. climbed woven way index number n next) (one plain run)
          (λ next is. subst (λ (m : Machine). TellsOn next (while_goes sites_of client woven way n m number) (climbed woven way index number n next)) is (later next)) in
          rw e whole

    -- ---- a lifted step

    pub lifted_so : (step : Step) (run : WovenRun)
        → TellsOn run (lifted_step sites_of client woven run.machine step) (lifted_stepped sites_of client woven index step run)
    lifted_so step run =
        let number = step.thread in
        let up = steps_up sites_of client woven run.machine number in
        let out = steps_out sites_of client woven (made_there sites_of client woven run.machine step) number in
        after_both run up (step ∷ out) (gone woven (goes sites_of client woven) (most_steps sites_of client woven) ways.Up index number run)
        (λ there. woven_stepped woven index step there >>= λ made. gone woven (goes sites_of client woven) (most_steps sites_of client woven) ways.Out index number made)
        (climbs (goes_up sites_of client woven) number (most_steps sites_of client woven run.machine number) run)
        (λ there is. after_both there (step ∷ []) out (woven_stepped woven index step there)
        (λ made. gone woven (goes sites_of client woven) (most_steps sites_of client woven) ways.Out index number made) (one step there)
        (λ made comes. subst (λ (m : Machine). TellsOn made (steps_out sites_of client woven m number) (gone woven (goes sites_of client woven) (most_steps sites_of client woven) ways.Out index number made))
        (comes ∙ ap (λ (m : Machine). stepped_or_same woven m step) is)
        (climbs (goes_out sites_of client woven) number (most_steps sites_of client woven made.machine number) made)))

-- ---- what is told alike

module _ (woven : Program) (index : ℕ) where
  climbed_same : (g h : Machine → ℕ → Bool) → ((m : Machine) (k : ℕ) → g m k ≡ h m k) → (number n : ℕ) (run : WovenRun)
      → climbed woven g index number n run ≡ climbed woven h index number n run
  climbed_same g h same number zero run = refl
  climbed_same g h same number (suc n) run =
      ap (λ (b : Bool). cond b (woven_stepped woven index (plain_step number) run >>= climbed woven g index number n) (Ok run)) (same run.machine number)
      ∙ ap (λ (r : Result WovenRun LiftFault). cond (h run.machine number) r (Ok run))
      (then_same (woven_stepped woven index (plain_step number) run) (climbed woven g index number n) (climbed woven h index number n) (climbed_same g h same number n))

  gone_same : (g h : Way → Machine → ℕ → Bool) (a b : Machine → ℕ → ℕ) → ((way : Way) (m : Machine) (k : ℕ) → g way m k ≡ h way m k)
      → ((m : Machine) (k : ℕ) → a m k ≡ b m k) → (way : Way) (number : ℕ) (run : WovenRun)
      → gone woven g a way index number run ≡ gone woven h b way index number run
  gone_same g h a b same most way number run =
      climbed_same (g way) (h way) (same way) number (a run.machine number) run
      ∙ ap (λ (n : ℕ). climbed woven (h way) index number n run) (most run.machine number)

  pub lifted_same : (g h : Way → Machine → ℕ → Bool) (a b : Machine → ℕ → ℕ) → ((way : Way) (m : Machine) (k : ℕ) → g way m k ≡ h way m k)
      → ((m : Machine) (k : ℕ) → a m k ≡ b m k) → (step : Step) (run : WovenRun)
      → lifted_by woven g a index step run ≡ lifted_by woven h b index step run
  lifted_same g h a b same most step run =
      ap (λ (r : Result WovenRun LiftFault). r >>= λ there. woven_stepped woven index step there >>= λ made. gone woven g a ways.Out index step.thread made)
      (gone_same g h a b same most ways.Up step.thread run)
      ∙ then_same (gone woven h b ways.Up index step.thread run) _ _
      (λ there. then_same (woven_stepped woven index step there) _ _ (λ made. gone_same g h a b same most ways.Out step.thread made))

  -- ---- while it goes on

  pub goes_no_more : (g : Machine → ℕ → Bool) (number n : ℕ) (run : WovenRun) → g run.machine number ≡ false → climbed woven g index number n run ≡ Ok run
  goes_no_more g number zero run fails = refl
  goes_no_more g number (suc n) run fails = rw fails refl

  pub goes_once_more : (g : Machine → ℕ → Bool) (number n : ℕ) (run : WovenRun) → 0 < n → g run.machine number ≡ true
      → climbed woven g index number n run ≡ (woven_stepped woven index (plain_step number) run >>= climbed woven g index number (n - 1))
  goes_once_more g number zero run some holds = absurd (omega (arith, some))
  goes_once_more g number (suc n) run some holds =
      let same : n ≡ suc n - 1 = omega arith in
      ap (λ (b : Bool). cond b (woven_stepped woven index (plain_step number) run >>= climbed woven g index number n) (Ok run)) holds
      ∙ ap (λ (k : ℕ). woven_stepped woven index (plain_step number) run >>= climbed woven g index number k) same

  -- what comes of the first step comes of all that are left
  pub step_is : (g : Machine → ℕ → Bool) (number n : ℕ) (run : WovenRun) → 0 < n → g run.machine number ≡ true → (step : Step) → step ≡ plain_step number
      → (r : Result WovenRun LiftFault) → woven_stepped woven index step run ≡ r → climbed woven g index number n run ≡ (r >>= climbed woven g index number (n - 1))
  step_is g number n run some goes step plain r is =
      goes_once_more g number n run some goes
      ∙ ap (λ (s : Step). woven_stepped woven index s run >>= climbed woven g index number (n - 1)) (sym plain)
      ∙ ap (λ (q : Result WovenRun LiftFault). q >>= climbed woven g index number (n - 1)) is
