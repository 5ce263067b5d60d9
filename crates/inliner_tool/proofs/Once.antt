-- A command but `inline` and `run` comes to one outcome over the same files.
use Rattle.std.proofs.Common.{◌≡◌, ◌⊎◌, inl, inr, ℕ, ◌+◌, ◌<◌, ◌≤◌, List, length, Option, Some, Result, Ok, Err, refl, sym, ap, subst, ◌∙◌, arith}
use Rattle.std.specs.Prelude.{slice_get}
use Rattle.bytecode_model.specs.declared.program.LinkedClass.{LinkedClass}
use Rattle.bytecode_model.specs.declared.program.Method.{Method}
use Rattle.bytecode_model.specs.declared.program.Program.{Program}
use Rattle.cert_format.specs.declared.certificate.Mode.{Mode}
use Rattle.command_inputs.specs.declared.inline_words.Weaving.TheVariants.{Auto}
use Rattle.command_inputs.specs.declared.lift_inputs.LiftInputs.{LiftInputs}
use Rattle.conspec_automaton.specs.declared.policy.Policy.{Policy as Automaton}
use Rattle.guest_model.specs.declared.machine.Step.{Step as GuestStep}
use Rattle.lift_schedule.specs.Lifting.{lift_of}
use Rattle.command_inputs.specs.Words.{Check, Gen, Inline, Lift, Load, NamedCommand, Policy, Race, Replay, Run, Show}
use Rattle.conspec_automaton.specs.Building.{built}
use Rattle.command_inputs.specs.declared.check_inputs.CheckInputs.{CheckInputs}
use Rattle.race_free_check.specs.Deciding.{decided}
use Rattle.command_inputs.specs.declared.files.Stop.{Stop}
use Rattle.command_inputs.specs.declared.replay_inputs.ReplayInputs.{ReplayInputs}
use Rattle.command_inputs.specs.Contents.{Contents, check_read, lift_read, policy_read, race_read, replay_read, show_read}
use Rattle.command_inputs.specs.Forms.{Then, Yields}
use Rattle.type_infer.specs.Untyped.{CanBeMet, IsUntypedAt, StandsBefore}
use Rattle.inliner_tool.specs.declared.answer.Answer.{Answer}
use Rattle.inliner_tool.specs.declared.answer.Answer.TheVariants as answers
use Rattle.inliner_tool.specs.declared.refusal.Ended.{Ended}
use Rattle.inliner_tool.specs.declared.refusal.Refusal.{Refusal}
use Rattle.inliner_tool.specs.Check.{Checks, judged_step, link_inputs}
use Rattle.inliner_tool.specs.Commands.{Makes, readings_in}
use Rattle.inliner_tool.specs.Decides.{GivesOnce, IsDetermined}
use Rattle.inliner_tool.specs.Lift.{Lifts, LiftsOver, LiftsText, LiftsTyped, blocks_step, lift_told}
use Rattle.inliner_tool.specs.Policy.{Judges}
use Rattle.inliner_tool.specs.Programs.{Types}
use Rattle.inliner_tool.specs.Race.{Races, race_step}
use Rattle.inliner_tool.specs.Replay.{Replays, Tells, link_run, steps_told}
use Rattle.inliner_tool.specs.Show.{Shows, text_shown}
use Rattle.inliner_tool.specs.Steps.{Equals, Just, Outcome, Reading, Step, outcome_step, stopped}
use Rattle.inliner_tool.specs.Weaving.{mode_for, original}
use Rattle.inliner_tool.proofs.RunDecision.{types_are_found}

-- ---- where no types fit

-- what is met up to a place is met up to each before it
met_before : (program : Program) (own : ℕ) (class : LinkedClass) (method : Method) (n m : ℕ) → n ≤ m → CanBeMet program own class method m → CanBeMet program own class method n
met_before program own class method n m few (frames, met) = (frames, λ at below. met at (omega (arith, few, below)))

same_some : {A : Type 0} (o : Option A) (x y : A) → o ≡ Some x → o ≡ Some y → x ≡ y
same_some o x y e f =
    let same : Some x ≡ Some y = sym e ∙ f in
    cc

-- which of two numbers is less
which : (a b : ℕ) → (a < b) ⊎ ((a ≡ b) ⊎ (b < a))
which ℕ.zero ℕ.zero = inr (inl refl)
which ℕ.zero (ℕ.suc b) = inl (omega arith)
which (ℕ.suc a) ℕ.zero = inr (inr (omega arith))
which (ℕ.suc a) (ℕ.suc b) = by (which a b)
  where
    by : (a < b) ⊎ ((a ≡ b) ⊎ (b < a)) → (ℕ.suc a < ℕ.suc b) ⊎ ((ℕ.suc a ≡ ℕ.suc b) ⊎ (ℕ.suc b < ℕ.suc a))
    by (inl less) = inl (omega (arith, less))
    by (inr (inl same)) = inr (inl (ap ℕ.suc same))
    by (inr (inr more)) = inr (inr (omega (arith, more)))

module _ (program : Program) (class method at : ℕ) (one : IsUntypedAt program class method at) where
  -- no earlier method is without types
  none_after : (own index place : ℕ) → IsUntypedAt program own index place → StandsBefore class method own index → ⊥
  none_after own index place other before =
      let within = one.within in
      one.fails (met_before program class one.of one.body (at + 1) (length one.body.insns) (omega (arith, within)) (other.earlier class method one.of one.body one.class_there one.method_there before))

  -- of one method no earlier place is the first
  none_before : (place : ℕ) → IsUntypedAt program class method place → at < place → ⊥
  none_before place other less =
      let same : one.of ≡ other.of = same_some (slice_get program.classes class) one.of other.of one.class_there other.class_there in
      let there : slice_get other.of.methods method ≡ Some one.body = subst (λ (c : LinkedClass). slice_get c.methods method ≡ Some one.body) same one.method_there in
      let body : one.body ≡ other.body = same_some (slice_get other.of.methods method) one.body other.body there other.method_there in
      let met : CanBeMet program class one.of one.body place = rw (same, body) other.before in
      one.fails (met_before program class one.of one.body (at + 1) place (omega (arith, less)) met)

untyped_once : (program : Program) (class method at own index place : ℕ) → IsUntypedAt program class method at → IsUntypedAt program own index place → (class ≡ own) × ((method ≡ index) × (at ≡ place))
untyped_once program class method at own index place one other = by (which class own) (which method index) (which at place)
  where
    by : (class < own) ⊎ ((class ≡ own) ⊎ (own < class)) → (method < index) ⊎ ((method ≡ index) ⊎ (index < method)) → (at < place) ⊎ ((at ≡ place) ⊎ (place < at))
        → (class ≡ own) × ((method ≡ index) × (at ≡ place))
    by (inl less) m p = absurd (none_after program class method at one own index place other (inl less))
    by (inr (inr more)) m p = absurd (none_after program own index place other class method at one (inl more))
    by (inr (inl c)) (inl less) p = absurd (none_after program class method at one own index place other (inr (c, less)))
    by (inr (inl c)) (inr (inr more)) p = absurd (none_after program own index place other class method at one (inr (sym c, more)))
    by (inr (inl c)) (inr (inl m)) (inr (inl p)) = (c, (m, p))
    by (inr (inl c)) (inr (inl m)) (inl less) =
        absurd (none_before program class method at one place (subst (λ (i : ℕ). IsUntypedAt program class i place) (sym m) (subst (λ (o : ℕ). IsUntypedAt program o index place) (sym c) other)) less)
    by (inr (inl c)) (inr (inl m)) (inr (inr more)) =
        absurd (none_before program own index place other at (subst (λ (i : ℕ). IsUntypedAt program own i at) m (subst (λ (o : ℕ). IsUntypedAt program o method at) c one)) more)

-- where no types fit, one refusal is told
untyped_same : (program : Program) (a b : Ended) → Types program (Err a) → Types program (Err b) → a ≡ b
untyped_same program a b (class, method, at, is, one) (own, index, place, also, two) =
    let same = untyped_once program class method at own index place one two in
    is ∙ rw (same.0, same.1.0, same.1.1) refl ∙ sym also

-- ---- outcomes

-- It is so of one alone.
abbrev Once : {X : Type 0} → (X → Type 0) → Type 0
Once {X = X} P = (a b : X) → P a → P b → a ≡ b

equals_once : {A : Type 0} (step : Step A) → Once (Equals step)
equals_once step a b one two = one ∙ sym two

yields_once : {A : Type 0} (a : A) → Once (Yields {E = Ended} a)
yields_once a (Ok x) (Ok y) one two = ap (λ (z : _). Ok z) (one ∙ sym two)
yields_once a (Err e) b none two = absurd none
yields_once a (Ok x) (Err e) one none = absurd none

module _ {A B : Type 0} (First : Step A → Type 0) (Second : A → Step B → Type 0) (first : Once First) (second : (a : A) → Once (Second a)) where
  same_first : (a b : A) → First (Ok a) → First (Ok b) → a ≡ b
  same_first a b one two =
      let same : ◌≡◌ {A = Step A} (Ok a) (Ok b) = first (Ok a) (Ok b) one two in
      cc

  not_both : (a : A) (e : Ended) → First (Ok a) → First (Err e) → ⊥
  not_both a e one two =
      let wrong : ◌≡◌ {A = Step A} (Ok a) (Err e) = first (Ok a) (Err e) one two in
      absurd cc

  ends_once : (e f : Ended) → First (Err e) → First (Err f) → ◌≡◌ {A = Step B} (Err e) (Err f)
  ends_once e f one two =
      let same : ◌≡◌ {A = Step A} (Err e) (Err f) = first (Err e) (Err f) one two in
      cc

  then_once : Once (Then First Second)
  then_once (Ok x) (Ok y) (a, one, rest) (b, two, others) = second a (Ok x) (Ok y) rest (subst (λ (c : A). Second c (Ok y)) (sym (same_first a b one two)) others)
  then_once (Ok x) (Err f) (a, one, rest) (inl two) = absurd (not_both a f one two)
  then_once (Ok x) (Err f) (a, one, rest) (inr (b, two, others)) = second a (Ok x) (Err f) rest (subst (λ (c : A). Second c (Err f)) (sym (same_first a b one two)) others)
  then_once (Err e) (Ok y) (inl one) (b, two, others) = absurd (not_both b e two one)
  then_once (Err e) (Ok y) (inr (a, one, rest)) (b, two, others) = second a (Err e) (Ok y) rest (subst (λ (c : A). Second c (Ok y)) (sym (same_first a b one two)) others)
  then_once (Err e) (Err f) (inl one) (inl two) = ends_once e f one two
  then_once (Err e) (Err f) (inl one) (inr (b, two, others)) = absurd (not_both b e two one)
  then_once (Err e) (Err f) (inr (a, one, rest)) (inl two) = absurd (not_both a f one two)
  then_once (Err e) (Err f) (inr (a, one, rest)) (inr (b, two, others)) = second a (Err e) (Err f) rest (subst (λ (c : A). Second c (Err f)) (sym (same_first a b one two)) others)

-- What comes after the types, whichever these are.
types_once : {B : Type 0} (program : Program) (Second : Step B → Type 0) → Once Second → Once (Then (Types program) (λ typing. Second))
types_once program Second second (Ok x) (Ok y) (typing, typed, rest) (types, fit, others) = second (Ok x) (Ok y) rest others
types_once program Second second (Ok x) (Err f) (typing, typed, rest) (inl untyped) = absurd (types_are_found program (typing, typed.typed) f untyped)
types_once program Second second (Ok x) (Err f) (typing, typed, rest) (inr (types, fit, others)) = second (Ok x) (Err f) rest others
types_once program Second second (Err e) (Ok y) (inl untyped) (types, fit, others) = absurd (types_are_found program (types, fit.typed) e untyped)
types_once program Second second (Err e) (Ok y) (inr (typing, typed, rest)) (types, fit, others) = second (Err e) (Ok y) rest others
types_once program Second second (Err e) (Err f) (inl one) (inl two) = ap (λ (x : Ended). Err x) (untyped_same program e f one two)
types_once program Second second (Err e) (Err f) (inl untyped) (inr (types, fit, others)) = absurd (types_are_found program (types, fit.typed) e untyped)
types_once program Second second (Err e) (Err f) (inr (typing, typed, rest)) (inl untyped) = absurd (types_are_found program (typing, typed.typed) f untyped)
types_once program Second second (Err e) (Err f) (inr (typing, typed, rest)) (inr (types, fit, others)) = second (Err e) (Err f) rest others

-- what is told of a run
tells_once : (main : List ℕ) (inputs : ReplayInputs) → Once (Tells main inputs)
tells_once main inputs =
    then_once (Equals (link_run main inputs)) (λ program. Then (Types program) (λ typing. Equals (steps_told program inputs.recorded.steps))) (equals_once _)
    (λ program. types_once program (Equals (steps_told program inputs.recorded.steps)) (equals_once _))

-- and of a lifted one
lifts_over_once : (client : Program) (policy : Automaton) (mode : Mode) (steps : List GuestStep) → Once (LiftsOver client policy mode steps)
lifts_over_once client policy mode steps =
    then_once (Equals (blocks_step client policy mode)) (λ woven. Equals (lift_told woven (lift_of policy mode client woven steps))) (equals_once _) (λ woven. equals_once _)

lifts_once : (main : List ℕ) (inputs : LiftInputs) → Once (LiftsText main inputs)
lifts_once main inputs =
    then_once (Equals (original inputs.listing inputs.classes main)) (LiftsTyped inputs.policy inputs.recorded.steps) (equals_once _)
    (λ client. types_once client
    (Then (Equals (mode_for Auto inputs.policy client.listing)) (λ mode. LiftsOver client (built inputs.policy) mode inputs.recorded.steps))
    (then_once (Equals (mode_for Auto inputs.policy client.listing)) (λ mode. LiftsOver client (built inputs.policy) mode inputs.recorded.steps) (equals_once _)
    (λ mode. lifts_over_once client (built inputs.policy) mode inputs.recorded.steps)))

reading_once : {A : Type 0} (read : Result A Stop) → Once {X = Step A} (Reading (λ r. r ≡ read))
reading_once read (Ok x) (Ok y) one two =
    let same : ◌≡◌ {A = Result _ Stop} (Ok x) (Ok y) = one ∙ sym two in
    cc
reading_once read (Ok x) (Err f) one (stop, two, is) =
    let wrong : ◌≡◌ {A = Result _ Stop} (Ok x) (Err stop) = one ∙ sym two in
    absurd cc
reading_once read (Err e) (Ok y) (stop, one, is) two =
    let wrong : ◌≡◌ {A = Result _ Stop} (Err stop) (Ok y) = one ∙ sym two in
    absurd cc
reading_once read (Err e) (Err f) (stop, one, is) (other, two, also) =
    let same : ◌≡◌ {A = Result _ Stop} (Err stop) (Err other) = one ∙ sym two in
    let stops : stop ≡ other = cc in
    ap (λ (x : Ended). Err x) (is ∙ ap stopped stops ∙ sym also)

checks_once : (main : List ℕ) (inputs : CheckInputs) → Once (Checks main inputs)
checks_once main inputs =
    then_once (Equals (link_inputs main inputs)) (λ program. Then (Equals (judged_step inputs.policy inputs.certificate program)) (λ accepted. Just (answers.Accepted accepted))) (equals_once _)
    (λ program. then_once (Equals (judged_step inputs.policy inputs.certificate program)) (λ accepted. Just (answers.Accepted accepted)) (equals_once _) (λ accepted. yields_once _))

makes_once : (contents : Contents) (named : NamedCommand) → IsDetermined named → Once (Makes (readings_in contents) named)
makes_once contents (Check named) other = then_once (Reading (λ r. r ≡ check_read contents named)) (Checks named.main) (reading_once _) (checks_once named.main)
makes_once contents (Show named) other =
    then_once (Reading (λ r. r ≡ show_read contents named)) Shows (reading_once _)
    (λ inputs. then_once (Equals (text_shown inputs)) (λ text. Just (answers.Shown text)) (equals_once _) (λ text. yields_once _))
makes_once contents (Policy named) other = then_once (Reading (λ r. r ≡ policy_read contents named)) Judges (reading_once _) (λ inputs. yields_once _)
makes_once contents (Race named) other =
    then_once (Reading (λ r. r ≡ race_read contents named)) Races (reading_once _)
    (λ inputs. then_once (Equals (race_step inputs.policy inputs.listing (decided (built inputs.policy)))) (λ free. Just answers.RaceFree) (equals_once _) (λ free. yields_once _))
makes_once contents (Inline named) other = absurd other
makes_once contents (Replay named) other =
    then_once (Reading (λ r. r ≡ replay_read contents named)) (Replays named.main) (reading_once _)
    (λ inputs. then_once (Tells named.main inputs) (λ text. Just (answers.Replayed text)) (tells_once named.main inputs) (λ text. yields_once _))
makes_once contents (Lift named) other =
    then_once (Reading (λ r. r ≡ lift_read contents named)) (Lifts named.main) (reading_once _)
    (λ inputs. then_once (LiftsText named.main inputs) (λ text. Just (answers.Lifted text)) (lifts_once named.main inputs) (λ text. yields_once _))
makes_once contents (Gen named) other = yields_once _
makes_once contents (Load named) other = absurd other
makes_once contents (Run named) other = absurd other

outcome_once : (a b : Outcome) → outcome_step a ≡ outcome_step b → a ≡ b
outcome_once (Ok x) (Ok y) same =
    let is : x ≡ y = cc in
    ap (λ (z : Answer). Ok z) is
outcome_once (Ok x) (Err f) same = absurd cc
outcome_once (Err e) (Ok y) same = absurd cc
outcome_once (Err e) (Err f) same =
    let is : e ≡ f = cc in
    ap (λ (z : Refusal). Err z) is

pub gives_once : GivesOnce
gives_once contents named a b other one two =
    outcome_once a b (then_once (Makes (readings_in contents) named) (λ made. Yields made.answer) (makes_once contents named other) (λ made. yields_once made.answer) (outcome_step a) (outcome_step b) one two)
