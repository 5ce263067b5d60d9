-- The list of the threads that live: how a run ended by it, and what a step changes of it.
use Rattle.std.proofs.Common.{◌≡◌, ◌≢◌, ◌<◌, ◌≤◌, ◌+◌, ◌∙◌, ◌++◌, ◌&&◌, ℕ, zero, suc, Bool, true, false, cond, not, List, [], ◌∷◌, length, get_or, Option, Some, None, refl, sym, ap, subst, arith, eqb}
use Rattle.std.specs.Prelude.{All, IsSome, ℤ, filter, if◌then◌else◌, is_some, slice_get, slice_set}
use Rattle.std.specs.Option.{option_map_or, option_to_list}
use Rattle.std.specs.List.Sorted.{IsNonDecreasing}
use Rattle.std.proofs.lemmas.Bool.{eq-eqb, ne_eqb}
use Rattle.std.proofs.lemmas.List.{length-set}
use Rattle.std.proofs.lemmas.List.Elements.{All-head, All-tail}
use Rattle.std.proofs.lemmas.Option.{slice_get_within}
use Rattle.api_listing.specs.declared.events.Event.{Event}
use Rattle.bytecode_model.specs.declared.program.Program.{Program}
use Rattle.guest_heap.specs.declared.thread.Doing.{Doing}
use Rattle.guest_heap.specs.declared.thread.Doing.TheVariants as doings
use Rattle.guest_heap.specs.declared.thread.Thread.{Thread}
use Rattle.guest_model.specs.declared.machine.Choice.{Choice}
use Rattle.guest_model.specs.declared.machine.End.TheVariants as ends
use Rattle.guest_model.specs.declared.machine.Machine.{Machine}
use Rattle.guest_model.specs.declared.machine.Step.{Step}
use Rattle.guest_model.specs.Calling.{is_ended}
use Rattle.guest_model.specs.Changes.{Change, applied}
use Rattle.guest_model.specs.Ending.{end_of, end_of_threads, have_ended, some_can_step}
use Rattle.guest_model.specs.Stepping.{changed, doing_stepped, stepped}
use Rattle.guest_model.proofs.Options.{and_then_of, map_of}
use Rattle.guest_step.specs.Living.{living_at, living_from, living_of, without_ended}

-- ---- the numbers ascend

above : (n : ℕ) (threads : List Thread) → All (λ (m : ℕ). n ≤ m) (living_from n threads)
above n [] = λ j d within. absurd (omega arith)
above n (t ∷ threads) = by (is_ended t.doing) (above (n + 1) threads) where
  by : (b : Bool) → All (λ (m : ℕ). n + 1 ≤ m) (living_from (n + 1) threads) → All (λ (m : ℕ). n ≤ m) (cond b (living_from (n + 1) threads) (n ∷ living_from (n + 1) threads))
  by true rest j d within = omega (arith, rest j d within)
  by false rest zero d within = omega arith
  by false rest (suc j) d within = omega (arith, rest j d (omega arith))

pub ascends : (n : ℕ) (threads : List Thread) → IsNonDecreasing (living_from n threads)
ascends n [] = λ i j d le within. absurd (omega arith)
ascends n (t ∷ threads) = by (is_ended t.doing) (ascends (n + 1) threads) where
  by : (b : Bool) → IsNonDecreasing (living_from (n + 1) threads) → IsNonDecreasing (cond b (living_from (n + 1) threads) (n ∷ living_from (n + 1) threads))
  by true rest i j d le within = rest i j d le within
  by false rest zero zero d le within = omega arith
  by false rest zero (suc j) d le within = omega (arith, above (n + 1) threads j d (omega arith))
  by false rest (suc i) zero d le within = absurd (omega arith)
  by false rest (suc i) (suc j) d le within = rest i j d (omega arith) (omega arith)

-- ---- there are none where each thread has ended

pub none_live : (n : ℕ) (threads : List Thread) → length (living_from n threads) ≡ 0 → have_ended threads ≡ true
none_live n [] none = refl
none_live n (t ∷ threads) none = by (is_ended t.doing) (none_live (n + 1) threads) none where
  by : (b : Bool) → (length (living_from (n + 1) threads) ≡ 0 → have_ended threads ≡ true) → length (cond b (living_from (n + 1) threads) (n ∷ living_from (n + 1) threads)) ≡ 0
      → (b && have_ended threads) ≡ true
  by true rest none = rest none
  by false rest none = absurd (omega arith)

pub some_live : (n : ℕ) (threads : List Thread) → 0 < length (living_from n threads) → have_ended threads ≡ false
some_live n [] some = absurd (omega arith)
some_live n (t ∷ threads) some = by (is_ended t.doing) (some_live (n + 1) threads) some where
  by : (b : Bool) → (0 < length (living_from (n + 1) threads) → have_ended threads ≡ false) → 0 < length (cond b (living_from (n + 1) threads) (n ∷ living_from (n + 1) threads))
      → (b && have_ended threads) ≡ false
  by true rest some = rest some
  by false rest some = refl

module _ (program : Program) (machine : Machine) (goes : machine.stopped ≡ None) where
  by_threads : end_of program machine ≡ end_of_threads program machine
  by_threads = ap (λ (o : Option ℤ). option_map_or (λ value. Some (ends.Stopped value)) o (end_of_threads program machine)) goes

  pub finished : length (living_of machine.threads) ≡ 0 → end_of program machine ≡ Some ends.Finished
  finished none =
      by_threads
      ∙ ap (λ (b : Bool). cond b (Some ends.Finished) (cond (some_can_step program machine 0 machine.threads) None (Some ends.Deadlock))) (none_live 0 machine.threads none)

  pub deadlock : 0 < length (living_of machine.threads) → IsSome (end_of program machine) → end_of program machine ≡ Some ends.Deadlock
  deadlock some has_end =
      let is : end_of program machine ≡ cond (some_can_step program machine 0 machine.threads) None (Some ends.Deadlock) =
      by_threads
      ∙ ap (λ (b : Bool). cond b (Some ends.Finished) (cond (some_can_step program machine 0 machine.threads) None (Some ends.Deadlock))) (some_live 0 machine.threads some)
      in
      is ∙ by (some_can_step program machine 0 machine.threads) (subst IsSome is has_end) where
        by : (b : Bool) → IsSome (cond b None (Some ends.Deadlock)) → cond b None (Some ends.Deadlock) ≡ Some ends.Deadlock
        by true has = absurd cc
        by false has = refl

-- ---- a thread that is changed

module _ (p : ℕ → Bool) where
  all_pass : (xs : List ℕ) → All (λ (x : ℕ). p x ≡ true) xs → filter p xs ≡ xs
  all_pass [] all = refl
  all_pass (x ∷ xs) all =
      ap (λ (b : Bool). cond b (x ∷ filter p xs) (filter p xs)) (All-head (λ (y : ℕ). p y ≡ true) x xs all)
      ∙ ap (λ (ys : List ℕ). x ∷ ys) (all_pass xs (All-tail (λ (y : ℕ). p y ≡ true) x xs all))

abbrev other_than : ℕ → ℕ → Bool
other_than number other = not (eqb other number)

differs : (number other : ℕ) → other ≢ number → other_than number other ≡ true
differs number other h = ap not (ne_eqb other number h)

same : (number other : ℕ) → other ≡ number → other_than number other ≡ false
same number other h = ap not (eq-eqb other number h)

-- what is left of the numbers where the thread has become this one
abbrev left : ℕ → Thread → List ℕ → List ℕ
left number t numbers = if is_ended t.doing then filter (other_than number) numbers else numbers

-- a thread that lived has become this one
set_is : (n i number : ℕ) (threads : List Thread) (own t : Thread) → number ≡ n + i → slice_get threads i ≡ Some own → is_ended own.doing ≡ false
    → living_from n (slice_set threads i t) ≡ left number t (living_from n threads)
set_is n i number [] own t at there lives = absurd cc
set_is n zero number (u ∷ threads) own t at there lives =
    by (is_ended t.doing)
    ∙ ap (λ (b : Bool). left number t (cond b (living_from (n + 1) threads) (n ∷ living_from (n + 1) threads))) (sym lived) where
      lived : is_ended u.doing ≡ false
      lived = let e : u ≡ own = cc in ap (λ (x : Thread). is_ended x.doing) e ∙ lives

      by : (b : Bool) → cond b (living_from (n + 1) threads) (n ∷ living_from (n + 1) threads)
          ≡ cond b (filter (other_than number) (n ∷ living_from (n + 1) threads)) (n ∷ living_from (n + 1) threads)
      by true =
          sym (ap (λ (b : Bool). cond b (n ∷ filter (other_than number) (living_from (n + 1) threads)) (filter (other_than number) (living_from (n + 1) threads))) (same number n (omega arith))
          ∙ all_pass (other_than number) (living_from (n + 1) threads)
          (λ k d within. differs number (get_or (living_from (n + 1) threads) k d) (λ e. absurd (omega (arith, e, above (n + 1) threads k d within)))))
      by false = refl
set_is n (suc i) number (u ∷ threads) own t at there lives = by (is_ended u.doing) (is_ended t.doing) (set_is (n + 1) i number threads own t (omega arith) there lives) where
  by : (u_ended t_ended : Bool) → living_from (n + 1) (slice_set threads i t) ≡ cond t_ended (filter (other_than number) (living_from (n + 1) threads)) (living_from (n + 1) threads)
      → cond u_ended (living_from (n + 1) (slice_set threads i t)) (n ∷ living_from (n + 1) (slice_set threads i t))
      ≡ cond t_ended (filter (other_than number) (cond u_ended (living_from (n + 1) threads) (n ∷ living_from (n + 1) threads))) (cond u_ended (living_from (n + 1) threads) (n ∷ living_from (n + 1) threads))
  by true true is = is
  by true false is = is
  by false true is =
      ap (λ (xs : List ℕ). n ∷ xs) is
      ∙ sym (ap (λ (b : Bool). cond b (n ∷ filter (other_than number) (living_from (n + 1) threads)) (filter (other_than number) (living_from (n + 1) threads))) (differs number n (λ e. absurd (omega (arith, e)))))
  by false false is = ap (λ (xs : List ℕ). n ∷ xs) is

-- ---- threads that follow others

more : (n : ℕ) (xs ys : List Thread) → living_from n (xs ++ ys) ≡ living_from n xs ++ living_from (n + length xs) ys
more n [] ys = let e : n ≡ n + 0 = omega arith in ap (λ (m : ℕ). living_from m ys) e
more n (t ∷ xs) ys = by (is_ended t.doing) (more (n + 1) xs ys ∙ ap (λ (m : ℕ). living_from (n + 1) xs ++ living_from m ys) same_start) where
  same_start : n + 1 + length xs ≡ n + suc (length xs)
  same_start = omega arith

  by : (b : Bool) → living_from (n + 1) (xs ++ ys) ≡ living_from (n + 1) xs ++ living_from (n + suc (length xs)) ys → cond b (living_from (n + 1) (xs ++ ys)) (n ∷ living_from (n + 1) (xs ++ ys))
      ≡ cond b (living_from (n + 1) xs) (n ∷ living_from (n + 1) xs) ++ living_from (n + suc (length xs)) ys
  by true rest = rest
  by false rest = ap (λ (zs : List ℕ). n ∷ zs) rest

get_set : (threads : List Thread) (i : ℕ) (t : Thread) (others : List Thread) → i < length threads → slice_get (slice_set threads i t ++ others) i ≡ Some t
get_set [] i t others within = absurd (omega arith)
get_set (u ∷ threads) zero t others within = refl
get_set (u ∷ threads) (suc i) t others within = get_set threads i t others (omega arith)

get_behind : (threads : List Thread) (count : ℕ) (o : Option Thread) → count ≡ length threads → slice_get (threads ++ option_to_list o) count ≡ o
get_behind [] zero None is = refl
get_behind [] zero (Some t) is = refl
get_behind [] (suc count) o is = absurd cc
get_behind (u ∷ threads) zero o is = absurd cc
get_behind (u ∷ threads) (suc count) o is = get_behind threads count o (omega arith)

-- ---- a step

at_is : (count : ℕ) (o : Option Thread) → option_map_or (λ (t : Thread). living_from count (t ∷ [])) o [] ≡ living_from count (option_to_list o)
at_is count None = refl
at_is count (Some t) = refl

lived : (program : Program) (m : Machine) (number : ℕ) (t : Thread) (doing : Doing) (choice : Choice) (change : Change) → doing_stepped program m number t doing choice ≡ Some change → is_ended doing ≡ false
lived program m number t doings.Running choice change made = refl
lived program m number t (doings.InCall method receiver arguments) choice change made = refl
lived program m number t doings.Ended choice change made = absurd cc

-- the threads with one that lived become this one, and one that begins
changed_is : (threads : List Thread) (number : ℕ) (own t : Thread) (begins : Option Thread) → slice_get threads number ≡ Some own → is_ended own.doing ≡ false
    → living_of (slice_set threads number t ++ option_to_list begins) ≡ left number t (living_of threads) ++ living_from (length threads) (option_to_list begins)
changed_is threads number own t begins there lives =
    let count : 0 + length (slice_set threads number t) ≡ length threads = omega (arith, length-set threads number t) in
    let at : number ≡ 0 + number = omega arith in
    more 0 (slice_set threads number t) (option_to_list begins)
    ∙ ap (λ (xs : List ℕ). xs ++ living_from (0 + length (slice_set threads number t)) (option_to_list begins)) (set_is 0 number number threads own t at there lives)
    ∙ ap (λ (m : ℕ). left number t (living_of threads) ++ living_from m (option_to_list begins)) count

module _ (old : Machine) (number : ℕ) where
  abbrev IsUpToDate : Machine → Type 0
  IsUpToDate new = without_ended new number (living_of old.threads) ++ living_at new.threads (length old.threads) ≡ living_of new.threads

  applied_is : (change : Change) (own : Thread) → slice_get old.threads number ≡ Some own → is_ended own.doing ≡ false → IsUpToDate (applied number old change)
  applied_is change own there lives =
      let threads : List Thread = slice_set old.threads number change.thread in
      let here = get_set old.threads number change.thread (option_to_list change.begins) (slice_get_within old.threads number own there) in
      let count : length old.threads ≡ length threads = sym (length-set old.threads number change.thread) in
      ap (λ (o : Option Thread). (if option_map_or (λ (t : Thread). is_ended t.doing) o false then filter (other_than number) (living_of old.threads) else living_of old.threads)
      ++ living_at (threads ++ option_to_list change.begins) (length old.threads)) here
      ∙ ap (λ (o : Option Thread). left number change.thread (living_of old.threads) ++ option_map_or (λ (t : Thread). living_from (length old.threads) (t ∷ [])) o [])
      (get_behind threads (length old.threads) change.begins count)
      ∙ ap (λ (xs : List ℕ). left number change.thread (living_of old.threads) ++ xs) (at_is (length old.threads) change.begins)
      ∙ sym (changed_is old.threads number own change.thread change.begins there lives)

running : {A : Type 0} (b : Bool) (o : Option A) (y : A) → cond b None o ≡ Some y → o ≡ Some y
running true o y is = absurd cc
running false o y is = is

-- the list is up to date after a step
pub up_to_date : (program : Program) (old new : Machine) (step : Step) (event : Option Event) → stepped program old step ≡ Some (new, event) → IsUpToDate old step.thread new
up_to_date program old new step event is =
    let made = map_of (λ (change : Change). (applied step.thread old change, change.event)) (changed program old step) (new, event) is in
    let acts =
    and_then_of (λ (t : Thread). doing_stepped program old step.thread t t.doing step.choice) (slice_get old.threads step.thread) made.0
    (running (is_some old.stopped) _ made.0 made.1)
    in
    subst (λ (m : Machine × Option Event). IsUpToDate old step.thread m.0) made.2
    (applied_is old step.thread made.0 acts.0 acts.1 (lived program old step.thread acts.0 acts.0.doing step.choice made.0 acts.2))

-- so what was brought up to date are those that live, if the list was of those that lived
pub brought_up_to_date : (program : Program) (old new : Machine) (step : Step) (event : Option Event) (count : ℕ) (before after : List ℕ) → stepped program old step ≡ Some (new, event)
    → before ≡ living_of old.threads → count ≡ length old.threads → after ≡ without_ended new step.thread before ++ living_at new.threads count → after ≡ living_of new.threads
brought_up_to_date program old new step event count before after made lived counted is =
    is
    ∙ ap (λ (numbers : List ℕ). without_ended new step.thread numbers ++ living_at new.threads count) lived
    ∙ ap (λ (n : ℕ). without_ended new step.thread (living_of old.threads) ++ living_at new.threads n) counted
    ∙ up_to_date program old new step event made
