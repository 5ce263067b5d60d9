-- Threads that take turns: who is found, and that a thread which asks nothing makes a plain step.
use Rattle.std.proofs.Common.{◌≡◌, ◌+◌, ◌-◌, ◌<◌, ◌≤◌, ◌∙◌, ◌⊎◌, ℕ, Bool, true, false, cond, not, List, [], ◌∷◌, ◌++◌, length, Option, Some, None, IsSome, refl, sym, ap, subst, arith, inl, inr, zero, suc}
use Rattle.std.specs.Prelude.{◌↔◌, find, is_some, nat_lt, option_and_then, option_map, slice_get, if◌then◌else◌}
use Rattle.std.specs.Option.{option_map_or, option_or}
use Rattle.std.proofs.Math.Nat.{eq-or-lt_of_le}
use Rattle.std.proofs.lemmas.Bool.{cases_lt, ltb-true}
use Rattle.std.proofs.lemmas.Option.{slice_get_within}
use Rattle.std.proofs.lemmas.List.Folds.{find-append}
use Rattle.std.specs.List.{range_with_len}
use Rattle.api_listing.specs.declared.events.ApiCall.{ApiCall}
use Rattle.api_listing.specs.declared.types.ListedMethod.{ListedMethod}
use Rattle.bytecode_model.specs.declared.program.Program.{Program}
use Rattle.guest_heap.specs.declared.frame.Frame.{Frame}
use Rattle.guest_heap.specs.declared.thread.Doing.{Doing}
use Rattle.guest_heap.specs.declared.thread.Doing.TheVariants as doings
use Rattle.guest_model.specs.declared.machine.Choice.{Choice}
use Rattle.guest_model.specs.declared.machine.Choice.TheVariants as choices
use Rattle.guest_model.specs.declared.machine.End.{End}
use Rattle.guest_model.specs.declared.machine.Machine.{Machine}
use Rattle.guest_model.specs.declared.machine.Step.{Step}
use Rattle.api_listing.specs.declared.events.ApiAnswer.{ApiAnswer}
use Rattle.guest_heap.specs.declared.value.Value.{Value}
use Rattle.guest_model.specs.Answering.{answer_fits, method_takes}
use Rattle.guest_model.specs.Calls.{types_of}
use Rattle.guest_model.specs.Asking.{is_enabled}
use Rattle.guest_model.specs.Enabled.{IsEnabled, MayStep}
use Rattle.guest_model.specs.Ending.{SomeIsEnabled, end_of}
use Rattle.guest_model.specs.LibraryCalls.{call_asked, call_of_doing}
use Rattle.guest_model.specs.Stepping.{is_on_null}
use Rattle.guest_model.specs.Turns.{FindsTheEnabled, TurnsFindTheEnabled, WhoAsksNothingGoes, next_enabled, turns_from}
use Rattle.guest_model.proofs.Asks.{enabled_are_steps}
use Rattle.guest_model.proofs.Ends.{ends_where_none_is_enabled}

-- ---- what is found in a list

found_passes : (test : ℕ → Bool) (xs : List ℕ) (x : ℕ) → find test xs ≡ Some x → test x ≡ true
found_passes test [] x is = absurd cc
found_passes test (y ∷ ys) x is = by (found_passes test ys x) (test y) refl is where
  by : (find test ys ≡ Some x → test x ≡ true) → (b : Bool) → test y ≡ b → cond b (Some y) (find test ys) ≡ Some x → test x ≡ true
  by later true passes is = let same : y ≡ x = cc in subst (λ (n : ℕ). test n ≡ true) same passes
  by later false fails is = later is

-- none of these numbers, n of them from a on, passes
none_passes : (test : ℕ → Bool) (a n k : ℕ) → find test (range_with_len a n) ≡ None → a ≤ k → k < a + n → test k ≡ false
none_passes test a zero k is low high = absurd (omega arith)
none_passes test a (suc n) k is low high = by (λ none above. none_passes test (a + 1) n k none above (omega arith)) (test a) refl is (eq-or-lt_of_le low) where
  by : (find test (range_with_len (a + 1) n) ≡ None → a + 1 ≤ k → test k ≡ false) → (b : Bool) → test a ≡ b
      → cond b (Some a) (find test (range_with_len (a + 1) n)) ≡ None → (a ≡ k) ⊎ (a < k) → test k ≡ false
  by later true passes is split = absurd cc
  by later false fails is (inl same) = subst (λ (m : ℕ). test m ≡ false) same fails
  by later false fails is (inr above) = later is (omega arith)

or_none : {X : Type 0} (a b : Option X) → option_or a b ≡ None → (a ≡ None) × (b ≡ None)
or_none None b is = (refl, is)
or_none (Some x) b is = absurd cc

-- whatever the first is, no thread passes where none is found
none_of_all : (test : ℕ → Bool) (first count k : ℕ) → find test (turns_from first count) ≡ None → k < count → test k ≡ false
none_of_all test first count k is below = by (nat_lt first count) refl is where
  parts : find test (range_with_len first (count - first) ++ range_with_len 0 first) ≡ None
      → (find test (range_with_len first (count - first)) ≡ None) × (find test (range_with_len 0 first) ≡ None)
  parts is = or_none _ _ (sym (find-append test (range_with_len first (count - first)) (range_with_len 0 first)) ∙ is)

  side : (first < count) → (find test (range_with_len first (count - first)) ≡ None) × (find test (range_with_len 0 first) ≡ None) → (k < first) ⊎ (first ≤ k) → test k ≡ false
  side within none (inl low) = none_passes test 0 first k none.1 (omega arith) (omega arith)
  side within none (inr high) = none_passes test first (count - first) k none.0 high (omega arith)

  by : (b : Bool) → nat_lt first count ≡ b → find test (if b then range_with_len first (count - first) ++ range_with_len 0 first else range_with_len 0 count) ≡ None → test k ≡ false
  by true within is = side (ltb-true first count within) (parts is) (cases_lt k first)
  by false without is = none_passes test 0 count k is (omega arith) (omega arith)

-- ---- who is found

module _ (program : Program) (machine : Machine) (first : ℕ) where
  can : (number : ℕ) → next_enabled program machine first ≡ Some number → is_enabled program machine number ≡ true
  can number is = found_passes (is_enabled program machine) (turns_from first (length machine.threads)) number is

  to_some : {X : Type 0} (o : Option X) → (o ≡ None → ⊥) → IsSome o
  to_some None wrong = absurd (wrong refl)
  to_some (Some x) wrong = refl

  is_none : {X : Type 0} (o : Option X) → ((x : X) → o ≡ Some x → ⊥) → o ≡ None
  is_none None wrong = refl
  is_none (Some x) wrong = absurd (wrong x refl)

  not_both : {X : Type 0} (o : Option X) → o ≡ None → IsSome o → ⊥
  not_both None is some = absurd cc
  not_both (Some x) is some = absurd cc

  none_ends : next_enabled program machine first ≡ None → IsSome (end_of program machine)
  none_ends is = to_some (end_of program machine) (λ goes_on. refuted ((ends_where_none_is_enabled program machine).0 goes_on)) where
    refuted : SomeIsEnabled program machine → ⊥
    refuted (step, enabled) =
        let fails = none_of_all (is_enabled program machine) first (length machine.threads) step.thread is (slice_get_within machine.threads step.thread enabled.thread enabled.there) in
        let passes = (enabled_are_steps program machine step.thread).1 (step.choice, enabled) in
        let wrong : false ≡ true = sym fails ∙ passes in absurd cc

  ends_none : IsSome (end_of program machine) → next_enabled program machine first ≡ None
  ends_none ended = is_none (next_enabled program machine first) (λ number is. refuted number ((enabled_are_steps program machine number).0 (can number is))) where
    refuted : (number : ℕ) → (choice : Choice) × IsEnabled program machine (record { thread = number; choice = choice }) → ⊥
    refuted number (choice, enabled) = not_both (end_of program machine) ((ends_where_none_is_enabled program machine).1 (record { thread = number; choice = choice }, enabled)) ended

pub turns_find_the_enabled : TurnsFindTheEnabled
turns_find_the_enabled program machine first = record { can = can program machine first; ends = (none_ends program machine first, ends_none program machine first) }

-- ---- who asks nothing

module _ (program : Program) (machine : Machine) (number : ℕ) where
  asks_where_apart : (method : ℕ) (arguments : List Value) (receiver : Option Value) (answer : ApiAnswer)
      → is_on_null receiver ≡ false → method_takes program machine.heap method receiver arguments answer ≡ true
      → call_of_doing program machine.heap (doings.InCall method receiver arguments) ≡ None → ⊥
  asks_where_apart method arguments receiver answer apart takes none = by (slice_get program.listing.methods method) refl takes none where
    by : (listed : Option ListedMethod) → slice_get program.listing.methods method ≡ listed
        → option_map_or (λ (l : ListedMethod). answer_fits program machine.heap (types_of l.id.desc).result receiver arguments answer) listed false ≡ true
        → call_of_doing program machine.heap (doings.InCall method receiver arguments) ≡ None → ⊥
    by None is takes none = absurd cc
    by (Some listed) is takes none = let wrong = rw (apart, is) at none in absurd cc

  plainly : (frames : List Frame) (doing : Doing) (choice : Choice) → MayStep program machine number frames doing choice
      → call_of_doing program machine.heap doing ≡ None → MayStep program machine number frames doing choices.Plain
  plainly frames doings.Running choices.Plain may none = may
  plainly frames doings.Running (choices.Answer answer) may none = absurd may
  plainly frames (doings.InCall method receiver arguments) choices.Plain may none = may
  plainly frames (doings.InCall method receiver arguments) (choices.Answer answer) may none = absurd (asks_where_apart method arguments receiver answer may.0 may.1 none)
  plainly frames doings.Ended choice may none = absurd may

  goes_plainly : (choice : Choice) → IsEnabled program machine (record { thread = number; choice = choice }) → call_asked program machine number ≡ None
      → IsEnabled program machine (record { thread = number; choice = choices.Plain })
  goes_plainly choice is none =
      let here : call_of_doing program machine.heap is.thread.doing ≡ None = rw is.there at none in
      record { runs = is.runs; thread = is.thread; there = is.there; may = plainly is.thread.frames is.thread.doing choice is.may here }

pub who_asks_nothing_goes : WhoAsksNothingGoes
who_asks_nothing_goes program machine number is none =
    let some = (enabled_are_steps program machine number).0 is in goes_plainly program machine number some.0 some.1 none
