-- A machine has ended exactly where the rules enable no step.
use Rattle.std.proofs.Common.{◌≡◌, inl, inr, ℕ, zero, suc, ◌+◌, pos, Bool, true, false, List, [], ◌∷◌, Option, Some, None, Ok, Err, refl, sym, ap, subst, ◌∙◌, arith}
use Rattle.std.specs.Prelude.{IsTrue, ℤ, ◌&&◌, ◌||◌, not, cond, is_some, nat_eq, slice_get}
use Rattle.std.specs.List.{list_all, onto_first}
use Rattle.std.proofs.lemmas.Bool.{cases_Bool, eqb-true}
use Rattle.std.specs.Option.{option_map_or}
use Rattle.api_listing.specs.declared.descriptor.Element.{Element}
use Rattle.api_listing.specs.declared.descriptor.Element.TheVariants as elements
use Rattle.api_listing.specs.declared.descriptor.FieldType.{FieldType}
use Rattle.api_listing.specs.declared.descriptor.MethodType.{MethodType}
use Rattle.api_listing.specs.declared.events.ApiAnswer.{ApiAnswer}
use Rattle.api_listing.specs.declared.events.ApiAnswer.TheVariants as answers
use Rattle.api_listing.specs.declared.types.ListedMethod.{ListedMethod}
use Rattle.api_listing.specs.Descriptor.{is_element, is_result, method_type}
use Rattle.api_listing.specs.Fault.{Read}
use Rattle.api_listing.specs.Words.{is_class_name, is_segment, pieces}
use Rattle.api_listing.proofs.DescriptorLaws.{method_found}
use Rattle.bytecode_model.specs.declared.program.Program.{Program}
use Rattle.bytecode_model.specs.Arrays.{is_array}
use Rattle.guest_heap.specs.declared.frame.Frame.{Frame}
use Rattle.guest_heap.specs.declared.object.Object.{Object}
use Rattle.guest_heap.specs.declared.thread.Doing.{Doing}
use Rattle.guest_heap.specs.declared.thread.Doing.TheVariants as doings
use Rattle.guest_heap.specs.declared.thread.Thread.{Thread}
use Rattle.guest_heap.specs.declared.value.Value.{Value}
use Rattle.guest_model.specs.declared.machine.Choice.{Choice}
use Rattle.guest_model.specs.declared.machine.Choice.TheVariants as choices
use Rattle.guest_model.specs.declared.machine.End.TheVariants as ends
use Rattle.guest_model.specs.declared.machine.Machine.{Machine}
use Rattle.guest_model.specs.Calls.{types_of, types_read}
use Rattle.guest_model.specs.Answering.{answer_fits}
use Rattle.guest_model.specs.Calling.{is_ended}
use Rattle.guest_model.specs.Enabled.{MayStep, waits}
use Rattle.guest_model.specs.Stepping.{is_on_null}
use Rattle.guest_model.specs.Ending.{EndsWhereNoneIsEnabled, SomeIsEnabled, can_step, end_of, end_of_threads, have_ended, some_can_step}
use Rattle.guest_model.proofs.Described.{named_described}

-- ---- a call takes some answer

-- The name of a class is none of an array.
segments : (parts : List (List ℕ)) → list_all is_segment (onto_first 91 parts) ≡ false
segments [] = refl
segments (part ∷ parts) = refl

no_array : (name : List ℕ) → is_class_name name ≡ true → is_array name ≡ false
no_array [] named = refl
no_array (c ∷ rest) named = elim (cases_Bool (nat_eq c 91)) [
  | inl is ↦ let wrong : false ≡ true = sym (rw (eqb-true c 91 is) (segments (pieces 47 rest))) ∙ named in absurd cc
  | inr is ↦ is
]

module _ (program : Program) (heap : List Object) (receiver : Option Value) (arguments : List Value) where
  -- An answer that fits a call of a method with this result.
  abbrev Fitting : Option FieldType → Type 0
  Fitting result = (answer : ApiAnswer) × (answer_fits program heap result receiver arguments answer ≡ true)

  of_type : (dimensions : ℕ) (element : Element) → IsTrue (is_element element) → Fitting (Some (record { dimensions = dimensions; element = element }))
  of_type zero elements.Boolean named = (answers.Int (pos 0), refl)
  of_type zero elements.Byte named = (answers.Int (pos 0), refl)
  of_type zero elements.Char named = (answers.Int (pos 0), refl)
  of_type zero elements.Short named = (answers.Int (pos 0), refl)
  of_type zero elements.Int named = (answers.Int (pos 0), refl)
  of_type zero (elements.Class name) named = (answers.Null, ap is_some (named_described name (no_array name named)))
  of_type (suc n) element named = (answers.Null, refl)

  of_result : (result : Option FieldType) → IsTrue (is_result result) → Fitting result
  of_result None named = (answers.Nothing, refl)
  of_result (Some t) named = of_type t.dimensions t.element named

-- The result of a method has the name of a class, where it is of one.
result_named : (desc : List ℕ) (read : Read MethodType) → method_type desc ≡ read → IsTrue (is_result (types_read read).result)
result_named desc (Ok m) is = (method_found desc m is).result
result_named desc (Err e) is = refl

-- ---- a thread

module _ (program : Program) (machine : Machine) (number : ℕ) (frames : List Frame) where
  -- The thread may make a step with some choice.
  abbrev MaySome : Doing → Type 0
  MaySome doing = (choice : Choice) × MayStep program machine number frames doing choice

  not_so : (b : Bool) → not b ≡ true → b ≡ false
  not_so false is = refl
  not_so true is = absurd cc

  so_not : (b : Bool) → b ≡ false → not b ≡ true
  so_not b is = rw is refl

  -- a call of a listed method
  takes_some : (method : ℕ) (receiver : Option Value) (arguments : List Value) (listed : Option ListedMethod) → slice_get program.listing.methods method ≡ listed
      → is_on_null receiver ≡ false → is_some listed ≡ true → MaySome (doings.InCall method receiver arguments)
  takes_some method receiver arguments None is apart some = absurd cc
  takes_some method receiver arguments (Some listed) is apart some =
      let fitting = of_result program machine.heap receiver arguments (types_of listed.id.desc).result (result_named listed.id.desc (method_type listed.id.desc) refl) in
      (choices.Answer fitting.0, (apart, rw is fitting.1))

  in_call : (method : ℕ) (receiver : Option Value) (arguments : List Value) (null : Bool) → is_on_null receiver ≡ null
      → (null || is_some (slice_get program.listing.methods method)) ≡ true → MaySome (doings.InCall method receiver arguments)
  in_call method receiver arguments true is can = (choices.Plain, is)
  in_call method receiver arguments false is can = takes_some method receiver arguments (slice_get program.listing.methods method) refl is can

  pub can_may : (doing : Doing) → can_step program machine number frames doing ≡ true → MaySome doing
  can_may doings.Running can = (choices.Plain, not_so (waits program machine number frames) can)
  can_may (doings.InCall method receiver arguments) can = in_call method receiver arguments (is_on_null receiver) refl can
  can_may doings.Ended can = absurd cc

  listed_some : (test : ListedMethod → Bool) (listed : Option ListedMethod) → option_map_or test listed false ≡ true → is_some listed ≡ true
  listed_some test None is = absurd cc
  listed_some test (Some listed) is = refl

  or_right : (a b : Bool) → b ≡ true → (a || b) ≡ true
  or_right true b is = refl
  or_right false b is = is

  pub may_can : (doing : Doing) (choice : Choice) → MayStep program machine number frames doing choice → can_step program machine number frames doing ≡ true
  may_can doings.Running choices.Plain may = so_not (waits program machine number frames) may
  may_can doings.Running (choices.Answer answer) may = absurd may
  may_can (doings.InCall method receiver arguments) choices.Plain may = rw may refl
  may_can (doings.InCall method receiver arguments) (choices.Answer answer) may =
      or_right (is_on_null receiver) (is_some (slice_get program.listing.methods method)) (listed_some _ (slice_get program.listing.methods method) may.1)
  may_can doings.Ended choice may = absurd may

-- ---- the threads

module _ (program : Program) (machine : Machine) where
  -- One of these threads can make a step, and has this place.
  record CanStep (number : ℕ) (threads : List Thread) : Type 0 where
    pub place : ℕ
    pub thread : Thread
    pub there : slice_get threads place ≡ Some thread
    pub can : can_step program machine (number + place) thread.frames thread.doing ≡ true

  found : (threads : List Thread) (number : ℕ) → some_can_step program machine number threads ≡ true → CanStep number threads
  found [] number some = absurd cc
  found (thread ∷ threads) number some = by (λ some. found threads (number + 1) some) (can_step program machine number thread.frames thread.doing) refl some where
    by : (some_can_step program machine (number + 1) threads ≡ true → CanStep (number + 1) threads)
        → (can : Bool) → can_step program machine number thread.frames thread.doing ≡ can → (can || some_can_step program machine (number + 1) threads) ≡ true → CanStep number (thread ∷ threads)
    by following true is some = record { place = zero; thread = thread; there = refl; can = subst (λ (n : ℕ). can_step program machine n thread.frames thread.doing ≡ true) (omega arith) is }
    by following false is some =
        let later = following some in
        record { place = suc later.place; thread = later.thread; there = later.there; can = subst (λ (n : ℕ). can_step program machine n later.thread.frames later.thread.doing ≡ true) (omega arith) later.can }

  or_left : (a b : Bool) → a ≡ true → (a || b) ≡ true
  or_left true b is = refl
  or_left false b is = absurd cc

  counted : (threads : List Thread) (number place : ℕ) (thread : Thread) → slice_get threads place ≡ Some thread
      → can_step program machine (number + place) thread.frames thread.doing ≡ true → some_can_step program machine number threads ≡ true
  counted [] number place thread there can = absurd cc
  counted (first ∷ threads) number zero thread there can =
      let same : first ≡ thread = cc in
      let here : can_step program machine number first.frames first.doing ≡ true =
      subst (λ (t : Thread). can_step program machine number t.frames t.doing ≡ true) (sym same) (subst (λ (n : ℕ). can_step program machine n thread.frames thread.doing ≡ true) (omega arith) can) in
      or_left _ _ here
  counted (first ∷ threads) number (suc place) thread there can =
      or_right program machine number [] (can_step program machine number first.frames first.doing) (some_can_step program machine (number + 1) threads)
      (counted threads (number + 1) place thread there (subst (λ (n : ℕ). can_step program machine n thread.frames thread.doing ≡ true) (omega arith) can))

-- a thread of a list of which all have ended
and_parts : (a b : Bool) → (a && b) ≡ true → (a ≡ true) × (b ≡ true)
and_parts true b is = (refl, is)
and_parts false b is = absurd cc

each_ended : (threads : List Thread) (place : ℕ) (thread : Thread) → have_ended threads ≡ true → slice_get threads place ≡ Some thread → is_ended thread.doing ≡ true
each_ended [] place thread ended there = absurd cc
each_ended (first ∷ threads) zero thread ended there =
    let same : first ≡ thread = cc in
    subst (λ (t : Thread). is_ended t.doing ≡ true) same (and_parts (is_ended first.doing) (have_ended threads) ended).0
each_ended (first ∷ threads) (suc place) thread ended there = each_ended threads place thread (and_parts (is_ended first.doing) (have_ended threads) ended).1 there

ended_cannot : (program : Program) (machine : Machine) (number : ℕ) (frames : List Frame) (doing : Doing) → is_ended doing ≡ true → can_step program machine number frames doing ≡ false
ended_cannot program machine number frames doings.Running is = absurd cc
ended_cannot program machine number frames (doings.InCall method receiver arguments) is = absurd cc
ended_cannot program machine number frames doings.Ended is = refl

-- ---- the machine

module _ (program : Program) (machine : Machine) where
  enabled : machine.stopped ≡ None → some_can_step program machine 0 machine.threads ≡ true → SomeIsEnabled program machine
  enabled runs some =
      let one = found program machine machine.threads 0 some in
      let can = subst (λ (n : ℕ). can_step program machine n one.thread.frames one.thread.doing ≡ true) (omega arith) one.can in
      let may = can_may program machine one.place one.thread.frames one.thread.doing can in
      (record { thread = one.place; choice = may.0 }, record { runs = runs; thread = one.thread; there = one.there; may = may.1 })

  goes_on : end_of program machine ≡ None → SomeIsEnabled program machine
  goes_on is = by machine.stopped refl is where
    last : (some : Bool) → some_can_step program machine 0 machine.threads ≡ some → machine.stopped ≡ None
        → cond some None (Some ends.Deadlock) ≡ None → SomeIsEnabled program machine
    last true is runs e = enabled runs is
    last false is runs e = absurd cc

    then : (ended : Bool) → machine.stopped ≡ None
        → cond ended (Some ends.Finished) (cond (some_can_step program machine 0 machine.threads) None (Some ends.Deadlock)) ≡ None → SomeIsEnabled program machine
    then true runs e = absurd cc
    then false runs e = last (some_can_step program machine 0 machine.threads) refl runs e

    by : (stopped : Option ℤ) → machine.stopped ≡ stopped
        → option_map_or (λ value. Some (ends.Stopped value)) stopped (end_of_threads program machine) ≡ None → SomeIsEnabled program machine
    by None is e = then (have_ended machine.threads) is e
    by (Some value) is e = absurd cc

  not_ended : (some : SomeIsEnabled program machine) → end_of program machine ≡ None
  not_ended (step, is) =
      let can = may_can program machine step.thread is.thread.frames is.thread.doing step.choice is.may in
      let some = counted program machine machine.threads 0 step.thread is.thread is.there (subst (λ (n : ℕ). can_step program machine n is.thread.frames is.thread.doing ≡ true) (omega arith) can) in
      by (have_ended machine.threads) refl can some where
        by : (ended : Bool) → have_ended machine.threads ≡ ended → can_step program machine step.thread is.thread.frames is.thread.doing ≡ true → some_can_step program machine 0 machine.threads ≡ true → end_of program machine ≡ None
        by true ended can some =
            let cannot = ended_cannot program machine step.thread is.thread.frames is.thread.doing (each_ended machine.threads step.thread is.thread ended is.there) in
            let wrong : false ≡ true = sym cannot ∙ can in absurd cc
        by false ended can some = rw (is.runs, ended, some) refl

pub ends_where_none_is_enabled : EndsWhereNoneIsEnabled
ends_where_none_is_enabled program machine = (goes_on program machine, not_ended program machine)
