-- What is asked of a machine is what the rules say.
use Rattle.std.proofs.Common.{◌≡◌, ℕ, ◌&&◌, Bool, true, false, not, cond, List, Option, Some, None, refl, sym, ap}
use Rattle.std.specs.Prelude.{if◌then◌else◌, is_some, option_and_then, slice_get}
use Rattle.std.specs.Option.{option_map_or}
use Rattle.api_listing.specs.declared.events.ApiAnswer.{ApiAnswer}
use Rattle.api_listing.specs.declared.types.ListedMethod.{ListedMethod}
use Rattle.bytecode_model.specs.declared.program.Program.{Program}
use Rattle.guest_heap.specs.declared.frame.Frame.{Frame}
use Rattle.guest_heap.specs.declared.thread.Doing.{Doing}
use Rattle.guest_heap.specs.declared.thread.Doing.TheVariants as doings
use Rattle.guest_heap.specs.declared.thread.Thread.{Thread}
use Rattle.guest_heap.specs.declared.value.Value.{Value}
use Rattle.guest_model.specs.declared.machine.Choice.{Choice}
use Rattle.guest_model.specs.declared.machine.Choice.TheVariants as choices
use Rattle.guest_model.specs.declared.machine.Machine.{Machine}
use Rattle.guest_model.specs.Answering.{answer_fits, answered, answered_well, method_takes}
use Rattle.guest_model.specs.Calls.{types_of}
use Rattle.guest_model.specs.Changes.{Change, World}
use Rattle.guest_model.specs.Enabled.{IsEnabled, MayStep}
use Rattle.guest_model.specs.Stepping.{is_on_null}
use Rattle.guest_model.specs.Asking.{EnabledAreSteps, FittingAreSteps, doing_takes, is_enabled, takes_answer}
use Rattle.guest_model.specs.Ending.{can_step}
use Rattle.guest_model.proofs.Ends.{can_may, may_can}

both : (a b : Bool) → (a && b) ≡ true → (a ≡ true) × (b ≡ true)
both true b is = (refl, is)
both false b is = absurd cc

none_is : {X : Type 0} (o : Option X) → not (is_some o) ≡ true → o ≡ None
none_is None is = refl
none_is (Some x) is = absurd cc

is_false : (b : Bool) → not b ≡ true → b ≡ false
is_false false is = refl
is_false true is = absurd cc

-- the thread that is there, and passes the test
passing : (test : Thread → Bool) (o : Option Thread) → option_map_or test o false ≡ true → (t : Thread) × (o ≡ Some t) × (test t ≡ true)
passing test None is = absurd cc
passing test (Some t) is = (t, refl, is)

module _ (program : Program) (machine : Machine) (number : ℕ) where
  enabled_may : is_enabled program machine number ≡ true → (choice : Choice) × IsEnabled program machine (record { thread = number; choice = choice })
  enabled_may is =
      let parts = both (not (is_some machine.stopped)) _ is in
      let one = passing (λ (t : Thread). can_step program machine number t.frames t.doing) (slice_get machine.threads number) parts.1 in
      let may = can_may program machine number one.0.frames one.0.doing one.2 in
      (may.0, record { runs = none_is machine.stopped parts.0; thread = one.0; there = one.1; may = may.1 })

  may_enabled : (choice : Choice) → IsEnabled program machine (record { thread = number; choice = choice }) → is_enabled program machine number ≡ true
  may_enabled choice is = rw (is.runs, is.there) (may_can program machine number is.thread.frames is.thread.doing choice is.may)

module _ (program : Program) (machine : Machine) (number : ℕ) (answer : ApiAnswer) where
  takes_may : (frames : List Frame) (doing : Doing) → doing_takes program machine.heap doing answer ≡ true → MayStep program machine number frames doing (choices.Answer answer)
  takes_may frames doings.Running is = absurd cc
  takes_may frames (doings.InCall method receiver arguments) is =
      let parts = both (not (is_on_null receiver)) _ is in
      (is_false (is_on_null receiver) parts.0, parts.1)
  takes_may frames doings.Ended is = absurd cc

  may_take : (frames : List Frame) (doing : Doing) → MayStep program machine number frames doing (choices.Answer answer) → doing_takes program machine.heap doing answer ≡ true
  may_take frames doings.Running may = absurd may
  may_take frames (doings.InCall method receiver arguments) may = rw may.0 may.1
  may_take frames doings.Ended may = absurd may

  fits_enabled : takes_answer program machine number answer ≡ true → IsEnabled program machine (record { thread = number; choice = choices.Answer answer })
  fits_enabled is =
      let parts = both (not (is_some machine.stopped)) _ is in
      let one = passing (λ (t : Thread). doing_takes program machine.heap t.doing answer) (slice_get machine.threads number) parts.1 in
      record { runs = none_is machine.stopped parts.0; thread = one.0; there = one.1; may = takes_may one.0.frames one.0.doing one.2 }

  enabled_fits : IsEnabled program machine (record { thread = number; choice = choices.Answer answer }) → takes_answer program machine number answer ≡ true
  enabled_fits is = rw (is.runs, is.there) (may_take is.thread.frames is.thread.doing is.may)

pub enabled_are_steps : EnabledAreSteps
enabled_are_steps program machine number =
    (enabled_may program machine number, λ (some : (choice : Choice) × IsEnabled program machine (record { thread = number; choice = choice })). may_enabled program machine number some.0 some.1)

pub fitting_are_steps : FittingAreSteps
fitting_are_steps program machine number answer = (fits_enabled program machine number answer, enabled_fits program machine number answer)

-- ---- taking one

-- the answer is taken where it fits
answered_so : (o : Option ListedMethod) (fits : ListedMethod → Bool) (change : Option Change) (b : Bool) → option_map_or fits o false ≡ b
    → option_and_then (λ (listed : ListedMethod). if fits listed then change else None) o ≡ (if b then change else None)
answered_so None fits change b is = ap (λ (c : Bool). cond c change None) is
answered_so (Some listed) fits change b is = ap (λ (c : Bool). cond c change None) is

pub answered_is : (program : Program) (world : World) (number : ℕ) (thread : Thread) (method : ℕ) (receiver : Option Value) (arguments : List Value) (answer : ApiAnswer) (b : Bool)
    → b ≡ method_takes program world.heap method receiver arguments answer
    → answered program world number thread method receiver arguments answer ≡ (if b then answered_well program world number thread method receiver arguments answer else None)
answered_is program world number thread method receiver arguments answer b is =
    answered_so (slice_get program.listing.methods method) (λ (listed : ListedMethod). answer_fits program world.heap (types_of listed.id.desc).result receiver arguments answer)
    (answered_well program world number thread method receiver arguments answer) b (sym is)
