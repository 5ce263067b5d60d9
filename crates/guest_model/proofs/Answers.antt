-- What the library gives is in the range of its type.
use Rattle.std.proofs.Common.{◌≡◌, ℕ, ℤ, ◌^◌, ◌<◌, Bool, true, false, List, ◌++◌, length, replicate, Option, Some, None, refl, subst, zero, suc, arith}
use Rattle.std.specs.Prelude.{◌==◌, ◌&&◌, ◌||◌, not, nat_le, is_some, IsSome, FitsSigned, slice_get, option_map, option_and_then}
use Rattle.std.specs.Int.{w32}
use Rattle.std.specs.List.{AllByRecursion}
use Rattle.std.specs.Option.{option_map_or, option_to_list}
use Rattle.std.proofs.lemmas.Bool.{and_parts, eqb-true, leb-true}
use Rattle.api_listing.specs.declared.descriptor.Element.{Element}
use Rattle.api_listing.specs.declared.descriptor.Element.TheVariants as elements
use Rattle.api_listing.specs.declared.descriptor.FieldType.{FieldType}
use Rattle.api_listing.specs.declared.events.ApiAnswer.{ApiAnswer}
use Rattle.api_listing.specs.declared.events.ApiAnswer.TheVariants as answers
use Rattle.api_listing.specs.declared.events.ApiValue.{ApiValue}
use Rattle.api_listing.specs.declared.events.ApiValue.TheVariants as api
use Rattle.api_listing.specs.declared.events.Event.TheVariants as events
use Rattle.api_listing.specs.declared.types.ListedMethod.{ListedMethod}
use Rattle.api_listing.specs.Descriptor.{element_encoded}
use Rattle.bytecode_model.specs.declared.program.Program.{Program}
use Rattle.bytecode_model.specs.Assigning.{reference_of}
use Rattle.bytecode_model.specs.Classes.{is_below, is_interface}
use Rattle.bytecode_model.specs.SearchOrder.{Name}
use Rattle.guest_heap.specs.declared.object.Object.TheVariants as objects
use Rattle.guest_heap.specs.declared.thread.Thread.{Thread}
use Rattle.guest_heap.specs.declared.value.Value.{Value}
use Rattle.guest_heap.specs.declared.value.Value.TheVariants as values
use Rattle.guest_model.specs.Answers.{fits_number}
use Rattle.guest_model.specs.Calls.{types_of}
use Rattle.guest_model.specs.Throwing.{bare_object}
use Rattle.guest_model.proofs.Numbers.{answer_is_word}
use Rattle.guest_model.proofs.Options.{map_of, if_some, if_holds, if_then, some_and, all_get, the_one}
use Rattle.guest_model.specs.Answering.{
  answer_fits,
  answered,
  answered_well,
  is_listed_class,
  is_no_object,
  is_of,
  of_class,
  result_class,
  returned_by,
  takes_text,
}
use Rattle.guest_model.specs.Changes.{World, throws_new, with_object}
use Rattle.guest_model.specs.Numbers.{IsReturned, is_primitive}
use Rattle.guest_model.specs.Seen.{value_shown}
use Rattle.guest_model.proofs.There.{holds_there}
use Rattle.guest_model.proofs.Words.{AreWords, FrameWords, Good, GoodIf, IsWord, WorldWords, object_words, returned_good, throws_new_good}

-- ---- which answers a type has

-- a type of numbers is that of no object
no_object : (n : ℕ) (e : Element) → ((n == 0) && is_primitive e) ≡ true → reference_of (replicate n 91 ++ element_encoded e) ≡ None
no_object zero elements.Boolean h = refl
no_object zero elements.Byte h = refl
no_object zero elements.Char h = refl
no_object zero elements.Short h = refl
no_object zero elements.Int h = refl
no_object zero (elements.Class name) h = absurd cc
no_object (suc n) e h =
    let a = and_parts (suc n == 0) (is_primitive e) h in
    let no : suc n ≡ 0 = eqb-true (suc n) 0 a.0 in
    absurd (omega (arith, no))

nothing_returned : (result : Option FieldType) → not (is_some result) ≡ true → IsReturned result None
nothing_returned None h = refl
nothing_returned (Some t) h = absurd cc

number_returned : (result : Option FieldType) (n : ℤ) → fits_number result n ≡ true → IsReturned result (Some (api.Int n))
number_returned None n h = absurd cc
number_returned (Some t) n h = λ numbers. (n, refl, h)

-- a number that is the answer is of 32 bits
number_word : (result : Option FieldType) (n : ℤ) → fits_number result n ≡ true → FitsSigned w32 n
number_word None n h = absurd cc
number_word (Some t) n h = answer_is_word t n h

object_returned : (result : Option FieldType) (value : ApiValue) → IsSome (result_class result) → IsReturned result (Some value)
object_returned None value h = absurd cc
object_returned (Some t) value h = λ numbers. let none = no_object t.dimensions t.element numbers in absurd cc

of_object : (result : Option FieldType) (test : Name → Bool) (value : ApiValue) → of_class result test ≡ true → IsReturned result (Some value)
of_object result test value h = object_returned result value (holds_there test (result_class result) h)

holds_at : {A : Type 0} (p : A → Bool) (o : Option A) (x : A) → option_map_or p o false ≡ true → o ≡ Some x → p x ≡ true
holds_at p None x h e = absurd cc
holds_at p (Some y) x h e = let same : y ≡ x = cc in subst (λ (z : _). p z ≡ true) same h

-- ---- what they give

module _ (program : Program) (world : World) (words : WorldWords world) (number : ℕ) (thread : Thread) (method : ℕ)
    (all : AllByRecursion FrameWords thread.frames) where
  pub null_good : (class : Name) → GoodIf program (Some (throws_new program world number thread thread.frames class (Some (events.Except number method))))
  null_good class = if_some (Good program) _ (throws_new_good program world number thread thread.frames class _ words all (tt, tt))

  module _ (listed : ListedMethod) (named : slice_get program.listing.methods method ≡ Some listed) where
    abbrev Returns : Option ApiValue → Type 0
    Returns value = IsReturned (types_of listed.id.desc).result value

    gave_good : (gave : World × Option Value) → WorldWords gave.0 → AreWords (option_to_list gave.1)
        → Returns (option_map (value_shown program gave.0.heap) gave.1) → GoodIf program (returned_by program number thread method gave)
    gave_good gave shared word is =
        returned_good program gave.0 thread thread.frames gave.1 _ shared all word (
          some_and (λ (l : ListedMethod). IsReturned (types_of l.id.desc).result (option_map (value_shown program gave.0.heap) gave.1))
              (slice_get program.listing.methods method) listed named is,
          tt,
        )

    -- a value that the call passed
    passed_good : (o : Option Value) → ((v : Value) → o ≡ Some v → IsWord v × Returns (Some (value_shown program world.heap v)))
        → GoodIf program (option_and_then (returned_by program number thread method) (option_map (λ (v : Value). (world, Some v)) o))
    passed_good o each =
        if_then (Good program) _ (option_map (λ (v : Value). (world, Some v)) o)
        (λ gave e. let m = map_of (λ (v : Value). (world, Some v)) o gave e in
        let v = each m.0 m.1 in
        subst (λ (g : World × Option Value). GoodIf program (returned_by program number thread method g)) m.2
        (gave_good (world, Some m.0) words (v.0, tt) v.1))

    module _ (receiver : Option Value) (arguments : List Value) (p : AreWords (option_to_list receiver)) (q : AreWords arguments) where
      well_good : (answer : ApiAnswer)
          → answer_fits program world.heap (types_of listed.id.desc).result receiver arguments answer ≡ true
          → GoodIf program (answered_well program world number thread method receiver arguments answer)
      well_good answers.Nothing fit = gave_good (world, None) words tt (nothing_returned _ fit)
      well_good (answers.Int n) fit =
          gave_good (world, Some (values.Int n)) words (number_word (types_of listed.id.desc).result n fit, tt) (number_returned _ n fit)
      well_good answers.Null fit = gave_good (world, Some values.Null) words (tt, tt) (object_returned _ api.Null fit)
      well_good (answers.Text text) fit =
          let f = and_parts (of_class (types_of listed.id.desc).result (takes_text program)) (nat_le (length text) 65535) fit in
          let short : length text < 2 ^ 16 = omega (arith, leb-true (length text) 65535 f.1) in
          gave_good (with_object world (objects.Text text), Some (values.Ref (length world.heap)))
          (object_words world (objects.Text text) short words) (tt, tt) (of_object _ (takes_text program) _ f.0)
      well_good (answers.Fresh class) fit =
          let test : Name → Bool = λ name. is_interface program name || is_below program class name in
          let f = and_parts (of_class (types_of listed.id.desc).result test) (is_listed_class program class) fit in
          gave_good (with_object world (bare_object class), Some (values.Ref (length world.heap)))
          (object_words world (bare_object class) (tt, tt) words) (tt, tt) (of_object _ test _ f.0)
      well_good (answers.Arg i) fit =
          passed_good (slice_get arguments i)
          (λ v e. (
            all_get IsWord arguments i v q e,
            of_object _ (λ name. is_no_object v || is_of program world.heap v name) _ (holds_at _ (slice_get arguments i) v fit e),
          ))
      well_good answers.Receiver fit =
          passed_good receiver
          (λ v e. (the_one IsWord receiver v p e, of_object _ (is_of program world.heap v) _ (holds_at _ receiver v fit e)))
      well_good (answers.Throws class) fit = null_good class

  pub answered_good : (receiver : Option Value) (arguments : List Value) → AreWords (option_to_list receiver) → AreWords arguments
      → (answer : ApiAnswer) → GoodIf program (answered program world number thread method receiver arguments answer)
  answered_good receiver arguments p q answer =
      if_then (Good program) _ (slice_get program.listing.methods method)
      (λ listed named. if_holds (Good program) (answer_fits program world.heap (types_of listed.id.desc).result receiver arguments answer) _
      (λ fit. well_good listed named receiver arguments p q answer fit))
