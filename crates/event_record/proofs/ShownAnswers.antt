-- What the library gives can be written.
use Rattle.std.proofs.Common.{◌≡◌, ℕ, true, false, List, length, Option, Some, None, subst}
use Rattle.std.specs.Prelude.{◌||◌, not, slice_get, option_map, option_and_then}
use Rattle.std.specs.List.{AllByRecursion}
use Rattle.std.specs.Option.{option_map_or, option_to_list}
use Rattle.std.proofs.lemmas.Bool.{and_parts}
use Rattle.api_listing.specs.declared.descriptor.FieldType.{FieldType}
use Rattle.api_listing.specs.declared.events.ApiAnswer.{ApiAnswer}
use Rattle.api_listing.specs.declared.events.ApiAnswer.TheVariants as answers
use Rattle.api_listing.specs.declared.events.Event.TheVariants as events
use Rattle.bytecode_model.specs.declared.program.Program.{Program}
use Rattle.bytecode_model.specs.Classes.{is_below, is_interface}
use Rattle.bytecode_model.specs.SearchOrder.{Name}
use Rattle.guest_heap.specs.declared.object.Object.{Object}
use Rattle.guest_heap.specs.declared.object.Object.TheVariants as objects
use Rattle.guest_heap.specs.declared.thread.Thread.{Thread}
use Rattle.guest_heap.specs.declared.value.Value.{Value}
use Rattle.guest_heap.specs.declared.value.Value.TheVariants as values
use Rattle.guest_model.specs.Calls.{types_of}
use Rattle.guest_model.specs.Throwing.{bare_object}
use Rattle.guest_model.proofs.Options.{map_of, if_some, if_holds, if_then, all_get, the_one}
use Rattle.guest_model.specs.Answering.{answer_fits, answered, answered_well, is_listed_class, of_class, returned_by}
use Rattle.guest_model.specs.Changes.{World, throws_new, with_object}
use Rattle.guest_model.specs.Seen.{value_shown}
use Rattle.api_listing.specs.declared.types.ListedClass.{ListedClass}
use Rattle.api_listing.specs.BuiltIn.{built_in_classes, throwable}
use Rattle.api_listing.specs.Listing.{is_known}
use Rattle.api_listing.specs.Nearest.{class_named}
use Rattle.event_record.specs.RunLines.{AnswersBytes}
use Rattle.event_record.proofs.ClassNames.{ClassesNamed, found_known, holds_at, known_named}
use Rattle.event_record.proofs.Shown.{AreShown, FrameShown, Good, GoodIf, HeapNamed, IsShown, LiteralsAreBytes, WorldShown, more_shown, returned_good, shown_is_written, throws_new_good}
use Rattle.event_record.proofs.WrittenLines.{IsEventWritten, IsNamed}

-- a class that an answer may bring is one of the listing
pub listed_known : (program : Program) (class : List ℕ) → is_listed_class program class ≡ true → is_known program.listing.classes class ≡ true
listed_known program class fit =
    let l = and_parts (option_map_or (λ (c : ListedClass). not c.is_interface) (class_named program.listing.classes class) false)
    (not (is_known built_in_classes class)) fit in
    let c = holds_at (λ (c : ListedClass). not c.is_interface) (class_named program.listing.classes class) l.0 in
    found_known program.listing.classes class c.0 c.1

module _ (program : Program) (literals : LiteralsAreBytes program) (classes : ClassesNamed program.listing.classes) (world : World)
    (words : WorldShown program world) (number : ℕ) (thread : Thread) (method : ℕ) (all : AllByRecursion (FrameShown program) thread.frames) where
  pub null_good : (class : Name) → IsNamed class
      → GoodIf program (Some (throws_new program world number thread thread.frames class (Some (events.Except number method))))
  null_good class named = if_some (Good program) _ (throws_new_good program world number thread thread.frames class _ named words all (tt, tt))

  result_written : (heap : List Object) → HeapNamed heap → (o : Option Value) → AreShown program (option_to_list o)
      → IsEventWritten (events.Return number method (option_map (value_shown program heap) o))
  result_written heap named None h = tt
  result_written heap named (Some v) h = shown_is_written program literals heap named v h.0

  gave_good : (gave : World × Option Value) → WorldShown program gave.0 → AreShown program (option_to_list gave.1)
      → GoodIf program (returned_by program number thread method gave)
  gave_good gave shared word =
      returned_good program gave.0 thread thread.frames gave.1 _ shared all word (result_written gave.0.heap shared.named gave.1 word, tt)

  -- a value that the call passed
  passed_good : (o : Option Value) → ((v : Value) → o ≡ Some v → IsShown program v)
      → GoodIf program (option_and_then (returned_by program number thread method) (option_map (λ (v : Value). (world, Some v)) o))
  passed_good o each =
      if_then (Good program) _ (option_map (λ (v : Value). (world, Some v)) o)
      (λ gave e. let m = map_of (λ (v : Value). (world, Some v)) o gave e in
      subst (λ (g : World × Option Value). GoodIf program (returned_by program number thread method g)) m.2
      (gave_good (world, Some m.0) words (each m.0 m.1, tt)))

  module _ (receiver : Option Value) (arguments : List Value) (p : AreShown program (option_to_list receiver)) (q : AreShown program arguments) where
    well_good : (result : Option FieldType) (answer : ApiAnswer) → AnswersBytes answer
        → answer_fits program world.heap result receiver arguments answer ≡ true
        → GoodIf program (answered_well program world number thread method receiver arguments answer)
    well_good result answers.Nothing brings fit = gave_good (world, None) words tt
    well_good result (answers.Int n) brings fit = gave_good (world, Some (values.Int n)) words (tt, tt)
    well_good result answers.Null brings fit = gave_good (world, Some values.Null) words (tt, tt)
    well_good result (answers.Text text) brings fit =
        gave_good (with_object world (objects.Text text), Some (values.Ref (length world.heap)))
        (more_shown program world (objects.Text text) tt brings words) (tt, tt)
    well_good result (answers.Fresh class) brings fit =
        let f = and_parts (of_class result (λ name. is_interface program name || is_below program class name)) (is_listed_class program class) fit in
        gave_good (with_object world (bare_object class), Some (values.Ref (length world.heap)))
        (more_shown program world (bare_object class) (tt, tt) (known_named program.listing.classes classes class (listed_known program class f.1)) words) (tt, tt)
    well_good result (answers.Arg i) brings fit = passed_good (slice_get arguments i) (λ v e. all_get (IsShown program) arguments i v q e)
    well_good result answers.Receiver brings fit = passed_good receiver (λ v e. the_one (IsShown program) receiver v p e)
    well_good result (answers.Throws class) brings fit =
        let a = and_parts (is_known program.listing.classes class) (is_below program class throwable) fit in
        null_good class (known_named program.listing.classes classes class a.0)

  pub answered_good : (receiver : Option Value) (arguments : List Value) → AreShown program (option_to_list receiver) → AreShown program arguments
      → (answer : ApiAnswer) → AnswersBytes answer → GoodIf program (answered program world number thread method receiver arguments answer)
  answered_good receiver arguments p q answer brings =
      if_then (Good program) _ (slice_get program.listing.methods method)
      (λ listed named. if_holds (Good program) (answer_fits program world.heap (types_of listed.id.desc).result receiver arguments answer) _
      (λ fit. well_good receiver arguments p q (types_of listed.id.desc).result answer brings fit))
