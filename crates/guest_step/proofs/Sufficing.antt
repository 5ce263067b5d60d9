-- The memory that is taken before the library is asked suffices for each answer that fits.
use Rattle.std.proofs.Common.{◌≡◌, ◌≤◌, ℕ, Bool, true, false, ◌||◌, List, [], ◌∷◌, ◌++◌, length, Option, Some, None, refl, ap, arith}
use Rattle.std.specs.Prelude.{IfSome, bytes_eq, max, option_map, slice_get, vec_capacity, if◌then◌else◌}
use Rattle.std.specs.Option.{option_map_or}
use Rattle.std.proofs.lemmas.Slice.Eq.{bytes_eq-Decides}
use Rattle.api_listing.specs.declared.descriptor.FieldType.{FieldType}
use Rattle.api_listing.specs.declared.events.ApiAnswer.{ApiAnswer}
use Rattle.api_listing.specs.declared.events.ApiAnswer.TheVariants as answers
use Rattle.api_listing.specs.declared.types.ListedClass.{ListedClass}
use Rattle.api_listing.specs.declared.types.ListedMethod.{ListedMethod}
use Rattle.api_listing.specs.Listing.{is_known}
use Rattle.api_listing.specs.Nearest.{class_named}
use Rattle.bytecode_model.specs.declared.program.Program.{Program}
use Rattle.guest_heap.specs.declared.object.Object.{Object}
use Rattle.guest_heap.specs.declared.object.Object.TheVariants as objects
use Rattle.guest_heap.specs.declared.thread.Doing.{Doing}
use Rattle.guest_heap.specs.declared.thread.Doing.TheVariants as doings
use Rattle.guest_heap.specs.declared.value.Value.{Value}
use Rattle.guest_heap.specs.declared.value.Value.TheVariants as values
use Rattle.guest_model.specs.Answering.{answer_fits}
use Rattle.bytecode_model.specs.Classes.{is_below}
use Rattle.guest_model.specs.Calls.{types_of}
use Rattle.guest_model.specs.Kinds.{string}
use Rattle.guest_model.specs.Changes.{World}
use Rattle.guest_model.specs.Permitted.{AnswersArePermitted, IsAnswer, fresh, text, throws}
use Rattle.guest_model.specs.Seen.{bytes_shown, object_bytes}
use Rattle.guest_model.specs.Throwing.{bare_object}
use Rattle.guest_step.specs.declared.rooms.Rooms.{Rooms}
use Rattle.guest_step.specs.Rooms.{EachShowsAtMost, RoomsSuffice, ShowsAtMost, bytes_given, bytes_made, longest_name}

-- ---- names

named_below : (classes : List ListedClass) (class : List ℕ) → is_known classes class ≡ true → length class ≤ longest_name classes
named_below [] class is = absurd cc
named_below (c ∷ classes) class is = by (named_below classes class) (bytes_eq c.name class) refl is where
  by : (is_known classes class ≡ true → length class ≤ longest_name classes) → (b : Bool) → bytes_eq c.name class ≡ b
      → (b || is_known classes class) ≡ true → length class ≤ max (length c.name) (longest_name classes)
  by later true same is =
      let e : c.name ≡ class = (bytes_eq-Decides c.name class).0 same in
      let lengths = ap length e in omega arith
  by later false apart is = let low = later is in omega arith

known_of_named : (classes : List ListedClass) (class : List ℕ) (entry : ListedClass) → class_named classes class ≡ Some entry → is_known classes class ≡ true
known_of_named [] class entry is = absurd cc
known_of_named (c ∷ classes) class entry is = by (known_of_named classes class entry) (bytes_eq c.name class) is where
  by : (class_named classes class ≡ Some entry → is_known classes class ≡ true) → (b : Bool) → (if b then Some c else class_named classes class) ≡ Some entry → (b || is_known classes class) ≡ true
  by later true is = refl
  by later false is = later is

-- ---- what is shown of a new object

last_there : (heap : List Object) (object : Object) → slice_get (heap ++ object ∷ []) (length heap) ≡ Some object
last_there [] object = refl
last_there (first ∷ heap) object = last_there heap object

shown_new : (program : Program) (heap : List Object) (object : Object) → bytes_shown program (heap ++ object ∷ []) (values.Ref (length heap)) ≡ object_bytes program object
shown_new program heap object = rw (last_there heap object) refl

-- ---- what suffices

module _ (program : Program) (world : World) (receiver : Option Value) (arguments : List Value) (long most : ℕ)
    (texts : 65535 ≤ long) (names : longest_name program.listing.classes ≤ long) (least : long ≤ most)
    (of_receiver : IfSome receiver (λ (v : Value). length (bytes_shown program world.heap v) ≤ most))
    (of_each : EachShowsAtMost program world.heap arguments most) where
  plain_class : (class : List ℕ) → length class ≤ long → length (object_bytes program (bare_object class)) ≤ most
  plain_class class fits = by (is_below program class string) where
    by : (b : Bool) → length (if b then [] else class) ≤ most
    by true = omega arith
    by false = omega arith

  of_value : (o : Option Value) → IfSome o (λ (v : Value). length (bytes_shown program world.heap v) ≤ most)
      → length (option_map_or (λ (gave : World × Option Value). option_map_or (bytes_shown program gave.0.heap) gave.1 []) (option_map (λ (v : Value). (world, Some v)) o) []) ≤ most
  of_value None fits = omega arith
  of_value (Some v) fits = fits

  at_place : (i : ℕ) → IfSome (slice_get arguments i) (λ (v : Value). length (bytes_shown program world.heap v) ≤ most)
  at_place i = by (slice_get arguments i) refl where
    by : (o : Option Value) → slice_get arguments i ≡ o → IfSome o (λ (v : Value). length (bytes_shown program world.heap v) ≤ most)
    by None is = tt
    by (Some v) is = of_each i v is

  suits : (result : Option FieldType) (answer : ApiAnswer) → IsAnswer program world.heap result receiver arguments answer
      → (length (bytes_made answer) ≤ long) × (length (bytes_given program world receiver arguments answer) ≤ most)
  suits result answers.Nothing is = (omega arith, omega arith)
  suits result (answers.Int n) is = (omega arith, omega arith)
  suits result answers.Null is = (omega arith, omega arith)
  suits result (answers.Text bytes) is = of_text is where
    of_text : IsAnswer program world.heap result receiver arguments (answers.Text bytes)
        → (length bytes ≤ long) × (length (bytes_given program world receiver arguments (answers.Text bytes)) ≤ most)
    of_text (text bytes name gives takes few) = (omega arith, rw (shown_new program world.heap (objects.Text bytes)) (omega arith))
  suits result (answers.Fresh class) is = of_fresh is where
    of_fresh : IsAnswer program world.heap result receiver arguments (answers.Fresh class)
        → (length class ≤ long) × (length (bytes_given program world receiver arguments (answers.Fresh class)) ≤ most)
    of_fresh (fresh class name gives below listed) =
        let low = named_below program.listing.classes class (known_of_named program.listing.classes class listed.entry listed.there) in
        let fits : length class ≤ long = omega arith in
        (fits, rw (shown_new program world.heap (bare_object class)) (plain_class class fits))
  suits result (answers.Arg i) is = (omega arith, of_value (slice_get arguments i) (at_place i))
  suits result answers.Receiver is = (omega arith, of_value receiver of_receiver)
  suits result (answers.Throws class) is = of_throws is where
    of_throws : IsAnswer program world.heap result receiver arguments (answers.Throws class)
        → (length class ≤ long) × (length (bytes_given program world receiver arguments (answers.Throws class)) ≤ most)
    of_throws (throws class known below) = (let low = named_below program.listing.classes class known in omega arith, omega arith)

-- the method that is called is listed, and this is what it gives
listed_fits : (test : ListedMethod → Bool) (o : Option ListedMethod) → option_map_or test o false ≡ true → (m : ListedMethod) × (test m ≡ true)
listed_fits test None is = absurd cc
listed_fits test (Some m) is = (m, is)

pub suffices : AnswersArePermitted → (program : Program) (world : World) (doing : Doing) (rooms : Rooms)
    → 65535 ≤ vec_capacity rooms.object.bytes → longest_name program.listing.classes ≤ vec_capacity rooms.object.bytes
    → (most : ℕ) → 65535 ≤ most → longest_name program.listing.classes ≤ most → ShowsAtMost program world.heap doing most → most ≤ vec_capacity rooms.event.bytes
    → RoomsSuffice program world doing rooms
suffices law program world doings.Running rooms texts names most texts_shown names_shown shows enough = tt
suffices law program world (doings.InCall method receiver arguments) rooms texts names most texts_shown names_shown shows enough = λ answer takes.
    let listed = listed_fits (λ (m : ListedMethod). answer_fits program world.heap (types_of m.id.desc).result receiver arguments answer) (slice_get program.listing.methods method) takes in
    let is = (law program world.heap (types_of listed.0.id.desc).result receiver arguments answer).0 listed.1 in
    let two = suits program world receiver arguments (max 65535 (longest_name program.listing.classes)) most (omega arith) (omega arith) (omega arith) shows.0 shows.1 (types_of listed.0.id.desc).result answer is in
    record { object = omega arith; event = omega arith }
suffices law program world doings.Ended rooms texts names most texts_shown names_shown shows enough = tt
