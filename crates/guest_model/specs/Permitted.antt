-- What an answer of the library may be, row by row: by these rules alone, apart from the test that the machine makes.
-- (docs/MACHINE.md)
use Rattle.std.specs.Prelude.{◌≡◌, ◌⊎◌, ◌↔◌, ◌≤◌, ◌≤ℤ◌, ◌-ℤ◌, ℕ, ℤ, pos, true, false, List, length, slice_get, Option, Some, None}
use Rattle.api_listing.specs.declared.descriptor.Element.{Element}
use Rattle.api_listing.specs.declared.descriptor.Element.TheVariants as elements
use Rattle.api_listing.specs.declared.descriptor.FieldType.{FieldType}
use Rattle.api_listing.specs.declared.events.ApiAnswer.{ApiAnswer}
use Rattle.api_listing.specs.declared.events.ApiAnswer.TheVariants as answers
use Rattle.api_listing.specs.declared.types.ListedClass.{ListedClass}
use Rattle.api_listing.specs.BuiltIn.{built_in_classes, object, throwable}
use Rattle.api_listing.specs.Descriptor.{type_encoded}
use Rattle.api_listing.specs.Listing.{is_known}
use Rattle.api_listing.specs.Nearest.{class_named}
use Rattle.bytecode_model.specs.declared.program.Program.{Program}
use Rattle.bytecode_model.specs.Assigning.{reference_of}
use Rattle.bytecode_model.specs.Classes.{is_below, is_interface}
use Rattle.bytecode_model.specs.SearchOrder.{Name}
use Rattle.guest_heap.specs.declared.object.Object.{Object}
use Rattle.guest_heap.specs.declared.value.Value.{Value}
use Rattle.guest_heap.specs.declared.value.Value.TheVariants as values
use Rattle.guest_model.specs.Answering.{answer_fits}
use Rattle.guest_model.specs.Kinds.{is_instance, string}

-- ---- results

-- The number is one of the type.
pub data IsNumberOf : Element → ℤ → Type 0 where
  boolean : (n : ℤ) → pos 0 ≤ℤ n → n ≤ℤ pos 1 → IsNumberOf elements.Boolean n
  byte : (n : ℤ) → (pos 0 -ℤ pos 128) ≤ℤ n → n ≤ℤ pos 127 → IsNumberOf elements.Byte n
  char : (n : ℤ) → pos 0 ≤ℤ n → n ≤ℤ pos 65535 → IsNumberOf elements.Char n
  short : (n : ℤ) → (pos 0 -ℤ pos 32768) ≤ℤ n → n ≤ℤ pos 32767 → IsNumberOf elements.Short n
  int : (n : ℤ) → (pos 0 -ℤ pos 2147483648) ≤ℤ n → n ≤ℤ pos 2147483647 → IsNumberOf elements.Int n

-- The result is of numbers.
pub record GivesNumber (result : Option FieldType) (element : Element) : Type 0 where
  pub type : FieldType
  pub is : result ≡ Some type
  pub alone : type.dimensions ≡ 0
  pub of : type.element ≡ element

-- The result is of the class, or the array, of this name.
pub record GivesObject (result : Option FieldType) (name : Name) : Type 0 where
  pub type : FieldType
  pub is : result ≡ Some type
  pub named : reference_of (type_encoded type) ≡ Some name

-- ---- objects

-- The value is an object: no number, and not null.
pub data IsReference : Value → Type 0 where
  at : (place : ℕ) → IsReference (values.Ref place)
  class : (index : ℕ) → IsReference (values.Class index)
  literal : (index : ℕ) → IsReference (values.Lit index)

-- The value is an object of the class or array; each object is of each interface.
pub record IsObjectOf (program : Program) (heap : List Object) (name : Name) (value : Value) : Type 0 where
  pub reference : IsReference value
  pub fits : (is_interface program name ≡ true) ⊎ (is_instance program heap value name ≡ true)

-- Each text is of these classes.
pub data TakesTexts (program : Program) (name : Name) : Type 0 where
  string_itself : name ≡ string → TakesTexts program name
  any_object : name ≡ object → TakesTexts program name
  an_interface : is_interface program name ≡ true → TakesTexts program name

-- The class is one of the listing, none of the built-in ones and no interface.
pub record IsListedClass (program : Program) (class : Name) : Type 0 where
  pub entry : ListedClass
  pub there : class_named program.listing.classes class ≡ Some entry
  pub made : entry.is_interface ≡ false
  pub own : is_known built_in_classes class ≡ false

-- ---- answers

-- The answer to a call of a method with this result, of this receiver and these arguments.
pub data IsAnswer (program : Program) (heap : List Object) (result : Option FieldType) (receiver : Option Value) (arguments : List Value) : ApiAnswer → Type 0 where
  nothing : result ≡ None → IsAnswer program heap result receiver arguments answers.Nothing
  number : (n : ℤ) (element : Element) → GivesNumber result element → IsNumberOf element n
      → IsAnswer program heap result receiver arguments (answers.Int n)
  null : (name : Name) → GivesObject result name → IsAnswer program heap result receiver arguments answers.Null
  text : (text : List ℕ) (name : Name) → GivesObject result name → TakesTexts program name → length text ≤ 65535
      → IsAnswer program heap result receiver arguments (answers.Text text)
  fresh : (class : List ℕ) (name : Name) → GivesObject result name
      → (is_interface program name ≡ true) ⊎ (is_below program class name ≡ true) → IsListedClass program class
      → IsAnswer program heap result receiver arguments (answers.Fresh class)
  null_argument : (i : ℕ) (name : Name) → GivesObject result name → slice_get arguments i ≡ Some values.Null
      → IsAnswer program heap result receiver arguments (answers.Arg i)
  argument : (i : ℕ) (name : Name) (value : Value) → GivesObject result name → slice_get arguments i ≡ Some value
      → IsObjectOf program heap name value → IsAnswer program heap result receiver arguments (answers.Arg i)
  the_receiver : (name : Name) (value : Value) → GivesObject result name → receiver ≡ Some value
      → IsObjectOf program heap name value → IsAnswer program heap result receiver arguments answers.Receiver
  throws : (class : List ℕ) → is_known program.listing.classes class ≡ true → is_below program class throwable ≡ true
      → IsAnswer program heap result receiver arguments (answers.Throws class)

-- The machine takes these answers, and no others.
abbrev pub AnswersArePermitted : Type 0
AnswersArePermitted =
    (program : Program) (heap : List Object) (result : Option FieldType) (receiver : Option Value) (arguments : List Value) (answer : ApiAnswer)
    → (answer_fits program heap result receiver arguments answer ≡ true) ↔ IsAnswer program heap result receiver arguments answer
