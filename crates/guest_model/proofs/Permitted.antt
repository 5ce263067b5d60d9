-- The answers that the machine takes are those that the rows allow.
use Rattle.std.proofs.Common.{◌≡◌, ◌≤◌, ℕ, ℤ, pos, Bool, true, false, List, length, Option, Some, None, refl, sym, ap, ◌∙◌, subst, arith, inl, inr}
use Rattle.std.specs.Prelude.{◌⊎◌, ◌≤ℤ◌, ◌-ℤ◌, ◌==◌, ◌&&◌, ◌||◌, bytes_eq, int_le, is_some, nat_le, not, slice_get}
use Rattle.std.specs.Option.{option_map_or}
use Rattle.std.proofs.lemmas.Bool.{and_parts, eqb-true, leb-true}
use Rattle.std.proofs.lemmas.Int.{ints}
use Rattle.std.proofs.lemmas.Slice.Eq.{bytes_eq-Decides}
use Rattle.api_listing.specs.declared.descriptor.Element.{Element}
use Rattle.api_listing.specs.declared.descriptor.Element.TheVariants as elements
use Rattle.api_listing.specs.declared.descriptor.FieldType.{FieldType}
use Rattle.api_listing.specs.declared.events.ApiAnswer.{ApiAnswer}
use Rattle.api_listing.specs.declared.events.ApiAnswer.TheVariants as answers
use Rattle.api_listing.specs.declared.types.ListedClass.{ListedClass}
use Rattle.api_listing.specs.BuiltIn.{built_in_classes, object, throwable}
use Rattle.api_listing.specs.Listing.{is_known}
use Rattle.api_listing.specs.Nearest.{class_named}
use Rattle.bytecode_model.specs.declared.program.Program.{Program}
use Rattle.bytecode_model.specs.Classes.{is_below, is_interface}
use Rattle.bytecode_model.specs.SearchOrder.{Name}
use Rattle.guest_heap.specs.declared.object.Object.{Object}
use Rattle.guest_heap.specs.declared.value.Value.{Value}
use Rattle.guest_heap.specs.declared.value.Value.TheVariants as values
use Rattle.guest_model.specs.Answering.{answer_fits, is_listed_class, is_no_object, is_of, of_class, result_class, takes_text}
use Rattle.guest_model.specs.Answers.{between, fits_number, is_number_of}
use Rattle.guest_model.specs.Kinds.{is_instance, string}
use Rattle.guest_model.specs.Permitted.{AnswersArePermitted, GivesNumber, GivesObject, IsAnswer, IsListedClass, IsNumberOf, IsObjectOf, IsReference, TakesTexts}
use Rattle.guest_model.specs.Permitted as may

-- ---- tests

either_true : (x y : Bool) → (x || y) ≡ true → (x ≡ true) ⊎ (y ≡ true)
either_true true y e = inl refl
either_true false y e = inr e

left_true : (x y : Bool) → x ≡ true → (x || y) ≡ true
left_true true y e = refl
left_true false y e = absurd cc

right_true : (x y : Bool) → y ≡ true → (x || y) ≡ true
right_true true y e = refl
right_true false y e = e

of_either : (x y : Bool) → (x ≡ true) ⊎ (y ≡ true) → (x || y) ≡ true
of_either x y (inl e) = left_true x y e
of_either x y (inr e) = right_true x y e

both_true : (x y : Bool) → x ≡ true → y ≡ true → (x && y) ≡ true
both_true true y p q = q
both_true false y p q = absurd cc

not_false : (x : Bool) → not x ≡ true → x ≡ false
not_false true e = absurd cc
not_false false e = refl

not_true : (x : Bool) → x ≡ false → not x ≡ true
not_true true e = absurd cc
not_true false e = refl

at_most : (m n : ℕ) → m ≤ n → nat_le m n ≡ true
at_most m n h = grind arith

int_low : (a b : ℤ) → int_le a b ≡ true → a ≤ℤ b
int_low a b e = grind (arith, ints)

int_test : (a b : ℤ) → a ≤ℤ b → int_le a b ≡ true
int_test a b h = grind (arith, ints)

-- the value that is there passes the test
record Passes {A : Type 0} (p : A → Bool) (o : Option A) : Type 0 where
  item : A
  there : o ≡ Some item
  holds : p item ≡ true

passes : {A : Type 0} (p : A → Bool) (o : Option A) → option_map_or p o false ≡ true → Passes p o
passes p None e = absurd cc
passes p (Some x) e = record { item = x; there = refl; holds = e }

passed : {A : Type 0} (p : A → Bool) (o : Option A) (x : A) → o ≡ Some x → p x ≡ true → option_map_or p o false ≡ true
passed p o x e h = subst (λ (a : Option _). option_map_or p a false ≡ true) (sym e) h

-- ---- numbers

between_is : (low high n : ℤ) → between low high n ≡ true → (low ≤ℤ n) × (n ≤ℤ high)
between_is low high n e = let a = and_parts (int_le low n) (int_le n high) e in (int_low low n a.0, int_low n high a.1)

between_of : (low high n : ℤ) → low ≤ℤ n → n ≤ℤ high → between low high n ≡ true
between_of low high n l h = both_true (int_le low n) (int_le n high) (int_test low n l) (int_test n high h)

number_is : (element : Element) (n : ℤ) → is_number_of element n ≡ true → IsNumberOf element n
number_is elements.Boolean n e = let b = between_is (pos 0) (pos 1) n e in may.boolean n b.0 b.1
number_is elements.Byte n e = let b = between_is (pos 0 -ℤ pos 128) (pos 127) n e in may.byte n b.0 b.1
number_is elements.Char n e = let b = between_is (pos 0) (pos 65535) n e in may.char n b.0 b.1
number_is elements.Short n e = let b = between_is (pos 0 -ℤ pos 32768) (pos 32767) n e in may.short n b.0 b.1
number_is elements.Int n e = let b = between_is (pos 0 -ℤ pos 2147483648) (pos 2147483647) n e in may.int n b.0 b.1
number_is (elements.Class name) n e = absurd cc

number_of : (element : Element) (n : ℤ) → IsNumberOf element n → is_number_of element n ≡ true
number_of _ _ (may.boolean n l h) = between_of (pos 0) (pos 1) n l h
number_of _ _ (may.byte n l h) = between_of (pos 0 -ℤ pos 128) (pos 127) n l h
number_of _ _ (may.char n l h) = between_of (pos 0) (pos 65535) n l h
number_of _ _ (may.short n l h) = between_of (pos 0 -ℤ pos 32768) (pos 32767) n l h
number_of _ _ (may.int n l h) = between_of (pos 0 -ℤ pos 2147483648) (pos 2147483647) n l h

-- ---- results

class_is : (result : Option FieldType) (name : Name) → result_class result ≡ Some name → GivesObject result name
class_is None name e = absurd cc
class_is (Some t) name e = record { type = t; is = refl; named = e }

class_of : (result : Option FieldType) (name : Name) → GivesObject result name → result_class result ≡ Some name
class_of result name g = ap result_class g.is ∙ g.named

object_where : (result : Option FieldType) (test : Name → Bool) (name : Name) → GivesObject result name → test name ≡ true
    → of_class result test ≡ true
object_where result test name g h = passed test (result_class result) name (class_of result name g) h

none_is : (result : Option FieldType) → not (is_some result) ≡ true → result ≡ None
none_is None e = refl
none_is (Some t) e = absurd cc

some_named : (o : Option Name) → is_some o ≡ true → (name : Name) × (o ≡ Some name)
some_named None e = absurd cc
some_named (Some name) e = (name, refl)

module _ (program : Program) (heap : List Object) (result : Option FieldType) (receiver : Option Value) (arguments : List Value) where
  abbrev May : ApiAnswer → Type 0
  May answer = IsAnswer program heap result receiver arguments answer

  abbrev fits : ApiAnswer → Bool
  fits answer = answer_fits program heap result receiver arguments answer

  -- ---- objects

  object_is : (value : Value) (name : Name) → is_of program heap value name ≡ true → IsObjectOf program heap name value
  object_is (values.Int n) name e = absurd cc
  object_is values.Null name e = absurd cc
  object_is (values.Ref place) name e = record { reference = may.at place; fits = either_true (is_interface program name) _ e }
  object_is (values.Class index) name e = record { reference = may.class index; fits = either_true (is_interface program name) _ e }
  object_is (values.Lit index) name e = record { reference = may.literal index; fits = either_true (is_interface program name) _ e }

  object_of : (value : Value) (name : Name) → IsReference value
      → (is_interface program name ≡ true) ⊎ (is_instance program heap value name ≡ true) → is_of program heap value name ≡ true
  object_of _ name (may.at place) e = of_either (is_interface program name) (is_instance program heap (values.Ref place) name) e
  object_of _ name (may.class index) e = of_either (is_interface program name) (is_instance program heap (values.Class index) name) e
  object_of _ name (may.literal index) e = of_either (is_interface program name) (is_instance program heap (values.Lit index) name) e

  texts_are : (name : Name) → takes_text program name ≡ true → TakesTexts program name
  texts_are name e = by (either_true (bytes_eq name string) _ e) where
    by : (bytes_eq name string ≡ true) ⊎ ((bytes_eq name object || is_interface program name) ≡ true) → TakesTexts program name
    by (inl h) = may.string_itself ((bytes_eq-Decides name string).0 h)
    by (inr h) = of (either_true (bytes_eq name object) _ h) where
      of : (bytes_eq name object ≡ true) ⊎ (is_interface program name ≡ true) → TakesTexts program name
      of (inl k) = may.any_object ((bytes_eq-Decides name object).0 k)
      of (inr k) = may.an_interface k

  texts_of : (name : Name) → TakesTexts program name → takes_text program name ≡ true
  texts_of name (may.string_itself e) = left_true (bytes_eq name string) _ ((bytes_eq-Decides name string).1 e)
  texts_of name (may.any_object e) =
      right_true (bytes_eq name string) _ (left_true (bytes_eq name object) _ ((bytes_eq-Decides name object).1 e))
  texts_of name (may.an_interface e) = right_true (bytes_eq name string) _ (right_true (bytes_eq name object) _ e)

  listed_is : (class : Name) → is_listed_class program class ≡ true → IsListedClass program class
  listed_is class e =
      let a = and_parts (option_map_or (λ (c : ListedClass). not c.is_interface) (class_named program.listing.classes class) false)
      (not (is_known built_in_classes class)) e in
      let p = passes (λ (c : ListedClass). not c.is_interface) (class_named program.listing.classes class) a.0 in
      record { entry = p.item; there = p.there; made = not_false p.item.is_interface p.holds; own = not_false (is_known built_in_classes class) a.1 }

  listed_of : (class : Name) → IsListedClass program class → is_listed_class program class ≡ true
  listed_of class l =
      both_true _ (not (is_known built_in_classes class))
      (passed (λ (c : ListedClass). not c.is_interface) (class_named program.listing.classes class) l.entry l.there
      (not_true l.entry.is_interface l.made))
      (not_true (is_known built_in_classes class) l.own)

  -- ---- answers

  argument_is : (i : ℕ) (name : Name) (value : Value) → GivesObject result name → slice_get arguments i ≡ Some value
      → (is_no_object value || is_of program heap value name) ≡ true → May (answers.Arg i)
  argument_is i name values.Null gives there e = may.null_argument i name gives there
  argument_is i name (values.Int n) gives there e = absurd cc
  argument_is i name (values.Ref place) gives there e = may.argument i name (values.Ref place) gives there (object_is (values.Ref place) name e)
  argument_is i name (values.Class index) gives there e = may.argument i name (values.Class index) gives there (object_is (values.Class index) name e)
  argument_is i name (values.Lit index) gives there e = may.argument i name (values.Lit index) gives there (object_is (values.Lit index) name e)

  answer_is : (answer : ApiAnswer) → fits answer ≡ true → May answer
  answer_is answers.Nothing e = may.nothing (none_is result e)
  answer_is (answers.Int n) e = by result refl e where
    by : (r : Option FieldType) → result ≡ r → fits_number r n ≡ true → May (answers.Int n)
    by None is h = absurd cc
    by (Some t) is h =
        let a = and_parts (t.dimensions == 0) (is_number_of t.element n) h in
        may.number n t.element (record { type = t; is = is; alone = eqb-true t.dimensions 0 a.0; of = refl }) (number_is t.element n a.1)
  answer_is answers.Null e = let s = some_named (result_class result) e in may.null s.0 (class_is result s.0 s.1)
  answer_is (answers.Text text) e =
      let a = and_parts (of_class result (takes_text program)) (nat_le (length text) 65535) e in
      let p = passes (takes_text program) (result_class result) a.0 in
      may.text text p.item (class_is result p.item p.there) (texts_are p.item p.holds) (leb-true (length text) 65535 a.1)
  answer_is (answers.Fresh class) e =
      let a = and_parts (of_class result (λ name. is_interface program name || is_below program class name)) (is_listed_class program class) e in
      let p = passes (λ (name : Name). is_interface program name || is_below program class name) (result_class result) a.0 in
      may.fresh class p.item (class_is result p.item p.there) (either_true (is_interface program p.item) _ p.holds) (listed_is class a.1)
  answer_is (answers.Arg i) e =
      let v = passes (λ (v : Value). of_class result (λ name. is_no_object v || is_of program heap v name)) (slice_get arguments i) e in
      let p = passes (λ (name : Name). is_no_object v.item || is_of program heap v.item name) (result_class result) v.holds in
      argument_is i p.item v.item (class_is result p.item p.there) v.there p.holds
  answer_is answers.Receiver e =
      let v = passes (λ (v : Value). of_class result (is_of program heap v)) receiver e in
      let p = passes (is_of program heap v.item) (result_class result) v.holds in
      may.the_receiver p.item v.item (class_is result p.item p.there) v.there (object_is v.item p.item p.holds)
  answer_is (answers.Throws class) e =
      let a = and_parts (is_known program.listing.classes class) (is_below program class throwable) e in may.throws class a.0 a.1

  answer_of : (answer : ApiAnswer) → May answer → fits answer ≡ true
  answer_of _ (may.nothing e) = ap (λ (r : Option FieldType). not (is_some r)) e
  answer_of _ (may.number n element gives is) =
      let number : is_number_of gives.type.element n ≡ true = ap (λ (t : Element). is_number_of t n) gives.of ∙ number_of element n is in
      let alone : (gives.type.dimensions == 0) ≡ true = ap (λ (d : ℕ). d == 0) gives.alone in
      ap (λ (r : Option FieldType). fits_number r n) gives.is ∙ both_true (gives.type.dimensions == 0) _ alone number
  answer_of _ (may.null name gives) = ap is_some (class_of result name gives)
  answer_of _ (may.text text name gives takes short) =
      both_true (of_class result (takes_text program)) (nat_le (length text) 65535)
      (object_where result (takes_text program) name gives (texts_of name takes)) (at_most (length text) 65535 short)
  answer_of _ (may.fresh class name gives is listed) =
      both_true _ (is_listed_class program class)
      (object_where result (λ (n : Name). is_interface program n || is_below program class n) name gives
      (of_either (is_interface program name) (is_below program class name) is)) (listed_of class listed)
  answer_of _ (may.null_argument i name gives there) =
      passed (λ (v : Value). of_class result (λ name. is_no_object v || is_of program heap v name)) (slice_get arguments i) values.Null there
      (object_where result (λ (n : Name). true) name gives refl)
  answer_of _ (may.argument i name value gives there is) =
      passed (λ (v : Value). of_class result (λ name. is_no_object v || is_of program heap v name)) (slice_get arguments i) value there
      (object_where result (λ (n : Name). is_no_object value || is_of program heap value n) name gives
      (right_true (is_no_object value) _ (object_of value name is.reference is.fits)))
  answer_of _ (may.the_receiver name value gives there is) =
      passed (λ (v : Value). of_class result (is_of program heap v)) receiver value there
      (object_where result (is_of program heap value) name gives (object_of value name is.reference is.fits))
  answer_of _ (may.throws class known below) =
      both_true (is_known program.listing.classes class) (is_below program class throwable) known below

pub answers_are_permitted : AnswersArePermitted
answers_are_permitted program heap result receiver arguments answer =
    (answer_is program heap result receiver arguments answer, answer_of program heap result receiver arguments answer)
