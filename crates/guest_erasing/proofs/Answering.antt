-- The library's answers fit and give the same in both programs.
use Rattle.std.proofs.Common.{◌≡◌, ℕ, Bool, true, false, cond, List, [], ◌∷◌, length, Option, Some, None, refl, sym, ap, ◌∙◌, subst}
use Rattle.std.specs.Prelude.{◌&&◌, ◌||◌, bytes_eq, nat_le, not, find, IfSome, slice_get, option_map, option_and_then}
use Rattle.std.specs.List.{AllByRecursion}
use Rattle.std.specs.Option.{option_map_or}
use Rattle.std.proofs.lemmas.Bool.{and_parts}
use Rattle.api_listing.specs.declared.descriptor.FieldType.{FieldType}
use Rattle.api_listing.specs.declared.events.ApiAnswer.{ApiAnswer}
use Rattle.api_listing.specs.declared.events.ApiAnswer.TheVariants as answers
use Rattle.api_listing.specs.declared.events.ApiValue.{ApiValue}
use Rattle.api_listing.specs.declared.events.Event.TheVariants as events
use Rattle.api_listing.specs.declared.types.ListedClass.{ListedClass}
use Rattle.api_listing.specs.declared.types.ListedMethod.{ListedMethod}
use Rattle.api_listing.specs.declared.types.Listing.{Listing}
use Rattle.api_listing.specs.BuiltIn.{built_in_classes, object, throwable}
use Rattle.api_listing.specs.Listing.{is_known}
use Rattle.api_listing.specs.Nearest.{class_named}
use Rattle.bytecode_model.specs.declared.program.Method.{Method}
use Rattle.bytecode_model.specs.declared.program.Program.{Program}
use Rattle.bytecode_model.specs.Classes.{is_below, is_interface}
use Rattle.bytecode_model.specs.SearchOrder.{Name}
use Rattle.bytecode_model.proofs.Upwards.{same_of}
use Rattle.guest_heap.specs.declared.object.Object.{Object}
use Rattle.guest_heap.specs.declared.object.Object.TheVariants as objects
use Rattle.guest_heap.specs.declared.thread.Thread.{Thread}
use Rattle.guest_heap.specs.declared.value.Value.{Value}
use Rattle.guest_heap.specs.declared.value.Value.TheVariants as values
use Rattle.guest_model.specs.declared.machine.Choice.{Choice}
use Rattle.guest_model.specs.declared.machine.Choice.TheVariants as choices
use Rattle.guest_model.specs.Answering.{answer_fits, answered, answered_well, given, is_listed_class, is_no_object, is_of, of_class, result_class, returned_by, takes_text, thrown_by_library}
use Rattle.guest_model.specs.Answers.{may_throw}
use Rattle.guest_model.specs.Calls.{types_of}
use Rattle.guest_model.specs.Changes.{Change, World, returned, with_object}
use Rattle.guest_model.specs.Kinds.{class_of_object, is_instance, string}
use Rattle.guest_model.specs.Parts.{null_pointer}
use Rattle.guest_model.specs.Seen.{value_shown}
use Rattle.guest_model.specs.Stepping.{call_stepped, is_on_null}
use Rattle.guest_model.specs.Throwing.{bare_object}
use Rattle.guest_model.proofs.Options.{all_append, all_get}
use Rattle.guest_erasing.specs.Laid.{IsClientName, TellAlike}
use Rattle.guest_erasing.specs.Mirrors.{AreBelow, CanBegin, HoldsClientValues, IsClientValue}
use Rattle.guest_erasing.specs.Places.{Sites}
use Rattle.guest_erasing.specs.Steps.{AreRoomy}
use Rattle.guest_erasing.proofs.Alike.{Alike, alike_none, alike_some, alike_then, like_if, same_if, same_map, same_then}
use Rattle.guest_erasing.proofs.Beginning.{returned_alike}
use Rattle.guest_erasing.proofs.Changing.{Changed, Made, throws_new_mirrors}
use Rattle.guest_erasing.proofs.Handling.{all_found}
use Rattle.guest_erasing.proofs.Operating.{AreClients, instance_alike}
use Rattle.guest_erasing.proofs.Passing.{shown_alike}
use Rattle.guest_erasing.proofs.Worlds.{Goes, with_object_goes}

-- ---- classes that are listed

passes_found : {X : Type 0} (p : X → Bool) (xs : List X) (x : X) → find p xs ≡ Some x → p x ≡ true
passes_found p [] x e = absurd cc
passes_found {X = X} p (y ∷ xs) x e = by (p y) refl e (passes_found p xs x) where
  by : (b : Bool) → p y ≡ b → cond b (Some y) (find p xs) ≡ Some x → (find p xs ≡ Some x → p x ≡ true) → p x ≡ true
  by true is k later = let same : y ≡ x = cc in subst (λ (z : X). p z ≡ true) same is
  by false is k later = later k

module _ (classes : List ListedClass) (all : AllByRecursion (λ (c : ListedClass). IsClientName c.name) classes) (class : Name) where
  named_own : (c : ListedClass) → class_named classes class ≡ Some c → IsClientName class
  named_own c e =
      let test : ListedClass → Bool = λ (c : ListedClass). bytes_eq c.name class in
      subst IsClientName (same_of c.name class (passes_found test classes c e))
      (all_found test (λ (c : ListedClass). IsClientName c.name) classes c all e)

known_own : (classes : List ListedClass) → AllByRecursion (λ (c : ListedClass). IsClientName c.name) classes → (class : Name)
    → is_known classes class ≡ true → IsClientName class
known_own [] all class e = absurd cc
known_own (c ∷ classes) all class e = by (bytes_eq c.name class) refl e (known_own classes all.1 class) where
  by : (b : Bool) → bytes_eq c.name class ≡ b → (b || is_known classes class) ≡ true → (is_known classes class ≡ true → IsClientName class)
      → IsClientName class
  by true is k later = subst IsClientName (same_of c.name class is) all.0
  by false is k later = later k

module _ (sites_of : Method → Sites) (client woven : Program) (tell : TellAlike sites_of client woven) (roomy : AreRoomy client) where
  -- ---- which fit

  listed_same : (class : Name) → is_listed_class woven class ≡ is_listed_class client class
  listed_same class = ap (λ (l : Listing). option_map_or (λ (c : ListedClass). not c.is_interface)
      (class_named l.classes class) false && not (is_known built_in_classes class)) tell.listing

  listed_own : (class : Name) → is_listed_class client class ≡ true → IsClientName class
  listed_own class e =
      by (class_named client.listing.classes class)
      (and_parts (option_map_or (λ (c : ListedClass). not c.is_interface) (class_named client.listing.classes class) false)
      (not (is_known built_in_classes class)) e).0
      (λ c h. named_own client.listing.classes roomy.listed class c h) where
        by : (o : Option ListedClass) → option_map_or (λ (c : ListedClass). not c.is_interface) o false ≡ true
            → ((c : ListedClass) → o ≡ Some c → IsClientName class) → IsClientName class
        by None h own = absurd cc
        by (Some c) h own = own c refl

  pub throw_own : (class : Name) → may_throw client class ≡ true → IsClientName class
  throw_own class e = known_own client.listing.classes roomy.listed class
      (and_parts (is_known client.listing.classes class) (is_below client class throwable) e).0

  throw_same : (class : Name) → may_throw woven class ≡ may_throw client class
  throw_same class =
      ap (λ (l : Listing). is_known l.classes class && is_below woven class throwable) tell.listing
      ∙ by (is_known client.listing.classes class) (known_own client.listing.classes roomy.listed class) where
        by : (b : Bool) → (b ≡ true → IsClientName class) → (b && is_below woven class throwable) ≡ (b && is_below client class throwable)
        by true own = tell.below class throwable (own refl)
        by false own = refl

  of_same : (o : Option Name) (f g : Name → Bool) → ((name : Name) → g name ≡ f name) → option_map_or g o false ≡ option_map_or f o false
  of_same None f g same = refl
  of_same (Some name) f g same = same name

  text_same : (name : Name) → takes_text woven name ≡ takes_text client name
  text_same name = ap (λ (b : Bool). bytes_eq name string || (bytes_eq name object || b)) (tell.interfaces name)

  neither : (x y : Bool) → (x && false) ≡ (y && false)
  neither true true = refl
  neither true false = refl
  neither false true = refl
  neither false false = refl

  fresh_same : (result : Option FieldType) (class : Name)
      → (of_class result (λ name. is_interface woven name || is_below woven class name) && is_listed_class woven class)
      ≡ (of_class result (λ name. is_interface client name || is_below client class name) && is_listed_class client class)
  fresh_same result class =
      ap (λ (b : Bool). of_class result (λ name. is_interface woven name || is_below woven class name) && b) (listed_same class)
      ∙ by (is_listed_class client class) (listed_own class) where
        by : (b : Bool) → (b ≡ true → IsClientName class)
            → (of_class result (λ name. is_interface woven name || is_below woven class name) && b)
            ≡ (of_class result (λ name. is_interface client name || is_below client class name) && b)
        by true own =
            ap (λ (x : Bool). x && true)
            (of_same (result_class result) (λ name. is_interface client name || is_below client class name)
            (λ name. is_interface woven name || is_below woven class name)
            (λ name. ap (λ (x : Bool). x || is_below woven class name) (tell.interfaces name)
            ∙ ap (λ (x : Bool). is_interface client name || x) (tell.below class name (own refl))))
        by false own = neither _ _

  module _ (heap : List Object) (all : AreClients heap) where
    reference_same : (v : Value) (name : Name)
        → (is_interface woven name || is_instance woven heap v name) ≡ (is_interface client name || is_instance client heap v name)
    reference_same v name =
        ap (λ (b : Bool). b || is_instance woven heap v name) (tell.interfaces name)
        ∙ ap (λ (b : Bool). is_interface client name || b) (instance_alike sites_of client woven tell heap all v name)

    is_same : (v : Value) (name : Name) → is_of woven heap v name ≡ is_of client heap v name
    is_same (values.Int n) name = refl
    is_same values.Null name = refl
    is_same (values.Ref at) name = reference_same (values.Ref at) name
    is_same (values.Class index) name = reference_same (values.Class index) name
    is_same (values.Lit index) name = reference_same (values.Lit index) name

    argument_same : (result : Option FieldType) (o : Option Value)
        → option_map_or (λ (v : Value). of_class result (λ name. is_no_object v || is_of woven heap v name)) o false
        ≡ option_map_or (λ (v : Value). of_class result (λ name. is_no_object v || is_of client heap v name)) o false
    argument_same result None = refl
    argument_same result (Some v) =
        of_same (result_class result) (λ name. is_no_object v || is_of client heap v name)
        (λ name. is_no_object v || is_of woven heap v name)
        (λ name. ap (λ (b : Bool). is_no_object v || b) (is_same v name))

    receiver_same : (result : Option FieldType) (o : Option Value)
        → option_map_or (λ (v : Value). of_class result (is_of woven heap v)) o false ≡ option_map_or
        (λ (v : Value). of_class result (is_of client heap v)) o false
    receiver_same result None = refl
    receiver_same result (Some v) = of_same (result_class result) (is_of client heap v) (is_of woven heap v) (is_same v)

    pub fits_same : (result : Option FieldType) (receiver : Option Value) (arguments : List Value) (answer : ApiAnswer)
        → answer_fits woven heap result receiver arguments answer ≡ answer_fits client heap result receiver arguments answer
    fits_same result receiver arguments answers.Nothing = refl
    fits_same result receiver arguments (answers.Int n) = refl
    fits_same result receiver arguments answers.Null = refl
    fits_same result receiver arguments (answers.Text text) =
        ap (λ (b : Bool). b && nat_le (length text) 65535) (of_same (result_class result) (takes_text client) (takes_text woven) text_same)
    fits_same result receiver arguments (answers.Fresh class) = fresh_same result class
    fits_same result receiver arguments (answers.Arg i) = argument_same result (slice_get arguments i)
    fits_same result receiver arguments answers.Receiver = receiver_same result receiver
    fits_same result receiver arguments (answers.Throws class) = throw_same class

  -- ---- what they give

  module _ (before world other : World) (g : Goes client before world other) (all : AreClients world.heap) where
    -- the same result, which the library sees alike
    pub record GaveAlike (gave more : World × Option Value) : Type 0 where
      pub goes : Goes client before gave.0 more.0
      pub same : more.1 ≡ gave.1
      pub clients : AreClients gave.0.heap
      pub own : IfSome gave.1 (IsClientValue client)

    gives : (o : Option Value) → IfSome o (IsClientValue client) → GaveAlike (world, o) (other, o)
    gives o own = record { goes = g; same = refl; clients = all; own = own }

    gives_new : (object : Object) → IsClientName (class_of_object object)
        → GaveAlike (with_object world object, Some (values.Ref (length world.heap)))
        (with_object other object, Some (values.Ref (length other.heap)))
    gives_new object own = record {
      goes = with_object_goes client before world other g object;
      same = ap (λ (h : List Object). Some (values.Ref (length h))) g.mirrors.heap;
      clients = all_append (λ (o : Object). IsClientName (class_of_object o)) world.heap (object ∷ []) all (own, tt);
      own = tt;
    }

    -- what is asked of the class of a fresh object
    FreshOwn : ApiAnswer → Type 0
    FreshOwn (answers.Fresh class) = IsClientName class
    FreshOwn answers.Nothing = Unit {0}
    FreshOwn (answers.Int n) = Unit {0}
    FreshOwn answers.Null = Unit {0}
    FreshOwn (answers.Text text) = Unit {0}
    FreshOwn (answers.Arg i) = Unit {0}
    FreshOwn answers.Receiver = Unit {0}
    FreshOwn (answers.Throws class) = Unit {0}

    given_alike : (receiver : Option Value) (arguments : List Value) → IfSome receiver (IsClientValue client)
        → AllByRecursion (IsClientValue client) arguments
        → (answer : ApiAnswer) → FreshOwn answer
        → Alike GaveAlike (given world receiver arguments answer) (given other receiver arguments answer)
    unfolding FreshOwn
    given_alike receiver arguments own owns answers.Nothing fresh = alike_some GaveAlike _ _ (gives None tt)
    given_alike receiver arguments own owns (answers.Int n) fresh = alike_some GaveAlike _ _ (gives (Some (values.Int n)) tt)
    given_alike receiver arguments own owns answers.Null fresh = alike_some GaveAlike _ _ (gives (Some values.Null) tt)
    given_alike receiver arguments own owns (answers.Text text) fresh = alike_some GaveAlike _ _ (gives_new (objects.Text text) refl)
    given_alike receiver arguments own owns (answers.Fresh class) fresh = alike_some GaveAlike _ _ (gives_new (bare_object class) fresh)
    given_alike receiver arguments own owns (answers.Arg i) fresh =
        same_map GaveAlike _ _ (slice_get arguments i) (λ v e. gives (Some v) (all_get (IsClientValue client) arguments i v owns e))
    given_alike None arguments own owns answers.Receiver fresh = alike_none GaveAlike None
    given_alike (Some v) arguments own owns answers.Receiver fresh = alike_some GaveAlike _ _ (gives (Some v) own)
    given_alike receiver arguments own owns (answers.Throws class) fresh = alike_none GaveAlike None

    -- What an answer gives that fits, it gives in both programs.
    pub gives_alike : (result : Option FieldType) (receiver : Option Value) (arguments : List Value) → IfSome receiver (IsClientValue client)
        → AllByRecursion (IsClientValue client) arguments
        → (answer : ApiAnswer) → answer_fits client world.heap result receiver arguments answer ≡ true
        → Alike GaveAlike (given world receiver arguments answer) (given other receiver arguments answer)
    unfolding FreshOwn
    gives_alike result receiver arguments own owns answers.Nothing fits = given_alike receiver arguments own owns answers.Nothing tt
    gives_alike result receiver arguments own owns (answers.Int n) fits = given_alike receiver arguments own owns (answers.Int n) tt
    gives_alike result receiver arguments own owns answers.Null fits = given_alike receiver arguments own owns answers.Null tt
    gives_alike result receiver arguments own owns (answers.Text text) fits = given_alike receiver arguments own owns (answers.Text text) tt
    gives_alike result receiver arguments own owns (answers.Fresh class) fits =
        given_alike receiver arguments own owns (answers.Fresh class)
        (listed_own class (and_parts (of_class result (λ name. is_interface client name || is_below client class name))
        (is_listed_class client class) fits).1)
    gives_alike result receiver arguments own owns (answers.Arg i) fits = given_alike receiver arguments own owns (answers.Arg i) tt
    gives_alike result receiver arguments own owns answers.Receiver fits = given_alike receiver arguments own owns answers.Receiver tt
    gives_alike result receiver arguments own owns (answers.Throws class) fits = alike_none GaveAlike None

    pub shown_same : (gave more : World × Option Value) → GaveAlike gave more
        → option_map (value_shown woven more.0.heap) gave.1 ≡ option_map (value_shown client gave.0.heap) gave.1
    shown_same gave more a = by gave.1 a.own where
      by : (o : Option Value) → IfSome o (IsClientValue client)
          → option_map (value_shown woven more.0.heap) o ≡ option_map (value_shown client gave.0.heap) o
      by None own = refl
      by (Some v) own = ap Some
          (ap (λ (h : List Object). value_shown woven h v) a.goes.mirrors.heap
          ∙ shown_alike sites_of client woven tell gave.0.heap a.clients v own)

    module _ (number : ℕ) (thread more : Thread) (same : more.to_begin ≡ thread.to_begin)
        (b : AreBelow sites_of client woven thread.frames more.frames)
        (begins : AllByRecursion (CanBegin client) thread.to_begin) (holds : AllByRecursion (HoldsClientValues client) thread.frames)
        (method : ℕ) where
      abbrev Doing : Change → Change → Type 0
      Doing = Changed sites_of client woven before

      abbrev Does : Option Change → Option Change → Type 0
      Does = Made sites_of client woven before

      returned_here : (gave new : World × Option Value) → GaveAlike gave new
          → Does (returned_by client number thread method gave) (returned_by woven number more method new)
      returned_here gave new a =
          subst (λ (o : Option Value). Does (returned_by client number thread method gave)
          (returned_by woven number more method (new.0, o))) (sym a.same)
          (subst (λ (shown : Option ApiValue). Does (returned_by client number thread method gave)
          (returned woven new.0 more more.frames gave.1 (Some (events.Return number method shown))))
          (sym (shown_same gave new a))
          (returned_alike sites_of client woven tell before gave.0 new.0 a.goes thread more same begins thread.frames more.frames b gave.1
          (Some (events.Return number method (option_map (value_shown client gave.0.heap) gave.1)))))

      throws_here : (class : Name) → IsClientName class
          → Does (thrown_by_library client world number thread method class) (thrown_by_library woven other number more method class)
      throws_here class own =
          alike_some Doing _ _
          (throws_new_mirrors sites_of client woven tell before world other g thread more same number thread.frames more.frames b holds
          class
          (Some (events.Except number method)) own)

      gives_here : (receiver : Option Value) (arguments : List Value) → IfSome receiver (IsClientValue client)
          → AllByRecursion (IsClientValue client) arguments
          → (answer : ApiAnswer) → FreshOwn answer
          → Does (option_and_then (returned_by client number thread method) (given world receiver arguments answer))
          (option_and_then (returned_by woven number more method) (given other receiver arguments answer))
      gives_here receiver arguments own owns answer fresh =
          alike_then GaveAlike Doing _ _ _ _ (given_alike receiver arguments own owns answer fresh)
          (λ gave new e f a. returned_here gave new a)

      well_alike : (result : Option FieldType) (receiver : Option Value) (arguments : List Value) → IfSome receiver (IsClientValue client)
          → AllByRecursion (IsClientValue client) arguments → (answer : ApiAnswer)
          → answer_fits client world.heap result receiver arguments answer ≡ true
          → Does (answered_well client world number thread method receiver arguments answer)
          (answered_well woven other number more method receiver arguments answer)
      unfolding FreshOwn
      well_alike result receiver arguments own owns answers.Nothing fits = gives_here receiver arguments own owns answers.Nothing tt
      well_alike result receiver arguments own owns (answers.Int n) fits = gives_here receiver arguments own owns (answers.Int n) tt
      well_alike result receiver arguments own owns answers.Null fits = gives_here receiver arguments own owns answers.Null tt
      well_alike result receiver arguments own owns (answers.Text text) fits = gives_here receiver arguments own owns (answers.Text text) tt
      well_alike result receiver arguments own owns (answers.Fresh class) fits =
          gives_here receiver arguments own owns (answers.Fresh class)
          (listed_own class (and_parts (of_class result (λ name. is_interface client name || is_below client class name))
          (is_listed_class client class) fits).1)
      well_alike result receiver arguments own owns (answers.Arg i) fits = gives_here receiver arguments own owns (answers.Arg i) tt
      well_alike result receiver arguments own owns answers.Receiver fits = gives_here receiver arguments own owns answers.Receiver tt
      well_alike result receiver arguments own owns (answers.Throws class) fits = throws_here class (throw_own class fits)

      answered_alike : (receiver : Option Value) (arguments : List Value) → IfSome receiver (IsClientValue client)
          → AllByRecursion (IsClientValue client) arguments
          → (answer : ApiAnswer) → Does (answered client world number thread method receiver arguments answer)
          (answered woven other number more method receiver arguments answer)
      answered_alike receiver arguments own owns answer =
          subst (λ (l : Listing). Does (answered client world number thread method receiver arguments answer)
          (option_and_then (λ (listed : ListedMethod). cond
          (answer_fits woven other.heap (types_of listed.id.desc).result receiver arguments answer)
          (answered_well woven other number more method receiver arguments answer) None) (slice_get l.methods method))) (sym tell.listing)
          (same_then Doing _ _ (slice_get client.listing.methods method)
          (λ listed e. like_if Doing (answer_fits client world.heap (types_of listed.id.desc).result receiver arguments answer)
          (answer_fits woven other.heap (types_of listed.id.desc).result receiver arguments answer) _ _ _ _
          (ap (λ (h : List Object). answer_fits woven h (types_of listed.id.desc).result receiver arguments answer) g.mirrors.heap
          ∙ fits_same world.heap all (types_of listed.id.desc).result receiver arguments answer)
          (λ f. well_alike (types_of listed.id.desc).result receiver arguments own owns answer f) (λ f. alike_none Doing None)))

      pub call_alike : (receiver : Option Value) (arguments : List Value) → IfSome receiver (IsClientValue client)
          → AllByRecursion (IsClientValue client) arguments
          → (choice : Choice) → Does (call_stepped client world number thread method receiver arguments choice)
          (call_stepped woven other number more method receiver arguments choice)
      call_alike receiver arguments own owns choices.Plain =
          same_if Doing (is_on_null receiver) _ _ _ _ (λ e. throws_here null_pointer refl) (λ e. alike_none Doing None)
      call_alike receiver arguments own owns (choices.Answer answer) =
          same_if Doing (is_on_null receiver) _ _ _ _ (λ e. alike_none Doing None) (λ e. answered_alike receiver arguments own owns answer)
