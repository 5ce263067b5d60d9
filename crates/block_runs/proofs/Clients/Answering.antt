-- What the library answers, and throws, is of a class of the client, and is not the object of conspec/State.
use Rattle.std.proofs.Common.{◌≡◌, ℕ, Bool, true, false, ◌||◌, List, [], ◌∷◌, length, Option, Some, None, refl, cond}
use Rattle.std.specs.Prelude.{not, find, bytes_eq, slice_get, option_map, option_and_then}
use Rattle.std.specs.List.{AllByRecursion, list_any}
use Rattle.std.specs.Option.{option_map_or, option_to_list}
use Rattle.std.proofs.lemmas.Bool.{and_parts}
use Rattle.api_listing.specs.declared.events.ApiAnswer.{ApiAnswer}
use Rattle.api_listing.specs.declared.events.ApiAnswer.TheVariants as answers
use Rattle.api_listing.specs.declared.events.Event.TheVariants as events
use Rattle.api_listing.specs.declared.types.ListedClass.{ListedClass}
use Rattle.api_listing.specs.BuiltIn.{built_in_classes, throwable}
use Rattle.api_listing.specs.Listing.{is_known}
use Rattle.api_listing.specs.Nearest.{class_named}
use Rattle.bytecode_model.specs.declared.program.Program.{Program}
use Rattle.bytecode_model.specs.Classes.{is_below, is_interface}
use Rattle.bytecode_model.specs.SearchOrder.{Name}
use Rattle.guest_heap.specs.declared.object.Object.TheVariants as objects
use Rattle.guest_heap.specs.declared.thread.Thread.{Thread}
use Rattle.guest_heap.specs.declared.value.Value.{Value}
use Rattle.guest_heap.specs.declared.value.Value.TheVariants as values
use Rattle.guest_model.specs.Answering.{answer_fits, answered, answered_well, is_listed_class, of_class, returned_by}
use Rattle.guest_model.specs.Calls.{types_of}
use Rattle.guest_model.specs.Changes.{Change, World, throws_new, with_object}
use Rattle.guest_model.specs.Throwing.{bare_object}
use Rattle.guest_model.proofs.Options.{all_get, if_holds, if_mapped, if_some, if_then, is_there, IfThere, the_one}
use Rattle.guest_erasing.specs.Laid.{IsClientName}
use Rattle.block_runs.proofs.Clients.Values.{
  AreValues,
  FrameValues,
  Good,
  GoodIf,
  IsValue,
  WorldHolds,
  object_holds,
  returned_good,
  throws_new_good,
}

-- Each class that the listing knows is a client's.
abbrev pub ListsClients : Program → Type 0
ListsClients client = (name : Name) → is_known client.listing.classes name ≡ true → IsClientName name

found_known : {X : Type 0} (p : X → Bool) (xs : List X) (x : X) → find p xs ≡ Some x → list_any p xs ≡ true
found_known p [] x e = absurd cc
found_known p (y ∷ xs) x e = by (p y) e (found_known p xs x) where
  by : (b : Bool) → cond b (Some y) (find p xs) ≡ Some x → (find p xs ≡ Some x → list_any p xs ≡ true) → (b || list_any p xs) ≡ true
  by true h later = refl
  by false h later = later h

listed_known : (client : Program) (class : Name) → is_listed_class client class ≡ true → is_known client.listing.classes class ≡ true
listed_known client class e =
    by (class_named client.listing.classes class) (found_known (λ (c : ListedClass). bytes_eq c.name class) client.listing.classes)
    (and_parts _ (not (is_known built_in_classes class)) e).0
  where
    by : (o : Option ListedClass) → ((c : ListedClass) → o ≡ Some c → is_known client.listing.classes class ≡ true)
        → option_map_or (λ (c : ListedClass). not c.is_interface) o false ≡ true → is_known client.listing.classes class ≡ true
    by None known h = absurd cc
    by (Some c) known h = known c refl

module _ (client : Program) (lists : ListsClients client) (world : World) (h : WorldHolds client world) (number : ℕ)
    (thread : Thread) (method : ℕ) (all : AllByRecursion (FrameValues client) thread.frames) where
  abbrev GoodSo : Option Change → Type 0
  GoodSo change = GoodIf client change

  pub thrown_good : (class : Name) → IsClientName class
      → GoodSo (Some (throws_new client world number thread thread.frames class (Some (events.Except number method))))
  thrown_good class name = if_some (Good client) _ (throws_new_good client world number thread thread.frames class _ name h all)

  gave_good : (gave : World × Option Value) → WorldHolds client gave.0 → AreValues client (option_to_list gave.1)
      → GoodSo (returned_by client number thread method gave)
  gave_good gave shared is = returned_good client gave.0 thread thread.frames gave.1 _ shared all is

  abbrev GaveWell : World × Option Value → Type 0
  GaveWell gave = WorldHolds client gave.0 × AreValues client (option_to_list gave.1)

  -- a value that the call passed
  passed_good : (o : Option Value) → ((v : Value) → o ≡ Some v → IsValue client v)
      → GoodSo (option_and_then (returned_by client number thread method) (option_map (λ (v : Value). (world, Some v)) o))
  passed_good o each =
      let gave : IfThere GaveWell (option_map (λ (v : Value). (world, Some v)) o) = if_mapped GaveWell _ o (λ v e. (h, (each v e, tt))) in
      if_then (Good client) _ (option_map (λ (v : Value). (world, Some v)) o)
      (λ g e. let well = is_there GaveWell _ g gave e in gave_good g well.0 well.1)

  module _ (receiver : Option Value) (arguments : List Value) (p : AreValues client (option_to_list receiver))
      (q : AreValues client arguments) where
    well_good : (answer : ApiAnswer) (listed : Name)
        → answer_fits client world.heap (types_of listed).result receiver arguments answer ≡ true
        → GoodSo (answered_well client world number thread method receiver arguments answer)
    well_good answers.Nothing listed fit = gave_good (world, None) h tt
    well_good (answers.Int n) listed fit = gave_good (world, Some (values.Int n)) h (tt, tt)
    well_good answers.Null listed fit = gave_good (world, Some values.Null) h (tt, tt)
    well_good (answers.Text text) listed fit =
        gave_good (with_object world (objects.Text text), Some (values.Ref (length world.heap)))
        (object_holds client world (objects.Text text) tt refl h) (tt, tt)
    well_good (answers.Fresh class) listed fit =
        let test : Name → Bool = λ name. is_interface client name || is_below client class name in
        let f = and_parts (of_class (types_of listed).result test) (is_listed_class client class) fit in
        gave_good (with_object world (bare_object class), Some (values.Ref (length world.heap)))
        (object_holds client world (bare_object class) (tt, tt) (lists class (listed_known client class f.1)) h) (tt, tt)
    well_good (answers.Arg i) listed fit = passed_good (slice_get arguments i) (λ v e. all_get (IsValue client) arguments i v q e)
    well_good answers.Receiver listed fit = passed_good receiver (λ v e. the_one (IsValue client) receiver v p e)
    well_good (answers.Throws class) listed fit =
        thrown_good class (lists class (and_parts (is_known client.listing.classes class) (is_below client class throwable) fit).0)

    pub answered_good : (answer : ApiAnswer) → GoodSo (answered client world number thread method receiver arguments answer)
    answered_good answer =
        if_then (Good client) _ (slice_get client.listing.methods method)
        (λ listed named. if_holds (Good client) (answer_fits client world.heap (types_of listed.id.desc).result receiver arguments answer) _
        (λ fit. well_good answer listed.id.desc fit))
