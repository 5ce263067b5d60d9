-- A program to which conspec/State was added tells the same of the client's names.
use Rattle.std.proofs.Common.{◌≡◌, ◌≢◌, ℕ, ◌+◌, ◌<◌, Bool, true, false, ◌&&◌, List, [], ◌∷◌, ◌++◌, length, map, Option, Some, None, refl, sym, ap, ap₂, subst, ◌∙◌}
use Rattle.std.specs.Prelude.{bytes_eq, not, ◌==◌, if◌then◌else◌, slice_get, option_map, option_and_then}
use Rattle.std.specs.List.{AllByRecursion, list_any}
use Rattle.std.specs.Option.{option_map_or, option_or}
use Rattle.std.proofs.lemmas.List.Folds.{find-append}
use Rattle.api_listing.specs.declared.types.ListedClass.{ListedClass}
use Rattle.api_listing.specs.Listing.{own_class}
use Rattle.api_listing.specs.Nearest.{class_named, upwards}
use Rattle.bytecode_model.specs.declared.program.LinkedClass.{LinkedClass}
use Rattle.bytecode_model.specs.declared.program.Method.{Method}
use Rattle.bytecode_model.specs.declared.program.Program.{Program}
use Rattle.bytecode_model.specs.declared.program.Target.{Target}
use Rattle.bytecode_model.specs.declared.program.Target.TheVariants as target
use Rattle.bytecode_model.specs.Classes.{classes_of, is_below, is_interface}
use Rattle.bytecode_model.specs.SearchOrder.{Name, search_order}
use Rattle.guest_heap.specs.declared.value.Value.{Value}
use Rattle.guest_model.specs.Finding.{is_above}
use Rattle.guest_model.specs.HeapOperations.{place_named}
use Rattle.guest_model.specs.Layout.{fields_of, place_of_field}
use Rattle.guest_model.specs.Places.{method_at}
use Rattle.guest_model.proofs.Options.{all_append, all_get, all_mapped, and_then_of, map_of}
use Rattle.guest_erasing.specs.Adding.{AddsState, IsNamedClass, IsNamedClient}
use Rattle.guest_erasing.specs.Laid.{HasCounterpart, IsClientName, IsLaid, TellAlike, parent_at}
use Rattle.guest_erasing.specs.Places.{Sites}
use Rattle.guest_erasing.proofs.Given.{class_there, classes_more, given_same, head, index_same, name_same, state_head}
use Rattle.guest_erasing.proofs.Instances.{kind_same}
use Rattle.guest_erasing.proofs.Members.{fields_alike, nearest_alike}
use Rattle.guest_erasing.proofs.Names.{client_other}
use Rattle.guest_erasing.proofs.Pairs.{alike_at, stands}
use Rattle.guest_erasing.proofs.Upwards.{order_same, superclasses_same}

module _ (sites_of : Method → Sites) (client woven : Program) (adds : AddsState sites_of client woven) (named : IsNamedClient client) where
  abbrev others : List ListedClass
  others = classes_of client

  abbrev last : ListedClass
  last = state_head sites_of client woven adds

  more : classes_of woven ≡ others ++ last ∷ []
  more = classes_more sites_of client woven adds

  -- ---- what is above a class

  -- none is below conspec/State
  parents_other : AllByRecursion (λ (c : ListedClass). c.parent ≢ last.name) others
  parents_other =
      let given : AllByRecursion (λ (c : ListedClass). c.parent ≢ own_class) (map head client.classes) =
      all_mapped IsNamedClass (λ (c : ListedClass). c.parent ≢ own_class) head client.classes
      (λ c h e. client_other c.parent h.above (h.parent ∙ e)) named.given in
      subst (λ (name : Name). AllByRecursion (λ (c : ListedClass). c.parent ≢ name) others) (sym adds.is_state.head_name)
      (all_append (λ (c : ListedClass). c.parent ≢ own_class) client.listing.classes (map head client.classes) named.listed given)

  not_last : (name : Name) → name ≢ own_class → name ≢ last.name
  not_last name other e = other (e ∙ adds.is_state.head_name)

  below_alike : (name above : Name) → name ≢ own_class → is_below woven name above ≡ is_below client name above
  below_alike name above other =
      let is_it : List ListedClass → Bool = λ cs. list_any (λ (c : ListedClass). bytes_eq c.name above) cs in
      ap (λ (cs : List ListedClass). is_it (upwards (length cs) cs name)) more
      ∙ ap is_it (superclasses_same others last parents_other named.ends name (not_last name other))

  order_alike : (name : Name) → name ≢ own_class → search_order (classes_of woven) name ≡ search_order others name
  order_alike name other =
      ap (λ (cs : List ListedClass). search_order cs name) more
      ∙ order_same others last parents_other named.ends adds.is_state.head_interfaces name (not_last name other)

  abbrev is_told : Option ListedClass → Bool
  is_told found = option_map_or (λ (c : ListedClass). c.is_interface) found false

  interface_alike : (name : Name) → is_interface woven name ≡ is_interface client name
  interface_alike name =
      ap (λ (cs : List ListedClass). is_told (class_named cs name)) more
      ∙ ap (λ (o : Option ListedClass). is_told o) (find-append (λ (c : ListedClass). bytes_eq c.name name) others (last ∷ []))
      ∙ by (class_named others name) (bytes_eq last.name name) where
        by : (o : Option ListedClass) (b : Bool) → is_told (option_or o (if b then Some last else None)) ≡ is_told o
        by (Some c) b = refl
        by None true = adds.is_state.head_class
        by None false = refl

  -- ---- given classes

  method_there : (class method : ℕ) (old : Method) → method_at client class method ≡ Some old
      → HasCounterpart sites_of woven class method old
  method_there class method old e =
      let c = and_then_of (λ (c : LinkedClass). slice_get c.methods method) (slice_get client.classes class) old e in
      let new = class_there sites_of client woven adds class c.0 c.1 in
      let m = alike_at (λ (m n : Method). IsLaid (sites_of m) m n) c.0.methods new.0.methods method old new.2.methods c.2 in
      record {
        new = m.0;
        there = ap (λ (o : Option LinkedClass). option_and_then (λ (x : LinkedClass). slice_get x.methods method) o) new.1 ∙ m.1;
        laid = m.2;
      }

  place_alike : (ref : Target) (place : ℕ) → place_named client ref ≡ Some place → place_named woven ref ≡ Some place
  place_alike (target.Field class field) place e =
      let c = map_of (λ (c : LinkedClass). place_of_field client c field) (slice_get client.classes class) place e in
      let new = class_there sites_of client woven adds class c.0 c.1 in
      let above : c.0.parent ≢ own_class = client_other c.0.parent (all_get IsNamedClass client.classes class c.0 named.given c.1).above in
      let fields : fields_of woven new.0.parent ≡ fields_of client c.0.parent =
      ap (fields_of woven) new.2.parent ∙ fields_alike sites_of client woven adds named c.0.parent above in
      let same : place_of_field woven new.0 field ≡ place_of_field client c.0 field =
      ap₂ (λ (vs : List Value) (n : ℕ). length vs + n) fields (new.2.places field) in
      ap (λ (o : Option LinkedClass). option_map (λ (x : LinkedClass). place_of_field woven x field) o) new.1
      ∙ ap (λ (n : ℕ). Some n) (same ∙ c.2)
  place_alike target.None place e = absurd cc
  place_alike (target.ApiMethod index) place e = absurd cc
  place_alike (target.Builtin index) place e = absurd cc
  place_alike (target.Method class method) place e = absurd cc
  place_alike (target.ApiField index) place e = absurd cc
  place_alike (target.ClassName name) place e = absurd cc
  place_alike (target.Number n) place e = absurd cc
  place_alike (target.Literal index) place e = absurd cc

  parent_alike : (class : ℕ) → class < length client.classes → parent_at woven class ≡ parent_at client class
  parent_alike class within =
      let old = stands client.classes class within in
      let new = class_there sites_of client woven adds class old.0 old.1 in
      let told : Option LinkedClass → Name = λ o. option_map_or (λ (c : LinkedClass). c.parent) o [] in
      ap told new.1 ∙ new.2.parent ∙ ap told (sym old.1)

  parent_named : (class : ℕ) → IsClientName (parent_at client class)
  parent_named class = by (slice_get client.classes class) refl where
    by : (o : Option LinkedClass) → slice_get client.classes class ≡ o → IsClientName (option_map_or (λ (c : LinkedClass). c.parent) o [])
    by None e = refl
    by (Some c) e = (all_get IsNamedClass client.classes class c named.given e).above

  above_alike : (above own : ℕ) → above < length client.classes → own < length client.classes
      → is_above woven above own ≡ is_above client above own
  above_alike above own within own_within =
      let a = stands client.classes above within in
      let new_a = class_there sites_of client woven adds above a.0 a.1 in
      let c = stands client.classes own own_within in
      let new_c = class_there sites_of client woven adds own c.0 c.1 in
      let beneath : Program → Option LinkedClass → LinkedClass → Bool =
      λ p up x. option_map_or (λ (y : LinkedClass). is_below p x.name y.name) up false in
      let tell : Program → Option LinkedClass → Option LinkedClass → Bool =
      λ p up down. not (above == own) && option_map_or (beneath p up) down false in
      let other : c.0.name ≢ own_class = client_other c.0.name (all_get IsNamedClass client.classes own c.0 named.given c.1).own in
      let same : is_below woven new_c.0.name new_a.0.name ≡ is_below client c.0.name a.0.name =
      ap₂ (is_below woven) new_c.2.name new_a.2.name ∙ below_alike c.0.name a.0.name other in
      ap₂ (tell woven) new_a.1 new_c.1 ∙ ap (λ (b : Bool). not (above == own) && b) same ∙ ap₂ (tell client) (sym a.1) (sym c.1)

  -- ---- the whole

  pub tell_alike : TellAlike sites_of client woven
  tell_alike = record {
    listing = adds.listing;
    literals = adds.literals;
    main_class = adds.main_class;
    main_method = adds.main_method;
    methods = method_there;
    indices = λ name free. index_same sites_of client woven adds name (client_other name free);
    names = name_same sites_of client woven adds;
    below = λ name above free. below_alike name above (client_other name free);
    interfaces = interface_alike;
    kinds = λ name other free. kind_same woven client below_alike interface_alike order_alike name other free;
    fields = λ name free. fields_alike sites_of client woven adds named name (client_other name free);
    places = place_alike;
    given = λ name free. given_same sites_of client woven adds name (client_other name free);
    nearest = λ name desc class free. nearest_alike sites_of client woven adds named name desc class (client_other class free);
    parents = parent_alike;
    parent_names = parent_named;
    above = above_alike;
  }
