-- What a compiler's files link to is a client whose names a woven program tells alike.
use Rattle.std.proofs.Common.{◌≡◌, ℕ, zero, suc, Bool, true, false, ◌&&◌, List, [], ◌∷◌, length, map, Option, Some, None, refl, sym, ap, subst, ◌∙◌}
use Rattle.std.specs.Prelude.{bytes_eq, not, slice_get}
use Rattle.std.specs.List.{AllByRecursion, list_all, list_any}
use Rattle.std.specs.Option.{option_map_or}
use Rattle.class_codec.specs.declared.tree.Const.{Const}
use Rattle.class_codec.specs.declared.tree.Const.TheVariants as constants
use Rattle.class_codec.specs.declared.tree.Member.{Member}
use Rattle.class_codec.specs.Pool.{class_name_at, class_name_of, text_of, utf8_at}
use Rattle.api_listing.specs.declared.types.ListedClass.{ListedClass}
use Rattle.api_listing.specs.Listing.{EncodesListing, own_class}
use Rattle.api_listing.specs.Nearest.{class_named}
use Rattle.bytecode_model.specs.declared.program.LinkedClass.{LinkedClass}
use Rattle.bytecode_model.specs.declared.program.Program.{Program}
use Rattle.bytecode_model.specs.declared.program.Side.TheVariants as sides
use Rattle.bytecode_model.specs.Conditions.{has_supers, holds, is_above, is_below_own, is_good_interface, is_super, names_own_class, runs_in_circle, stands_below, stays_within}
use Rattle.bytecode_model.specs.Files.{unlinked}
use Rattle.bytecode_model.specs.Heads.{class_at, head_of, heads_of, text_at}
use Rattle.bytecode_model.specs.LinkedClasses.{IsLinkedOf}
use Rattle.bytecode_model.specs.Order.{EachWayEnds, IsInOrder}
use Rattle.bytecode_model.specs.Sound.{IsSound, IsSoundClass}
use Rattle.bytecode_model.proofs.Ending.{ended}
use Rattle.bytecode_model.proofs.Lists.{not_true}
use Rattle.bytecode_model.proofs.Upwards.{both_of, named_so}
use Rattle.guest_model.proofs.Options.{all_get}
use Rattle.guest_erasing.specs.Adding.{IsNamedClass, IsNamedClient}
use Rattle.guest_erasing.proofs.Listings.{none_below}
use Rattle.guest_erasing.proofs.Names.{free_client, neither}
use Rattle.guest_erasing.proofs.Upwards.{found_fits}

-- ---- names of a pool in which nothing names conspec/State

abbrev pub IsFree : List Const → Type 0
IsFree pool = list_any names_own_class pool ≡ false

none_passes : {X : Type 0} (p : X → Bool) (xs : List X) (i : ℕ) (x : X) → list_any p xs ≡ false → slice_get xs i ≡ Some x → p x ≡ false
none_passes p [] i x none e = absurd cc
none_passes p (y ∷ xs) zero x none e =
    let same : y ≡ x = cc in
    ap p (sym same) ∙ (neither (p y) (list_any p xs) none).0
none_passes p (y ∷ xs) (suc i) x none e = none_passes p xs i x (neither (p y) (list_any p xs) none).1 e

text_free : (pool : List Const) (i : ℕ) → IsFree pool → holds own_class (text_at pool i) ≡ false
unfolding utf8_at
text_free pool i free = by (slice_get pool i) refl where
  by : (o : Option Const) → slice_get pool i ≡ o → holds own_class (option_map_or (λ (text : List ℕ). text) (text_of o) []) ≡ false
  by None e = refl
  by (Some (constants.Utf8 text)) e = none_passes names_own_class pool i (constants.Utf8 text) free e
  by (Some (constants.Integer n)) e = refl
  by (Some (constants.Float bits)) e = refl
  by (Some (constants.Long n)) e = refl
  by (Some (constants.Double bits)) e = refl
  by (Some (constants.Class name)) e = refl
  by (Some (constants.Str text)) e = refl
  by (Some (constants.Field class name)) e = refl
  by (Some (constants.Method class name)) e = refl
  by (Some (constants.IMethod class name)) e = refl
  by (Some (constants.NameAndType name desc)) e = refl
  by (Some constants.Second) e = refl

pub class_free : (pool : List Const) (i : ℕ) → IsFree pool → holds own_class (class_at pool i) ≡ false
unfolding class_name_at
class_free pool i free = by (slice_get pool i) where
  by : (o : Option Const) → holds own_class (option_map_or (λ (text : List ℕ). text) (class_name_of pool o) []) ≡ false
  by None = refl
  by (Some (constants.Class name)) = text_free pool name free
  by (Some (constants.Utf8 text)) = refl
  by (Some (constants.Integer n)) = refl
  by (Some (constants.Float bits)) = refl
  by (Some (constants.Long n)) = refl
  by (Some (constants.Double bits)) = refl
  by (Some (constants.Str text)) = refl
  by (Some (constants.Field class name)) = refl
  by (Some (constants.Method class name)) = refl
  by (Some (constants.IMethod class name)) = refl
  by (Some (constants.NameAndType name desc)) = refl
  by (Some constants.Second) = refl

-- ---- of each class of a list, by its place

pub all_by_place : {X : Type 0} (P : X → Type 0) (xs : List X) → ((i : ℕ) (x : X) → slice_get xs i ≡ Some x → P x) → AllByRecursion P xs
all_by_place P [] each = tt
all_by_place P (x ∷ xs) each = (each 0 x refl, all_by_place P xs (λ i y e. each (suc i) y e))

module _ (client : Program) (main : List ℕ) (linked : IsLinkedOf sides.Original client.listing main client) (sound : IsSound client) where
  class_named_so : (own : ℕ) (c : LinkedClass) → slice_get client.classes own ≡ Some c → IsNamedClass c
  class_named_so own c e =
      let says : IsSoundClass c = all_get IsSoundClass client.classes own c sound.classes e in
      let free : IsFree c.file.pool = not_true (list_any names_own_class c.file.pool) (linked.free own c e) in
      record {
        name = says.name;
        parent = says.parent;
        own = free_client c.name (ap (holds own_class) says.name ∙ class_free c.file.pool c.file.this_class free);
        above = free_client c.parent (ap (holds own_class) says.parent ∙ class_free c.file.pool c.file.super_class free);
      }

  -- ---- the way up among the given classes

  abbrev heads : List ListedClass
  heads = heads_of (unlinked client)

  no_circle_of : (c : ListedClass) (fields : List Member) → has_supers heads c fields ≡ true → runs_in_circle heads c.name ≡ false
  no_circle_of c fields e =
      let a = both_of (stands_below heads c) (is_good_interface c fields && not (is_below_own c)) e in
      let b = both_of (is_super heads c.parent) (list_all (is_above heads) c.interfaces && not (runs_in_circle heads c.name)) a.0 in
      not_true (runs_in_circle heads c.name) (both_of (list_all (is_above heads) c.interfaces) (not (runs_in_circle heads c.name)) b.1).1

  abbrev IsInNoCircle : ListedClass → Type 0
  IsInNoCircle h = runs_in_circle heads h.name ≡ false

  heads_leave : (classes : List LinkedClass) → AllByRecursion (λ (c : LinkedClass). IsInNoCircle (head_of c.file)) classes
      → AllByRecursion IsInNoCircle (heads_of (map (λ (c : LinkedClass). c.file) classes))
  heads_leave [] all = tt
  heads_leave (c ∷ classes) all = (all.0, heads_leave classes all.1)

  no_circles : AllByRecursion IsInNoCircle heads
  no_circles =
      heads_leave client.classes
      (all_by_place (λ (c : LinkedClass). IsInNoCircle (head_of c.file)) client.classes
      (λ own c e. no_circle_of (head_of c.file) c.file.fields (linked.standing own c e).supers))

  none_stays : (name : List ℕ) → stays_within (suc (length heads)) heads name ≡ false
  none_stays name = by (class_named heads name) refl where
    by : (o : Option ListedClass) → class_named heads name ≡ o → stays_within (suc (length heads)) heads name ≡ false
    by None is = ap (λ (o : Option ListedClass). option_map_or (λ (c : ListedClass). stays_within (length heads) heads c.parent) o false) is
    by (Some c) is =
        let leaves : IsInNoCircle c = found_fits (λ (h : ListedClass). bytes_eq h.name name) IsInNoCircle heads c no_circles is in
        subst (λ (x : List ℕ). stays_within (suc (length heads)) heads x ≡ false) (named_so heads name c is) leaves

  each_leaves : EachWayEnds heads
  each_leaves name = ended heads (length heads) name (none_stays name)

  pub client_named : (text : List ℕ) → EncodesListing text client.listing → IsInOrder client → IsNamedClient client
  client_named text listed order = record {
    given = all_by_place IsNamedClass client.classes class_named_so;
    listed = none_below text client.listing listed;
    ends = order.ends;
    leaves = each_leaves;
  }
