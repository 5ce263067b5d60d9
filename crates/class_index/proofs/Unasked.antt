-- Where no flag is set, no interface asks for a method of the class.
use Rattle.std.proofs.Common.{◌≡◌, ℕ, Bool, true, false, cond, ◌&&◌, ◌||◌, List, [], ◌∷◌, Option, Some, None, map, filter, refl, sym, ap, ◌∙◌}
use Rattle.std.specs.Prelude.{bytes_eq, option_and_then, option_map, slice_get}
use Rattle.std.specs.BTreeMap.{get}
use Rattle.std.specs.Cmp.Lexicographic.{slice_cmp}
use Rattle.std.specs.List.{AllByRecursion, list_any}
use Rattle.std.specs.Option.{option_map_or}
use Rattle.std.specs.Ordering.{is_eq, nat_cmp}
use Rattle.std.proofs.lemmas.Bool.{false≢true}
use Rattle.std.proofs.lemmas.Map.Text.{is_eq-slice_cmp}
use Rattle.std.proofs.lemmas.Option.{slice_get-map}
use Rattle.mon_base.specs.declared.method.MethodId.{MethodId}
use Rattle.class_codec.specs.declared.tree.Const.{Const}
use Rattle.class_codec.specs.declared.tree.Member.{Member}
use Rattle.class_codec.specs.declared.tree.ClassFile.{ClassFile}
use Rattle.api_listing.specs.declared.types.Listing.{Listing}
use Rattle.bytecode_model.specs.Conditions.{id_of, is_of_library}
use Rattle.bytecode_model.specs.Heads.{heads_of, is_interface}
use Rattle.bytecode_model.specs.LeftMethods.{asked_by, if_interface, is_asked}
use Rattle.bytecode_model.specs.Members.{in_class}
use Rattle.bytecode_model.specs.Places.{class_place}
use Rattle.bytecode_model.proofs.Lists.{all_get, some_is}
use Rattle.bytecode_model.proofs.Placing.{same_name}
use Rattle.class_index.specs.Asking.{AreAsked, Asked, AsksNothing, IsUnasked, asks_of, is_asked_of, is_set_at}

or_parts : (a b : Bool) → (a || b) ≡ false → (a ≡ false) × (b ≡ false)
or_parts true b e = absurd (false≢true (sym e))
or_parts false b e = (refl, e)

-- ---- flags

none_pass : {X : Type 0} (p : X → Bool) (xs : List X) → list_any p xs ≡ false → AllByRecursion (λ (x : X). p x ≡ false) xs
none_pass p [] e = tt
none_pass p (x ∷ xs) e =
    let both = or_parts (p x) (list_any p xs) e in
    (both.0, none_pass p xs both.1)

none_set : (flags : List Bool) → list_any (λ (b : Bool). b) flags ≡ false → (place : Option ℕ) → is_set_at flags place ≡ false
none_set flags none None = refl
none_set flags none (Some at) = by (slice_get flags at) refl where
  by : (o : Option Bool) → slice_get flags at ≡ o → option_map_or (λ (b : Bool). b) o false ≡ false
  by None e = refl
  by (Some b) e = all_get (λ (x : Bool). x ≡ false) flags at b (none_pass (λ (x : Bool). x) flags none) e

-- ---- what an interface asks for

module _ (files : List ClassFile) (listing : Listing) (class : List ℕ) where
  abbrev is_had : MethodId → Bool
  is_had id = is_of_library listing (in_class id class)

  unasked : (name : List ℕ) (pool : List Const) (members : List Member) → list_any (is_asked_of listing class pool) members ≡ false
      → list_any is_had (map (id_of name pool) (filter (is_asked pool) members)) ≡ false
  unasked name pool [] e = refl
  unasked name pool (m ∷ ms) e = by (is_asked pool m) (or_parts _ (list_any (is_asked_of listing class pool) ms) e).0 (unasked name pool ms (or_parts _ _ e).1) where
    by : (b : Bool) → (b && is_of_library listing (id_of class pool m)) ≡ false
        → list_any is_had (map (id_of name pool) (filter (is_asked pool) ms)) ≡ false
        → list_any is_had (map (id_of name pool) (cond b (m ∷ filter (is_asked pool) ms) (filter (is_asked pool) ms))) ≡ false
    by true f rest = ap (λ (c : Bool). c || list_any is_had (map (id_of name pool) (filter (is_asked pool) ms))) f ∙ rest
    by false f rest = rest

  abbrev Nothing : Option ClassFile → Type 0
  Nothing o = (name : List ℕ) → list_any is_had (option_map_or (asked_by name) o []) ≡ false

  of_file : (f : ClassFile) → asks_of listing class f ≡ false → Nothing (if_interface f)
  of_file f e name = by (is_interface f.flags) e where
    by : (b : Bool) → (b && list_any (is_asked_of listing class f.pool) f.methods) ≡ false
        → list_any is_had (option_map_or (asked_by name) (cond b (Some f) None) []) ≡ false
    by true g = unasked name f.pool f.methods g
    by false g = refl

  of_place : (o : Option ℕ) → is_set_at (map (asks_of listing class) files) o ≡ false
      → Nothing (option_and_then (λ (at : ℕ). option_and_then if_interface (slice_get files at)) o)
  of_place None e = λ name. refl
  of_place (Some at) e = by (slice_get files at) (ap (λ (o : Option Bool). option_map_or (λ (b : Bool). b) o false) (sym (slice_get-map (asks_of listing class) files at)) ∙ e) where
    by : (o : Option ClassFile) → option_map_or (λ (b : Bool). b) (option_map (asks_of listing class) o) false ≡ false → Nothing (option_and_then if_interface o)
    by None f = λ name. refl
    by (Some x) f = of_file x f

  pub asks_nothing : (name : List ℕ) (flags : List Bool) → flags ≡ map (asks_of listing class) files
      → is_set_at flags (class_place (heads_of files) name) ≡ false → AsksNothing files listing name class
  asks_nothing name flags are e =
      of_place (class_place (heads_of files) name) (ap (λ (fs : List Bool). is_set_at fs (class_place (heads_of files) name)) (sym are) ∙ e) name

  pub is_unasked : (flags : List Bool) → flags ≡ map (asks_of listing class) files → list_any (λ (b : Bool). b) flags ≡ false → IsUnasked files listing class
  is_unasked flags are none name = asks_nothing name flags are (none_set flags none (class_place (heads_of files) name))

-- ---- a class more

pub put : (files : List ClassFile) (listing : Listing) (old new : Asked) (class : List ℕ) (flags : List Bool)
    → AreAsked files listing old → flags ≡ map (asks_of listing class) files
    → ((q : List ℕ) → get (slice_cmp nat_cmp) new q ≡ cond (is_eq (slice_cmp nat_cmp class q)) (Some flags) (get (slice_cmp nat_cmp) old q))
    → AreAsked files listing new
put files listing old new class flags asked are updates q found is = by (bytes_eq class q) refl (ap (λ (b : Bool). cond b (Some flags) (get (slice_cmp nat_cmp) old q)) (sym (is_eq-slice_cmp class q)) ∙ sym (updates q) ∙ is) where
  by : (b : Bool) → bytes_eq class q ≡ b → cond b (Some flags) (get (slice_cmp nat_cmp) old q) ≡ Some found → found ≡ map (asks_of listing q) files
  by true same e = sym (some_is flags found e) ∙ are ∙ ap (λ (c : List ℕ). map (asks_of listing c) files) (same_name class q same)
  by false same e = asked q found e
