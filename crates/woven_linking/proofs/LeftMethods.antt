-- A class leaves the same methods to the library with conspec/State after the classes, which is no interface and has no method.
use Rattle.std.proofs.Common.{◌≡◌, ℕ, zero, suc, ◌+◌, Bool, true, false, ◌||◌, ◌&&◌, List, [], ◌∷◌, ◌++◌, length, map, Option, Some, None, refl, sym, ap, ap₂, ◌∙◌, arith}
use Rattle.std.specs.Prelude.{bytes_eq, filter, find, not, if◌then◌else◌, is_some, option_and_then, option_map, slice_get}
use Rattle.std.specs.List.{AllByRecursion, flat_map}
use Rattle.std.specs.Option.{option_map_or, option_or}
use Rattle.std.proofs.lemmas.Bool.{false≢true}
use Rattle.std.proofs.lemmas.List.{length-map}
use Rattle.mon_base.specs.declared.method.MethodId.{MethodId}
use Rattle.class_codec.specs.declared.tree.ClassFile.{ClassFile}
use Rattle.class_codec.specs.declared.tree.Const.{Const}
use Rattle.class_codec.specs.declared.tree.Member.{Member}
use Rattle.class_codec.specs.Fits.{IsEncodable, FitsMember}
use Rattle.api_listing.specs.declared.types.ListedClass.{ListedClass}
use Rattle.api_listing.specs.declared.types.Listing.{Listing}
use Rattle.api_listing.specs.Listing.{is_known}
use Rattle.api_listing.specs.Nearest.{names_of}
use Rattle.bytecode_model.specs.declared.members.Found.{Found}
use Rattle.bytecode_model.specs.declared.program.Target.{Target}
use Rattle.bytecode_model.specs.declared.program.Target.TheVariants as target
use Rattle.bytecode_model.specs.Conditions.{id_of, is_run, overrides_in}
use Rattle.bytecode_model.specs.Heads.{all_classes, head_of, heads_of, is_interface, is_public, is_static}
use Rattle.bytecode_model.specs.LeftMethods.{asked_by, asked_by_named, asked_of, if_interface, is_asked, is_left, is_offering, is_open_to_all, left_in, offered_in, offers, offers_at}
use Rattle.bytecode_model.specs.Members.{Declared, first_of, in_class, methods_declared}
use Rattle.bytecode_model.specs.Places.{class_place}
use Rattle.bytecode_model.specs.SearchOrder.{Name, search_order, superclasses}
use Rattle.bytecode_model.proofs.Placing.{has_place, place_pushed}
use Rattle.conspec_tree.specs.declared.types.Var.{Var}
use Rattle.class_weaving.specs.Outcome.{Each}
use Rattle.class_weaving.specs.State.{state_file}
use Rattle.woven_linking.proofs.Above.{has_name}
use Rattle.woven_linking.proofs.Kept.{IsLonger, IsKept, IsKeptMember}
use Rattle.woven_linking.proofs.Same.{name_kept, desc_kept}
use Rattle.woven_linking.proofs.Standing.{state_head}

-- ---- lists

find_same : {X : Type 0} (p q : X → Bool) → ((x : X) → p x ≡ q x) → (xs : List X) → find p xs ≡ find q xs
find_same p q same [] = refl
find_same {X = X} p q same (x ∷ xs) = ap₂ (λ (b : Bool) (o : Option X). if b then Some x else o) (same x) (find_same p q same xs)

flat_same : {X Y : Type 0} (f g : X → List Y) → ((x : X) → f x ≡ g x) → (xs : List X) → flat_map f xs ≡ flat_map g xs
flat_same f g same [] = refl
flat_same {Y = Y} f g same (x ∷ xs) = ap₂ (λ (ys zs : List Y). ys ++ zs) (same x) (flat_same f g same xs)

none_after : {X : Type 0} (xs : List X) → slice_get xs (length xs) ≡ None
none_after [] = refl
none_after (x ∷ xs) = none_after xs

-- ---- what interfaces ask for

asked_kept : (name : Name) (old new : List Const) → IsLonger old new → (ms ns : List Member) → AllByRecursion (FitsMember old true) ms → Each IsKeptMember ms ns
    → map (id_of name new) (filter (is_asked new) ns) ≡ map (id_of name old) (filter (is_asked old) ms)
asked_kept name old new k [] [] fits same = refl
asked_kept name old new k [] (n ∷ ns) fits same = absurd same
asked_kept name old new k (m ∷ ms) [] fits same = absurd same
asked_kept name old new k (m ∷ ms) (n ∷ ns) fits same =
    let named = name_kept old new m n true k fits.0 same.0 in
    let described = desc_kept old new m n true k fits.0 same.0 in
    let asked : is_asked new n ≡ is_asked old m = ap₂ (λ (f : ℕ) (b : Bool). not (is_static f) && not b) same.0.flags (ap₂ is_run named described) in
    let made : Name → Name → MethodId = λ x y. record { class = name; name = x; desc = y } in
    let id : id_of name new n ≡ id_of name old m = ap₂ made named described in
    ap (λ (b : Bool). map (id_of name new) (if b then n ∷ filter (is_asked new) ns else filter (is_asked new) ns)) asked
    ∙ by (is_asked old m) id (asked_kept name old new k ms ns fits.1 same.1) where
      by : (b : Bool) → id_of name new n ≡ id_of name old m → map (id_of name new) (filter (is_asked new) ns) ≡ map (id_of name old) (filter (is_asked old) ms)
          → map (id_of name new) (if b then n ∷ filter (is_asked new) ns else filter (is_asked new) ns) ≡ map (id_of name old) (if b then m ∷ filter (is_asked old) ms else filter (is_asked old) ms)
      by true id rest = ap₂ (λ (x : MethodId) (xs : List MethodId). x ∷ xs) id rest
      by false id rest = rest

-- what a class of the name asks for, if it is given and an interface
abbrev asked_in : Name → Option ClassFile → List MethodId
asked_in name file = option_map_or (asked_by name) (option_and_then if_interface file) []

-- what the file at a place of the files asks for
abbrev asked_from : List ClassFile → Name → Option ℕ → List MethodId
asked_from files name place = option_map_or (asked_by name) (option_and_then (λ (at : ℕ). option_and_then if_interface (slice_get files at)) place) []

file_asks : (name : Name) (old new : ClassFile) → IsEncodable old → IsKept old new → asked_in name (Some new) ≡ asked_in name (Some old)
file_asks name old new fits k =
    ap (λ (flags : ℕ). option_map_or (asked_by name) (if is_interface flags then Some new else None) []) k.flags
    ∙ by (is_interface old.flags) (asked_kept name old.pool new.pool k.longer old.methods new.methods fits.methods.each k.methods) where
      by : (b : Bool) → asked_by name new ≡ asked_by name old → option_map_or (asked_by name) (if b then Some new else None) [] ≡ option_map_or (asked_by name) (if b then Some old else None) []
      by true same = same
      by false same = refl

asked_at : (name : Name) (vars : List Var) (olds news : List ClassFile) → AllByRecursion IsEncodable olds → Each IsKept olds news
    → (at : ℕ) → asked_in name (slice_get (news ++ state_file vars ∷ []) at) ≡ asked_in name (slice_get olds at)
asked_at name vars [] [] fits kept zero = refl
asked_at name vars [] [] fits kept (suc at) = refl
asked_at name vars [] (new ∷ news) fits kept at = absurd kept
asked_at name vars (old ∷ olds) [] fits kept at = absurd kept
asked_at name vars (old ∷ olds) (new ∷ news) fits kept zero = file_asks name old new fits.0 kept.0
asked_at name vars (old ∷ olds) (new ∷ news) fits kept (suc at) = asked_at name vars olds news fits.1 kept.1 at

-- ---- what classes offer

members_offer : (closed : Bool) (index : ℕ) (ms ns : List Member) → Each IsKeptMember ms ns
    → option_map_or (λ (m : Member). is_public m.flags && not closed) (slice_get ns index) false ≡ option_map_or (λ (m : Member). is_public m.flags && not closed) (slice_get ms index) false
members_offer closed index [] [] same = refl
members_offer closed index [] (n ∷ ns) same = absurd same
members_offer closed index (m ∷ ms) [] same = absurd same
members_offer closed zero (m ∷ ms) (n ∷ ns) same = ap (λ (flags : ℕ). is_public flags && not closed) same.0.flags
members_offer closed (suc index) (m ∷ ms) (n ∷ ns) same = members_offer closed index ms ns same.1

file_offers : (index : ℕ) (old new : ClassFile) → IsKept old new → offers_at new index ≡ offers_at old index
file_offers index old new k =
    ap (λ (flags : ℕ). option_map_or (λ (m : Member). is_public m.flags && not (is_interface flags)) (slice_get new.methods index) false) k.flags
    ∙ members_offer (is_interface old.flags) index old.methods new.methods k.methods

open_at : (vars : List Var) (olds news : List ClassFile) → Each IsKept olds news → (class index : ℕ)
    → is_open_to_all (news ++ state_file vars ∷ []) (target.Method class index) ≡ is_open_to_all olds (target.Method class index)
open_at vars [] [] kept zero index = refl
open_at vars [] [] kept (suc class) index = refl
open_at vars [] (new ∷ news) kept class index = absurd kept
open_at vars (old ∷ olds) [] kept class index = absurd kept
open_at vars (old ∷ olds) (new ∷ news) kept zero index = file_offers index old new kept.0
open_at vars (old ∷ olds) (new ∷ news) kept (suc class) index = open_at vars olds news kept.1 class index

-- ---- what is left

module _ (vars : List Var) (listing : Listing) (olds news : List ClassFile) (fits : AllByRecursion IsEncodable olds) (kept : Each IsKept olds news)
    (new_heads : heads_of (news ++ state_file vars ∷ []) ≡ heads_of olds ++ state_head ∷ []) (methods : methods_declared (news ++ state_file vars ∷ []) listing ≡ methods_declared olds listing) where
  abbrev new_files : List ClassFile
  new_files = news ++ state_file vars ∷ []

  asked_same : (name : Name) → asked_by_named new_files name ≡ asked_by_named olds name
  asked_same name =
      let count : length olds ≡ 0 + length (heads_of olds) = omega (arith, length-map olds head_of) in
      let place : class_place (heads_of new_files) name ≡ option_or (class_place (heads_of olds) name) (if bytes_eq state_head.name name then Some (length olds) else None) =
      ap (λ (heads : List ListedClass). class_place heads name) new_heads ∙ place_pushed (has_name name) (heads_of olds) 0 (length olds) state_head count in
      ap (asked_from new_files name) place
      ∙ by (class_place (heads_of olds) name) (bytes_eq state_head.name name) where
        by : (at : Option ℕ) (b : Bool) → asked_from new_files name (option_or at (if b then Some (length olds) else None)) ≡ asked_from olds name at
        by (Some at) b = asked_at name vars olds news fits kept at
        by None true = asked_at name vars olds news fits kept (length olds) ∙ ap (asked_in name) (none_after olds)
        by None false = refl

  open_same : (t : Target) → is_open_to_all new_files t ≡ is_open_to_all olds t
  open_same (target.Method class index) = open_at vars olds news kept class index
  open_same t = refl

  offers_same : (id : MethodId) → offers new_files listing id ≡ offers olds listing id
  offers_same id =
      ap (λ (declared : List Declared). option_map_or (is_offering new_files) (first_of declared id) false) methods ∙ by (first_of (methods_declared olds listing) id) where
        by : (o : Option Found) → option_map_or (is_offering new_files) o false ≡ option_map_or (is_offering olds) o false
        by None = refl
        by (Some found) = ap (λ (b : Bool). not found.is_static && b) (open_same found.target)

  offered_same : (id : MethodId) (classes : List Name) → offered_in new_files listing id classes ≡ offered_in olds listing id classes
  offered_same id [] = refl
  offered_same id (class ∷ classes) = ap₂ (λ (a b : Bool). a || b) (offers_same (in_class id class)) (offered_same id classes)

  is_left_same : (classes : List Name) (id : MethodId) → is_left new_files listing classes id ≡ is_left olds listing classes id
  is_left_same classes id = ap (λ (b : Bool). overrides_in listing id classes && not b) (offered_same id classes)

  pub left_same : (class : Name) → search_order (all_classes listing new_files) class ≡ search_order (all_classes listing olds) class
      → superclasses (all_classes listing new_files) class ≡ superclasses (all_classes listing olds) class → left_in new_files listing class ≡ left_in olds listing class
  left_same class order supers =
      let asked : asked_of new_files listing class ≡ asked_of olds listing class =
      flat_same (asked_by_named new_files) (asked_by_named olds) asked_same (search_order (all_classes listing new_files) class) ∙ ap (flat_map (asked_by_named olds)) order in
      let named : Option MethodId → Option Name = λ o. option_map (λ (id : MethodId). id.name) o in
      let classes = names_of (superclasses (all_classes listing olds) class) in
      ap (λ (up : List ListedClass). named (find (is_left new_files listing (names_of up)) (asked_of new_files listing class))) supers
      ∙ ap (λ (ids : List MethodId). named (find (is_left new_files listing classes) ids)) asked
      ∙ ap named (find_same (is_left new_files listing classes) (is_left olds listing classes) (is_left_same classes) (asked_of olds listing class))

  -- a class that is not given asks for nothing
  nothing_asked : (name : Name) → is_known (heads_of olds) name ≡ false → asked_by_named olds name ≡ []
  nothing_asked name none = by (class_place (heads_of olds) name) (has_place (has_name name) 0 (heads_of olds) ∙ none) where
    by : (at : Option ℕ) → is_some at ≡ false → asked_from olds name at ≡ []
    by None e = refl
    by (Some at) e = absurd (false≢true (sym e))

  none_asked : (names : List Name) → AllByRecursion (λ name. is_known (heads_of olds) name ≡ false) names → flat_map (asked_by_named new_files) names ≡ []
  none_asked [] h = refl
  none_asked (name ∷ names) h = ap₂ (λ (xs ys : List MethodId). xs ++ ys) (asked_same name ∙ nothing_asked name h.0) (none_asked names h.1)

  -- A class leaves nothing to the library where no given class is above it.
  pub none_left : (class : Name) → AllByRecursion (λ name. is_known (heads_of olds) name ≡ false) (search_order (all_classes listing new_files) class) → left_in new_files listing class ≡ None
  none_left class h =
      let supers = names_of (superclasses (all_classes listing new_files) class) in
      ap (λ (ids : List MethodId). option_map (λ (id : MethodId). id.name) (find (is_left new_files listing supers) ids)) (none_asked (search_order (all_classes listing new_files) class) h)
