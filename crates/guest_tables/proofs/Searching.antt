-- In which classes the members of a class are looked for, from a class to its superclass.
use Rattle.std.proofs.Common.{◌≡◌, ℕ, zero, suc, ◌+◌, ◌-◌, ◌<◌, Bool, true, false, List, [], ◌∷◌, ◌++◌, length, Option, Some, None, get_or, refl, sym, ap, subst, ◌∙◌, arith}
use Rattle.std.specs.Prelude.{◌==◌, ◌||◌, ◌&&◌, bytes_eq, filter_map, slice_get}
use Rattle.std.specs.List.{cons_option, list_any}
use Rattle.std.specs.Option.{option_and_then, option_map, option_map_or}
use Rattle.std.proofs.lemmas.Bool.{eq-eqb, eqb-true}
use Rattle.std.proofs.lemmas.List.{length-map}
use Rattle.std.proofs.lemmas.Option.{slice_get-map, slice_get_read, slice_get_within}
use Rattle.std.proofs.lemmas.Slice.Eq.{bytes_eq-Decides}
use Rattle.api_listing.specs.declared.types.ListedClass.{ListedClass}
use Rattle.api_listing.specs.Nearest.{class_named, interfaces_of, names_of, upwards}
use Rattle.bytecode_model.specs.declared.program.Program.{Program}
use Rattle.bytecode_model.specs.Classes.{classes_of}
use Rattle.bytecode_model.specs.Order.{EachWayEnds}
use Rattle.bytecode_model.specs.Places.{class_place}
use Rattle.bytecode_model.specs.SearchOrder.{Name, interfaces_from, is_one_of, most, reached, search_order, superclasses}
use Rattle.bytecode_model.proofs.Lists.{some_is}
use Rattle.bytecode_model.proofs.Placing.{find_at, same_name}
use Rattle.guest_model.specs.Kinds.{implements}
use Rattle.guest_model.specs.Places.{class_index}
use Rattle.guest_model.specs.Ready.{IsReady}
use Rattle.guest_tables.specs.Searched.{row_of, rows_of, unless_none}
use Rattle.mon_base.proofs.Lists.{position_below}
use Rattle.guest_tables.proofs.GivenClasses.{stands}

module _ (classes : List ListedClass) where
  abbrev order_of : List ListedClass → List Name
  order_of up = names_of up ++ interfaces_from classes (interfaces_of up)

  -- ---- a class that is not known

  none_up : (n : ℕ) (name : Name) → class_named classes name ≡ None → upwards n classes name ≡ []
  none_up zero name none = refl
  none_up (suc n) name none = ap (λ (o : Option ListedClass). option_map_or (λ (c : ListedClass). c ∷ upwards n classes c.parent) o []) none

  none_reached : (n : ℕ) → reached n classes [] [] ≡ []
  none_reached zero = refl
  none_reached (suc n) = refl

  pub none_searched : (name : Name) → class_place classes name ≡ None → search_order classes name ≡ []
  none_searched name none =
      let unknown : class_named classes name ≡ None = find_at (λ (c : ListedClass). bytes_eq c.name name) classes ∙ ap (option_and_then (slice_get classes)) none in
      ap order_of (none_up (length classes) name unknown) ∙ none_reached (most classes [])

  -- ---- one that is

  -- what stands in the place of a name has that name
  pub has_name_at : (name : Name) (place : ℕ) → class_place classes name ≡ Some place
      → (c : ListedClass) × (slice_get classes place ≡ Some c) × (c.name ≡ name) × (class_named classes name ≡ Some c)
  has_name_at name place is =
      let s = stands (λ (c : ListedClass). bytes_eq c.name name) 0 classes place is in
      let zero_less : place - 0 ≡ place = omega arith in
      let here : slice_get classes place ≡ Some s.0 = subst (λ (j : ℕ). slice_get classes j ≡ Some s.0) zero_less s.2 in
      (s.0, here, same_name s.0.name name s.3, find_at (λ (c : ListedClass). bytes_eq c.name name) classes ∙ ap (option_and_then (slice_get classes)) is ∙ here)

  one_up : EachWayEnds classes → (name : Name) (c : ListedClass) → class_named classes name ≡ Some c → superclasses classes name ≡ c ∷ superclasses classes c.parent
  one_up ends name c some =
      sym (ends name) ∙ ap (λ (o : Option ListedClass). option_map_or (λ (x : ListedClass). x ∷ upwards (length classes) classes x.parent) o []) some

  -- the way from the superclass is shorter
  pub shorter : EachWayEnds classes → (name : Name) (c : ListedClass) → class_named classes name ≡ Some c
      → length (superclasses classes c.parent) < length (superclasses classes name)
  shorter ends name c some =
      let longer : length (superclasses classes name) ≡ suc (length (superclasses classes c.parent)) = ap length (one_up ends name c some) in
      omega arith

  pub searched_up : EachWayEnds classes → (name : Name) (c : ListedClass) → class_named classes name ≡ Some c → c.name ≡ name → c.interfaces ≡ []
      → search_order classes name ≡ name ∷ search_order classes c.parent
  searched_up ends name c some same none =
      let above : List ListedClass = superclasses classes c.parent in
      ap order_of (one_up ends name c some)
      ∙ ap (λ (own : List Name). (c.name ∷ names_of above) ++ interfaces_from classes (own ++ interfaces_of above)) none
      ∙ ap (λ (n : Name). n ∷ search_order classes c.parent) same

  -- ---- by places

  -- two names of one place are the same
  one_name : (a b : Name) (p q : ℕ) → class_place classes a ≡ Some p → class_place classes b ≡ Some q → p ≡ q → a ≡ b
  one_name a b p q ea eb same =
      let x = has_name_at a p ea in
      let y = has_name_at b q eb in
      let both : ◌≡◌ {A = Option ListedClass} (Some x.0) (Some y.0) = sym x.1 ∙ ap (slice_get classes) same ∙ y.1 in
      let one : x.0 ≡ y.0 = some_is _ _ both in
      sym x.2 ∙ ap (λ (c : ListedClass). c.name) one ∙ y.2

  -- the names that are found by their places
  pub told_by_places : (other : Name) (q : ℕ) → class_place classes other ≡ Some q → (names : List Name)
      → list_any (λ (p : ℕ). p == q) (filter_map (class_place classes) names) ≡ is_one_of names other
  told_by_places other q is [] = refl
  told_by_places other q is (n ∷ names) = by (class_place classes n) (bytes_eq n other) refl refl (told_by_places other q is names) where
    by : (o : Option ℕ) (b : Bool) → class_place classes n ≡ o → bytes_eq n other ≡ b
        → list_any (λ (p : ℕ). p == q) (filter_map (class_place classes) names) ≡ is_one_of names other
        → list_any (λ (p : ℕ). p == q) (cons_option o (filter_map (class_place classes) names)) ≡ (b || is_one_of names other)
    by None true at same rest =
        let here : n ≡ other = same_name n other same in
        let wrong : None ≡ Some q = sym at ∙ ap (class_place classes) here ∙ is in
        absurd cc
    by None false at same rest = rest
    by (Some p) true at same rest =
        let here : n ≡ other = same_name n other same in
        let equal : p ≡ q = some_is _ _ (sym at ∙ ap (class_place classes) here ∙ is) in
        ap (λ (k : ℕ). (k == q) || list_any (λ (p : ℕ). p == q) (filter_map (class_place classes) names)) equal
        ∙ ap (λ (t : Bool). t || list_any (λ (p : ℕ). p == q) (filter_map (class_place classes) names)) (eq-eqb q q refl)
    by (Some p) false at same rest =
        ap (λ (t : Bool). t || list_any (λ (p : ℕ). p == q) (filter_map (class_place classes) names)) (apart (p == q) refl) ∙ rest where
          apart : (t : Bool) → (p == q) ≡ t → t ≡ false
          apart false e = refl
          apart true e =
              let here : n ≡ other = one_name n other p q at is (eqb-true p q e) in
              let wrong : true ≡ false = sym ((bytes_eq-Decides n other).1 here) ∙ same in
              absurd cc

-- ---- what the code tells

-- the first class with the name stands in the place that is read, among the classes of the program
pub record Stands (program : Program) (name : Name) (place : ℕ) (c : ListedClass) : Type 0 where
  pub there : slice_get (classes_of program) place ≡ Some c
  pub named : class_named (classes_of program) name ≡ Some c
  pub same : c.name ≡ name

pub place_few : (program : Program) (name : Name) (place : ℕ) → class_index program name ≡ Some place → place < length (classes_of program)
place_few program name place is =
    let w : place < 0 + length (classes_of program) = position_below (λ (c : ListedClass). bytes_eq c.name name) 0 (classes_of program) place is in
    omega (arith, w)

pub read_class : (program : Program) (name : Name) (place : ℕ) (c : ListedClass) → class_index program name ≡ Some place → c ≡ get_or (classes_of program) place c
    → Stands program name place c
read_class program name place c is read =
    let found = has_name_at (classes_of program) name place is in
    let there : slice_get (classes_of program) place ≡ Some c = slice_get_read (classes_of program) (length (classes_of program)) place c refl (place_few program name place is) read in
    let one : found.0 ≡ c = some_is _ _ (sym found.1 ∙ there) in
    record { there = there; named = found.3 ∙ ap Some one; same = sym (ap (λ (x : ListedClass). x.name) one) ∙ found.2 }

some_names : (names : List Name) (row : List ℕ) → (names ≡ [] → ⊥) → unless_none names row ≡ row
some_names [] row some = absurd (some refl)
some_names (n ∷ names) row some = refl

-- where the class names interfaces, its row tells
pub told_by_row : (program : Program) (name : Name) (place : ℕ) (c : ListedClass) (row : List ℕ) → Stands program name place c → (c.interfaces ≡ [] → ⊥)
    → row ≡ get_or (rows_of program) place row → (other : Name) (q : ℕ) → class_index program other ≡ Some q
    → list_any (λ (p : ℕ). p == q) row ≡ is_one_of (search_order (classes_of program) name) other
told_by_row program name place c row s some read other q is =
    let cs = classes_of program in
    let count : length (rows_of program) ≡ length cs = length-map cs (row_of program) in
    let within : place < length cs = slice_get_within cs place c s.there in
    let less : place < length (rows_of program) = omega (arith, count, within) in
    let there : slice_get (rows_of program) place ≡ Some row = slice_get_read (rows_of program) (length (rows_of program)) place row refl less read in
    let one : row ≡ row_of program c = some_is _ _ (sym there ∙ slice_get-map (row_of program) cs place ∙ ap (option_map (row_of program)) s.there) in
    ap (list_any (λ (p : ℕ). p == q)) (one ∙ some_names c.interfaces _ some)
    ∙ told_by_places cs other q is (search_order cs c.name)
    ∙ ap (λ (n : Name). is_one_of (search_order cs n) other) s.same

-- where it names none, it is the class itself, or one in which the members of the superclass are looked for
pub told_above : (program : Program) → IsReady program → (name : Name) (place : ℕ) (c : ListedClass) → Stands program name place c → c.interfaces ≡ []
    → (other : Name) → is_one_of (search_order (classes_of program) name) other ≡ (bytes_eq name other || is_one_of (search_order (classes_of program) c.parent) other)
told_above program ready name place c s none other =
    ap (λ (order : List Name). is_one_of order other) (searched_up (classes_of program) ready.order.ends name c s.named s.same none)

pub found_here : (program : Program) → IsReady program → (name : Name) (place : ℕ) (c : ListedClass) → class_index program name ≡ Some place → Stands program name place c
    → c.interfaces ≡ [] → (other : Name) (q : ℕ) → class_index program other ≡ Some q → place ≡ q → is_one_of (search_order (classes_of program) name) other ≡ true
found_here program ready name place c at s none other q is same =
    told_above program ready name place c s none other
    ∙ ap (λ (t : Bool). t || is_one_of (search_order (classes_of program) c.parent) other)
    ((bytes_eq-Decides name other).1 (one_name (classes_of program) name other place q at is same))

pub told_elsewhere : (program : Program) → IsReady program → (name : Name) (place : ℕ) (c : ListedClass) → class_index program name ≡ Some place → Stands program name place c
    → c.interfaces ≡ [] → (other : Name) (q : ℕ) → class_index program other ≡ Some q → (place ≡ q → ⊥)
    → is_one_of (search_order (classes_of program) name) other ≡ is_one_of (search_order (classes_of program) c.parent) other
told_elsewhere program ready name place c at s none other q is apart =
    told_above program ready name place c s none other
    ∙ ap (λ (t : Bool). t || is_one_of (search_order (classes_of program) c.parent) other) (differs (bytes_eq name other) refl) where
      differs : (t : Bool) → bytes_eq name other ≡ t → t ≡ false
      differs false e = refl
      differs true e =
          let one : name ≡ other = same_name name other e in
          let equal : place ≡ q = some_is _ _ (sym at ∙ ap (class_index program) one ∙ is) in
          absurd (apart equal)

pub rows_all : (program : Program) → length (rows_of program) ≡ length (classes_of program)
rows_all program = length-map (classes_of program) (row_of program)

-- a class that has no place is no interface
pub none_implements : (program : Program) (name other : Name) → class_index program other ≡ None → false ≡ implements program name other
none_implements program name other none =
    let cs = classes_of program in
    let unknown : class_named cs other ≡ None = find_at (λ (c : ListedClass). bytes_eq c.name other) cs ∙ ap (option_and_then (slice_get cs)) none in
    ap (λ (o : Option ListedClass). option_map_or (λ (c : ListedClass). c.is_interface) o false && is_one_of (search_order cs name) other) (sym unknown)
