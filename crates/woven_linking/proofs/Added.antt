-- What is known, searched, declared and written down in a program stays the same with conspec/State after its classes.
use Rattle.std.proofs.Common.{◌≡◌, ◌≢◌, ℕ, suc, ◌+◌, Bool, true, false, ◌||◌, ◌&&◌, List, [], ◌∷◌, ◌++◌, length, map, Option, Some, None, Ok, refl, sym, ap, subst, ◌∙◌, append_assoc, append-nil, arith}
use Rattle.std.specs.Prelude.{◌<◌, ◌≤◌, ◌^◌, bytes_eq, not, slice_get, if◌then◌else◌}
use Rattle.std.specs.List.{AllByRecursion, list_all}
use Rattle.std.specs.Option.{option_map_or, option_or}
use Rattle.std.proofs.lemmas.Bool.{false≢true}
use Rattle.std.proofs.lemmas.List.{length-append, length-map}
use Rattle.std.proofs.lemmas.List.Folds.{find-append, list_any-append}
use Rattle.class_codec.specs.declared.tree.ClassFile.{ClassFile}
use Rattle.class_codec.specs.declared.tree.Const.{Const}
use Rattle.class_codec.specs.declared.tree.Member.{Member}
use Rattle.class_codec.specs.Fits.{IsEncodable}
use Rattle.api_listing.specs.declared.types.ListedClass.{ListedClass}
use Rattle.api_listing.specs.declared.types.ListedMethod.{ListedMethod}
use Rattle.api_listing.specs.declared.types.Listing.{Listing}
use Rattle.api_listing.specs.BuiltIn.{object, class_rows, class_of_row, built_in_classes, method_rows, is_method}
use Rattle.api_listing.specs.Listing.{is_known, has_method}
use Rattle.api_listing.specs.Nearest.{class_named, upwards, names_of, interfaces_of}
use Rattle.api_listing.specs.Words.{is_class_name}
use Rattle.bytecode_model.specs.declared.members.Found.{Found}
use Rattle.bytecode_model.specs.declared.members.MemberKind.{MemberKind}
use Rattle.bytecode_model.specs.declared.members.MemberKind.TheVariants as members
use Rattle.bytecode_model.specs.declared.program.Side.TheVariants as sides
use Rattle.bytecode_model.specs.declared.program.Target.TheVariants as target
use Rattle.bytecode_model.specs.Conditions.{stays_within, runs_in_circle, stands_below, is_good_interface, is_below_own, has_supers, is_super, is_above}
use Rattle.class_linking.specs.ClassConditions.{classes_linked}
use Rattle.bytecode_model.specs.Heads.{class_at, head_of, heads_of, all_classes}
use Rattle.bytecode_model.specs.LeftMethods.{left_to_library, left_in}
use Rattle.bytecode_model.specs.Members.{Declared, members_from, members_of, file_members, given_from, listed_from, listed_fields_from, rows_from, methods_declared, fields_declared, first_of, first_found, in_class, method_of, field_of}
use Rattle.bytecode_model.specs.SearchOrder.{Name, most, with_name, interfaces_from, superclasses, search_order, reached_in_turn, with_interfaces, each_with_interfaces, field_order}
use Rattle.class_index.proofs.Declaring.{first_of-append}
use Rattle.bytecode_model.proofs.Lists.{all_append, not_true, or_none}
use Rattle.bytecode_model.proofs.Placing.{same_name}
use Rattle.conspec_tree.specs.declared.types.Var.{Var}
use Rattle.mon_base.specs.declared.method.MethodId.{MethodId}
use Rattle.offset_patch.specs.Entries.{state_name, variable_name, variable_type}
use Rattle.class_weaving.specs.State.{state_file}
use Rattle.woven_linking.proofs.Variables.{variable_found}
use Rattle.std.proofs.lemmas.Slice.Eq.{bytes_eq-Decides}
use Rattle.std.proofs.lemmas.Option.{slice_get_within}
use Rattle.offset_patch.specs.Splicing.{way_out, way_out_index}
use Rattle.class_weaving.specs.Outcome.{Each}
use Rattle.woven_linking.proofs.Above.{SaysOnly, has_name, find_none, found_fits, other_name, and_both, Ends, ordered, climbs, leaves, superclasses_same, order_same, field_order_same, none_reached, none_in_turn, field_search_says}
use Rattle.woven_linking.proofs.Free.{IsFree, class_free}
use Rattle.woven_linking.proofs.Kept.{IsKept}
use Rattle.woven_linking.proofs.LeftMethods.{left_same, none_left}
use Rattle.woven_linking.proofs.Listed.{IsListed, nameless}
use Rattle.woven_linking.proofs.Named.{IsAdded}
use Rattle.woven_linking.proofs.Same.{state_methods, state_strings, heads_kept, given_kept, literals_kept}
use Rattle.woven_linking.proofs.Standing.{or_left, or_right, state_head, state_says, state_head_name, state_head_alone, state_head_parent, state_head_is_class, IsGoodClass, all_good, none_taken, classes_stand}

heads_append : (files : List ClassFile) (s : ClassFile) → heads_of (files ++ s ∷ []) ≡ heads_of files ++ head_of s ∷ []
heads_append [] s = refl
heads_append (file ∷ files) s = ap (λ (xs : List ListedClass). head_of file ∷ xs) (heads_append files s)

none_named : (name : List ℕ) (classes : List ListedClass) → AllByRecursion (λ (c : ListedClass). c.name ≢ name) classes → is_known classes name ≡ false
none_named name [] h = refl
none_named name (c ∷ classes) h = rw (other_name c.name name h.0, none_named name classes h.1) refl

-- no class of an ordered list is below one that it lacks
parents_other : (name : List ℕ) → bytes_eq name [] ≡ false → (before classes : List ListedClass) → ordered before classes ≡ true → is_known (before ++ classes) name ≡ false
    → AllByRecursion (λ (c : ListedClass). c.parent ≢ name) classes
parents_other name some before [] e none = tt
parents_other name some before (c ∷ classes) e none =
    let both = and_both (is_known before c.parent || bytes_eq c.parent []) (ordered (before ++ c ∷ []) classes) e in
    let longer : (before ++ c ∷ []) ++ classes ≡ before ++ c ∷ classes = append_assoc before (c ∷ []) classes in
    let first : c.parent ≢ name = λ same.
    let known : is_known before name ≡ true = left_of (is_known before name) (sym (ap (λ (x : List ℕ). is_known before x || bytes_eq x []) same ∙ ap (λ (b : Bool). is_known before name || b) some) ∙ both.0) in
    false≢true (sym none ∙ list_any-append (has_name name) before (c ∷ classes) ∙ or_left (is_known before name) (is_known (c ∷ classes) name) known) in
    (first, parents_other name some (before ++ c ∷ []) classes both.1 (ap (λ (xs : List ListedClass). is_known xs name) longer ∙ none)) where
      left_of : (a : Bool) → (a || false) ≡ true → a ≡ true
      left_of true e = refl
      left_of false e = e

-- ---- the rows of what is built in

built_in_placed : ordered [] built_in_classes ≡ true
unfolding class_rows
built_in_placed = refl

built_in_named : is_known built_in_classes [] ≡ false
unfolding class_rows
built_in_named = refl

built_in_object : is_known built_in_classes object ≡ true
unfolding class_rows
built_in_object = refl

built_in_system : is_known built_in_classes way_out.class ≡ true
unfolding class_rows
built_in_system = refl

system_other : way_out.class ≢ state_name
system_other e =
    let same : bytes_eq way_out.class way_out.class ≡ bytes_eq way_out.class state_name = ap (bytes_eq way_out.class) e in
    false≢true (sym same)

-- the first class that is looked in for the way out
system_first : (others : List ListedClass) → (names : List Name) × (search_order (built_in_classes ++ others) way_out.class ≡ way_out.class ∷ names)
unfolding class_rows
system_first others = (_, refl)

-- Object, which is below no class and has no interface
abbrev object_head : ListedClass
object_head = class_of_row (object, [])

-- no fewer than two classes are built in
built_in_many : (others : List ListedClass) → (n : ℕ) × (length (built_in_classes ++ others) ≡ suc (suc n))
unfolding class_rows
built_in_many others = (_, refl)

object_alone : (others : List ListedClass) (n : ℕ) → class_named (built_in_classes ++ others) [] ≡ None → upwards (suc (suc n)) (built_in_classes ++ others) object ≡ object_head ∷ []
unfolding class_rows
object_alone others n unnamed =
    ap (λ (o : Option ListedClass). object_head ∷ option_map_or (λ (c : ListedClass). c ∷ upwards n (built_in_classes ++ others) c.parent) o []) unnamed

row_out : first_of (rows_from 0 method_rows) way_out ≡ Some (record { target = target.Builtin way_out_index; is_static = true })
unfolding method_rows
row_out = refl

-- ---- who declares the way out

none_of : (kind : MemberKind) (name : Name) (pool : List Const) (class i : ℕ) (ms : List Member) (id : MethodId) → bytes_eq name id.class ≡ false → first_of (members_from kind name pool class i ms) id ≡ None
none_of kind name pool class i [] id other = refl
none_of kind name pool class i (m ∷ ms) id other = rw other (none_of kind name pool class (i + 1) ms id other)

none_given : (kind : MemberKind) (class : ℕ) (files : List ClassFile) (id : MethodId) → is_known (heads_of files) id.class ≡ false → first_of (given_from kind class files) id ≡ None
none_given kind class [] id none = refl
none_given kind class (file ∷ files) id none =
    let c = (head_of file).name in
    let both = or_none (bytes_eq c id.class) (is_known (heads_of files) id.class) none in
    first_of-append (file_members kind class file) (given_from kind (class + 1) files) id
    ∙ ap (λ (o : Option Found). option_or o (first_of (given_from kind (class + 1) files) id)) (none_of kind c file.pool class 0 (members_of kind file) id both.0)
    ∙ none_given kind (class + 1) files id both.1 where
      or_none : (a b : Bool) → (a || b) ≡ false → (a ≡ false) × (b ≡ false)
      or_none true b e = absurd (false≢true (sym e))
      or_none false b e = (refl, e)

none_listed : (i : ℕ) (ms : List ListedMethod) → has_method ms way_out ≡ false → first_of (listed_from i ms) way_out ≡ None
none_listed i [] e = refl
none_listed i (m ∷ ms) e = by (is_method way_out.class way_out.name way_out.desc m.id) refl e (none_listed (i + 1) ms) where
  by : (b : Bool) → is_method way_out.class way_out.name way_out.desc m.id ≡ b → (b || has_method ms way_out) ≡ false → (has_method ms way_out ≡ false → first_of (listed_from (i + 1) ms) way_out ≡ None)
      → first_of (listed_from i (m ∷ ms)) way_out ≡ None
  by true is e rest = absurd (false≢true (sym e))
  by false is e rest = rw is (rest e)

-- ---- look-ups

-- two ways to look in classes of these names find the same
found_same : (look other : MethodId → Option Found) (id : MethodId) (P : Name → Type 0) → ((name : Name) → P name → other (in_class id name) ≡ look (in_class id name)) → (names : List Name) → AllByRecursion P names
    → first_found other id names ≡ first_found look id names
found_same look other id P same [] h = refl
found_same look other id P same (name ∷ names) h =
    ap (λ (o : Option Found). option_or o (first_found other id names)) (same name h.0) ∙ ap (option_or (look (in_class id name))) (found_same look other id P same names h.1)

-- no class has the name, and it stands above none
both_say : (name : Name) (classes : List ListedClass) → is_known classes name ≡ false → AllByRecursion (λ (c : ListedClass). AllByRecursion (λ other. other ≢ name) c.interfaces) classes
    → AllByRecursion (SaysOnly (λ other. other ≢ name)) classes
both_say name [] none h = tt
both_say name (c ∷ classes) none h =
    let one = by (bytes_eq c.name name) refl none in
    ((one.0, h.0), both_say name classes one.1 h.1)
  where
    by : (b : Bool) → bytes_eq c.name name ≡ b → (b || is_known classes name) ≡ false → (c.name ≢ name) × (is_known classes name ≡ false)
    by true e f = absurd (false≢true (sym f))
    by false e f = (λ same. false≢true (sym e ∙ (bytes_eq-Decides c.name name).1 same), f)

no_interface : list_all (λ (c : ListedClass). list_all (λ name. not (bytes_eq name state_name)) c.interfaces) built_in_classes ≡ true
unfolding class_rows
no_interface = refl

each_other : (names : List Name) → list_all (λ name. not (bytes_eq name state_name)) names ≡ true → AllByRecursion (λ name. name ≢ state_name) names
each_other [] e = tt
each_other (name ∷ names) e =
    let both = and_both (not (bytes_eq name state_name)) (list_all (λ other. not (bytes_eq other state_name)) names) e in
    (λ same. false≢true (sym (not_true (bytes_eq name state_name) both.0) ∙ (bytes_eq-Decides name state_name).1 same), each_other names both.1)

interfaces_other : (classes : List ListedClass) → list_all (λ (c : ListedClass). list_all (λ name. not (bytes_eq name state_name)) c.interfaces) classes ≡ true
    → AllByRecursion (λ (c : ListedClass). AllByRecursion (λ name. name ≢ state_name) c.interfaces) classes
interfaces_other [] e = tt
interfaces_other (c ∷ classes) e =
    let both = and_both (list_all (λ name. not (bytes_eq name state_name)) c.interfaces) (list_all (λ (d : ListedClass). list_all (λ name. not (bytes_eq name state_name)) d.interfaces) classes) e in
    (each_other c.interfaces both.0, interfaces_other classes both.1)

indices_other : (pool : List Const) (is : List ℕ) → IsFree pool → AllByRecursion (λ name. name ≢ state_name) (map (class_at pool) is)
indices_other pool [] free = tt
indices_other pool (i ∷ is) free = (class_free pool i free, indices_other pool is free)

-- ---- the program

module _ (vars : List Var) (few_vars : length vars ≤ 16) (listing : Listing) (l : IsListed listing) (olds news : List ClassFile) (fits : AllByRecursion IsEncodable olds) (kept : Each IsKept olds news)
    (good : classes_linked sides.Original (heads_of olds) listing.classes olds ≡ Ok tt) where
  abbrev heads : List ListedClass
  heads = heads_of olds

  abbrev all : List ListedClass
  all = all_classes listing olds

  abbrev new_files : List ClassFile
  new_files = news ++ state_file vars ∷ []

  new_heads : heads_of new_files ≡ heads ++ state_head ∷ []
  new_heads = heads_append news (state_file vars) ∙ ap (λ (xs : List ListedClass). xs ++ head_of (state_file vars) ∷ []) (heads_kept olds news fits kept) ∙ ap (λ (h : ListedClass). heads ++ h ∷ []) (state_says vars)

  new_classes : all_classes listing new_files ≡ all ++ state_head ∷ []
  new_classes = ap (λ (xs : List ListedClass). listing.classes ++ xs) new_heads ∙ sym (append_assoc listing.classes heads (state_head ∷ []))

  goods : AllByRecursion (IsGoodClass heads) olds
  goods = all_good heads listing.classes olds good

  -- no given class has a name that is listed
  taken : (name : List ℕ) → is_known listing.classes name ≡ true → is_known heads name ≡ false
  taken name known = none_taken heads listing.classes name known olds good

  built_in : (name : List ℕ) → is_known built_in_classes name ≡ true → is_known listing.classes name ≡ true
  built_in name e = ap (λ (xs : List ListedClass). is_known xs name) l.classes ∙ list_any-append (has_name name) built_in_classes l.others ∙ or_left (is_known built_in_classes name) (is_known l.others name) e

  -- ---- the way up

  heads_as : (P : ListedClass → Type 0) → ((file : ClassFile) → IsGoodClass heads file → P (head_of file)) → (files : List ClassFile) → AllByRecursion (IsGoodClass heads) files → AllByRecursion P (heads_of files)
  heads_as P f [] h = tt
  heads_as P f (file ∷ files) h = (f file h.0, heads_as P f files h.1)

  below_other : AllByRecursion (λ (c : ListedClass). c.parent ≢ state_head.name) heads
  below_other = heads_as (λ (c : ListedClass). c.parent ≢ state_head.name) (λ file g e. class_free file.pool file.super_class g.free (e ∙ state_head_name)) olds goods

  listed_other : AllByRecursion (λ (c : ListedClass). c.parent ≢ state_name) listing.classes
  listed_other =
      let free : is_known (built_in_classes ++ l.others) state_name ≡ false = ap (λ (xs : List ListedClass). is_known xs state_name) (sym l.classes) ∙ l.free in
      let none : is_known built_in_classes state_name ≡ false = left_none (is_known built_in_classes state_name) (is_known l.others state_name) (sym (list_any-append (has_name state_name) built_in_classes l.others) ∙ free) in
      let first = parents_other state_name refl [] built_in_classes built_in_placed none in
      let rest = parents_other state_name refl built_in_classes l.others l.placed free in
      subst (AllByRecursion (λ (c : ListedClass). c.parent ≢ state_name)) (sym l.classes) (all_append (λ (c : ListedClass). c.parent ≢ state_name) built_in_classes l.others first rest) where
        left_none : (a b : Bool) → (a || b) ≡ false → a ≡ false
        left_none true b e = e
        left_none false b e = refl

  parents : AllByRecursion (λ (c : ListedClass). c.parent ≢ state_head.name) all
  parents =
      let listed = subst (λ (name : List ℕ). AllByRecursion (λ (c : ListedClass). c.parent ≢ name) listing.classes) (sym state_head_name) listed_other in
      all_append (λ (c : ListedClass). c.parent ≢ state_head.name) listing.classes heads listed below_other

  split : all ≡ built_in_classes ++ (l.others ++ heads)
  split = ap (λ (xs : List ListedClass). xs ++ heads) l.classes ∙ append_assoc built_in_classes l.others heads

  unnamed : class_named all [] ≡ None
  unnamed =
      let given = heads_as (λ (c : ListedClass). c.name ≢ []) (λ file g e. false≢true (sym nameless ∙ ap is_class_name (sym e) ∙ g.named)) olds goods in
      let others = none_named [] (l.others ++ heads) (all_append (λ (c : ListedClass). c.name ≢ []) l.others heads l.named given) in
      let none : is_known all [] ≡ false = ap (λ (xs : List ListedClass). is_known xs []) split ∙ list_any-append (has_name []) built_in_classes (l.others ++ heads)
      ∙ ap (λ (b : Bool). b || is_known (l.others ++ heads) []) built_in_named ∙ others in
      find_none (has_name []) all none

  low : (name : List ℕ) → is_known listing.classes name ≡ true → Ends (length listing.classes) all name
  low =
      let first = climbs all unnamed [] built_in_classes (l.others ++ heads) split built_in_placed (λ name known. absurd (false≢true known)) in
      let rest = climbs all unnamed built_in_classes l.others heads split l.placed first in
      subst (λ (xs : List ListedClass). (name : List ℕ) → is_known xs name ≡ true → Ends (length xs) all name) (sym l.classes) rest

  no_way_round : (name : List ℕ) → stays_within (suc (length heads)) heads name ≡ false
  no_way_round name = by (class_named heads name) refl where
    circles : AllByRecursion (λ (c : ListedClass). runs_in_circle heads c.name ≡ false) heads
    circles = heads_as (λ (c : ListedClass). runs_in_circle heads c.name ≡ false) (λ file g. no_circle_of (head_of file) file.fields g.supers) olds goods where
      no_circle_of : (c : ListedClass) (fields : List Member) → has_supers heads c fields ≡ true → runs_in_circle heads c.name ≡ false
      no_circle_of c fields e =
          let a = and_both (stands_below heads c) (is_good_interface c fields && not (is_below_own c)) e in
          let b = and_both (is_super heads c.parent) (list_all (is_above heads) c.interfaces && not (runs_in_circle heads c.name)) a.0 in
          not_true (runs_in_circle heads c.name) (and_both (list_all (is_above heads) c.interfaces) (not (runs_in_circle heads c.name)) b.1).1

    by : (o : Option ListedClass) → class_named heads name ≡ o → stays_within (suc (length heads)) heads name ≡ false
    by None is = ap (λ (o : Option ListedClass). option_map_or (λ (c : ListedClass). stays_within (length heads) heads c.parent) o false) is
    by (Some c) is =
        let found = found_fits (has_name name) (λ (x : ListedClass). runs_in_circle heads x.name ≡ false) heads c circles is in
        subst (λ (x : List ℕ). stays_within (suc (length heads)) heads x ≡ false) (same_name c.name name found.1) found.0

  ends : (name : List ℕ) → Ends (length all) all name
  ends name = subst (λ (n : ℕ). Ends n all name) (sym (length-append listing.classes heads)) (leaves listing.classes heads low (length heads) name (no_way_round name))

  order : (name : List ℕ) → name ≢ state_name → search_order (all_classes listing new_files) name ≡ search_order all name
  order name other =
      ap (λ (xs : List ListedClass). search_order xs name) new_classes ∙ order_same all state_head parents state_head_alone ends name (λ e. other (e ∙ state_head_name))

  field_ways : (name : List ℕ) → name ≢ state_name → field_order (all_classes listing new_files) name ≡ field_order all name
  field_ways name other =
      ap (λ (xs : List ListedClass). field_order xs name) new_classes ∙ field_order_same all state_head parents state_head_alone ends name (λ e. other (e ∙ state_head_name))

  supers : (name : List ℕ) → name ≢ state_name → superclasses (all_classes listing new_files) name ≡ superclasses all name
  supers name other = ap (λ (xs : List ListedClass). superclasses xs name) new_classes ∙ superclasses_same all state_head parents ends name (λ e. other (e ∙ state_head_name))

  -- ---- what is declared

  methods : methods_declared new_files listing ≡ methods_declared olds listing
  methods =
      let given = given_kept members.Method (state_file vars) 0 olds news fits kept ∙ ap (λ (xs : List Declared). given_from members.Method 0 olds ++ xs) (state_methods vars (0 + length olds)) ∙ append-nil (given_from members.Method 0 olds) in
      ap (λ (xs : List Declared). xs ++ (listed_from 0 listing.methods ++ rows_from 0 method_rows)) given

  -- what is looked for among the fields: those of the files, of conspec/State and of the listing
  field_looked : (id : MethodId) → first_of (fields_declared new_files listing) id
      ≡ option_or (option_or (first_of (given_from members.Field 0 olds) id) (first_of (file_members members.Field (0 + length olds) (state_file vars)) id)) (first_of (listed_fields_from 0 listing.fields) id)
  field_looked id =
      let own = given_from members.Field 0 olds in
      let more = file_members members.Field (0 + length olds) (state_file vars) in
      let listed = listed_fields_from 0 listing.fields in
      ap (λ (xs : List Declared). first_of (xs ++ listed) id) (given_kept members.Field (state_file vars) 0 olds news fits kept) ∙ first_of-append (own ++ more) listed id
      ∙ ap (λ (o : Option Found). option_or o (first_of listed id)) (first_of-append own more id)

  state_class_name : class_at (state_file vars).pool (state_file vars).this_class ≡ state_name
  state_class_name = ap (λ (c : ListedClass). c.name) (state_says vars) ∙ state_head_name

  looks_same : (id : MethodId) (name : Name) → name ≢ state_name → first_of (fields_declared new_files listing) (in_class id name) ≡ first_of (fields_declared olds listing) (in_class id name)
  looks_same id name other =
      let it = in_class id name in
      let own = first_of (given_from members.Field 0 olds) it in
      let listed = first_of (listed_fields_from 0 listing.fields) it in
      let differs : bytes_eq (class_at (state_file vars).pool (state_file vars).this_class) name ≡ false = ap (λ (x : Name). bytes_eq x name) state_class_name ∙ other_name state_name name (λ e. other (sym e)) in
      let none = none_of members.Field (class_at (state_file vars).pool (state_file vars).this_class) (state_file vars).pool (0 + length olds) 0 (state_file vars).fields it differs in
      field_looked it ∙ ap (λ (o : Option Found). option_or (option_or own o) listed) none ∙ ap (λ (o : Option Found). option_or o listed) (or_none own)
      ∙ sym (first_of-append (given_from members.Field 0 olds) (listed_fields_from 0 listing.fields) it)

  heads_own : is_known heads state_name ≡ false
  heads_own = none_named state_name heads (heads_as (λ (c : ListedClass). c.name ≢ state_name) (λ file g. class_free file.pool file.this_class g.free) olds goods)

  all_own : is_known all state_name ≡ false
  all_own = list_any-append (has_name state_name) listing.classes heads ∙ both_false (is_known listing.classes state_name) (is_known heads state_name) l.free heads_own where
    both_false : (a b : Bool) → a ≡ false → b ≡ false → (a || b) ≡ false
    both_false true b e f = e
    both_false false b e f = f

  all_say : AllByRecursion (SaysOnly (λ name. name ≢ state_name)) all
  all_say =
      let listed : AllByRecursion (λ (c : ListedClass). AllByRecursion (λ name. name ≢ state_name) c.interfaces) listing.classes =
      subst (AllByRecursion (λ (c : ListedClass). AllByRecursion (λ name. name ≢ state_name) c.interfaces)) (sym l.classes)
      (all_append (λ (c : ListedClass). AllByRecursion (λ name. name ≢ state_name) c.interfaces) built_in_classes l.others (interfaces_other built_in_classes no_interface) l.others_say) in
      let given = heads_as (λ (c : ListedClass). AllByRecursion (λ name. name ≢ state_name) c.interfaces) (λ file g. indices_other file.pool file.interfaces g.free) olds goods in
      both_say state_name all all_own (all_append (λ (c : ListedClass). AllByRecursion (λ name. name ≢ state_name) c.interfaces) listing.classes heads listed given)

  fields : (id : MethodId) → id.class ≢ state_name → field_of new_files listing id ≡ field_of olds listing id
  fields id other =
      let names = field_order all id.class in
      ap (first_found (first_of (fields_declared new_files listing)) id) (field_ways id.class other)
      ∙ found_same (first_of (fields_declared olds listing)) (first_of (fields_declared new_files listing)) id (λ name. name ≢ state_name) (looks_same id) names (field_search_says (λ name. name ≢ state_name) all all_say id.class)

  -- ---- above conspec/State

  abbrev more : List ListedClass
  more = all ++ state_head ∷ []

  state_supers : superclasses more state_name ≡ state_head ∷ object_head ∷ []
  state_supers =
      let count : length more ≡ suc (length all) = omega (arith, length-append all (state_head ∷ [])) in
      let alone : class_named (state_head ∷ []) state_name ≡ Some state_head = ap (λ (name : Name). if bytes_eq name state_name then Some state_head else None) state_head_name in
      let found : class_named more state_name ≡ Some state_head =
      find-append (has_name state_name) all (state_head ∷ []) ∙ ap (λ (o : Option ListedClass). option_or o (class_named (state_head ∷ []) state_name)) (find_none (has_name state_name) all all_own) ∙ alone in
      let others = (l.others ++ heads) ++ state_head ∷ [] in
      let begin : more ≡ built_in_classes ++ others = ap (λ (xs : List ListedClass). xs ++ state_head ∷ []) split ∙ append_assoc built_in_classes (l.others ++ heads) (state_head ∷ []) in
      let none : class_named more [] ≡ None = find-append (has_name []) all (state_head ∷ []) ∙ ap (λ (o : Option ListedClass). option_or o (class_named (state_head ∷ []) [])) unnamed
      ∙ ap (λ (name : Name). if bytes_eq name [] then Some state_head else None) state_head_name in
      let many = built_in_many (l.others ++ heads) in
      let above : upwards (length all) more object ≡ object_head ∷ [] =
      ap (λ (n : ℕ). upwards n more object) (ap length split ∙ many.1) ∙ ap (λ (xs : List ListedClass). upwards (suc (suc many.0)) xs object) begin
      ∙ object_alone others many.0 (ap (λ (xs : List ListedClass). class_named xs []) (sym begin) ∙ none) in
      ap (λ (n : ℕ). upwards n more state_name) count ∙ ap (λ (o : Option ListedClass). option_map_or (λ (c : ListedClass). c ∷ upwards (length all) more c.parent) o []) found
      ∙ ap (λ (name : Name). state_head ∷ upwards (length all) more name) state_head_parent ∙ ap (λ (xs : List ListedClass). state_head ∷ xs) above

  state_order : search_order (all_classes listing new_files) state_name ≡ state_name ∷ object ∷ []
  state_order =
      let begin : List ListedClass → List Name = λ cs. names_of cs ++ interfaces_from more (interfaces_of cs) in
      ap (λ (cs : List ListedClass). search_order cs state_name) new_classes ∙ ap begin state_supers
      ∙ ap (λ (name : Name). name ∷ object ∷ interfaces_from more (state_head.interfaces ++ [])) state_head_name
      ∙ ap (λ (names : List Name). state_name ∷ object ∷ interfaces_from more (names ++ [])) state_head_alone
      ∙ ap (λ (names : List Name). state_name ∷ object ∷ names) (none_reached (most more []) more [])

  -- conspec/State is the first class in which its own fields are looked for
  state_first : field_order (all_classes listing new_files) state_name ≡ state_name ∷ object ∷ []
  state_first =
      let own : with_interfaces more [] state_head ≡ state_name ∷ [] =
      ap (λ (names : List Name). reached_in_turn (most more names) more (with_name [] state_head.name) names) state_head_alone ∙ none_in_turn (most more []) more (with_name [] state_head.name)
      ∙ ap (λ (name : Name). name ∷ []) state_head_name in
      ap (λ (cs : List ListedClass). field_order cs state_name) new_classes ∙ ap (each_with_interfaces more []) state_supers
      ∙ ap (λ (names : List Name). with_interfaces more names object_head) own ∙ none_in_turn (most more []) more (state_name ∷ object ∷ [])

  -- ---- what is found

  variables : (var : ℕ) (is_bool : Bool) → slice_get (map (λ (v : Var). v.is_bool) vars) var ≡ Some is_bool
      → field_of new_files listing (record { class = state_name; name = variable_name var; desc = variable_type is_bool }) ≡ Some (record { target = target.Field (length olds) var; is_static = true })
  variables var is_bool e =
      let id : MethodId = record { class = state_name; name = variable_name var; desc = variable_type is_bool } in
      let look = first_of (fields_declared new_files listing) in
      let within = slice_get_within (map (λ (v : Var). v.is_bool) vars) var is_bool e in
      let few : var < 2 ^ 64 = omega (arith, within, length-map vars (λ (v : Var). v.is_bool)) in
      let listed = first_of (listed_fields_from 0 listing.fields) id in
      let at : 0 + length olds ≡ length olds = omega arith in
      let own : look id ≡ Some (record { target = target.Field (length olds) var; is_static = true }) =
      field_looked id
      ∙ ap (λ (o : Option Found). option_or (option_or o (first_of (file_members members.Field (0 + length olds) (state_file vars)) id)) listed) (none_given members.Field 0 olds id heads_own)
      ∙ ap (λ (n : ℕ). option_or (first_of (file_members members.Field n (state_file vars)) id) listed) at
      ∙ ap (λ (o : Option Found). option_or o listed) (variable_found vars (length olds) var is_bool few e) in
      ap (first_found look id) state_first ∙ ap (λ (o : Option Found). option_or o (first_found look id (object ∷ []))) own

  out : method_of new_files listing way_out ≡ Some (record { target = target.Builtin way_out_index; is_static = true })
  out =
      let system : is_known heads way_out.class ≡ false = taken way_out.class (built_in way_out.class built_in_system) in
      let look = first_of (methods_declared olds listing) in
      let listed = first_of (listed_from 0 listing.methods ++ rows_from 0 method_rows) way_out in
      let declared : look way_out ≡ Some (record { target = target.Builtin way_out_index; is_static = true }) =
      first_of-append (given_from members.Method 0 olds) (listed_from 0 listing.methods ++ rows_from 0 method_rows) way_out
      ∙ ap (λ (o : Option Found). option_or o listed) (none_given members.Method 0 olds way_out system)
      ∙ first_of-append (listed_from 0 listing.methods) (rows_from 0 method_rows) way_out
      ∙ ap (λ (o : Option Found). option_or o (first_of (rows_from 0 method_rows) way_out)) (none_listed 0 listing.methods l.out) ∙ row_out in
      let first = system_first (l.others ++ heads) in
      ap (λ (d : List Declared). first_found (first_of d) way_out (search_order (all_classes listing new_files) way_out.class)) methods
      ∙ ap (first_found look way_out) (order way_out.class system_other ∙ ap (λ (xs : List ListedClass). search_order xs way_out.class) split ∙ first.1)
      ∙ ap (λ (o : Option Found). option_or o (first_found look way_out first.0)) declared

  -- ---- what is left to the library

  left : (head : ListedClass) → head.name ≢ state_name → left_to_library new_files listing head ≡ left_to_library olds listing head
  left head other =
      ap (λ (o : Option Name). if head.is_interface then None else o)
      (left_same vars listing olds news fits kept new_heads methods head.name (order head.name other) (supers head.name other))

  state_left : left_to_library new_files listing state_head ≡ None
  state_left =
      let given = taken object (built_in object built_in_object) in
      let none : left_in new_files listing state_name ≡ None = none_left vars listing olds news fits kept new_heads methods state_name
      (subst (AllByRecursion (λ (name : Name). is_known heads name ≡ false)) (sym state_order) (heads_own, (given, tt))) in
      ap (λ (b : Bool). if b then None else left_in new_files listing state_head.name) state_head_is_class ∙ ap (left_in new_files listing) state_head_name ∙ none

  pub is_added : IsAdded (map (λ (v : Var). v.is_bool) vars) olds new_files listing
  is_added = record {
    known = λ name e. ap (λ (xs : List ListedClass). is_known xs name) new_classes ∙ list_any-append (has_name name) all (state_head ∷ []) ∙ or_left (is_known all name) (is_known (state_head ∷ []) name) e;
    state = ap (λ (xs : List ListedClass). is_known xs state_name) new_classes ∙ list_any-append (has_name state_name) all (state_head ∷ [])
        ∙ or_right (is_known all state_name) (is_known (state_head ∷ []) state_name) (ap (λ (name : List ℕ). bytes_eq name state_name || false) state_head_name);
    order = order;
    methods = methods;
    fields = fields;
    variables = variables;
    literals = literals_kept (state_file vars) (state_strings vars) olds news fits kept;
    out = out;
    left = left;
    state_left = state_left;
  }

  -- the classes of the new files
  pub new_stand : classes_linked sides.Inlined (heads_of new_files) listing.classes new_files ≡ Ok tt
  new_stand =
      ap (λ (xs : List ListedClass). classes_linked sides.Inlined xs listing.classes new_files) new_heads
      ∙ classes_stand vars heads below_other listing.classes olds news fits kept good l.free heads_own (taken object (built_in object built_in_object))
