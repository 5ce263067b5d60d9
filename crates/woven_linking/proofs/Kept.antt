-- What weaving keeps of a class file: all but codes. The constants that it adds stand after the others, and none of them
-- is a string.
use Rattle.std.proofs.Common.{◌≡◌, ℕ, suc, List, [], ◌∷◌, ◌++◌, length, map, Option, Some, None, Ok, refl, sym, ap, subst, ◌∙◌, append_assoc, append-nil}
use Rattle.std.specs.Prelude.{slice_get, codes, ⊤}
use Rattle.std.specs.List.{AllByRecursion, filter_map}
use Rattle.mon_base.proofs.Reading.{bind_ok, ok_is}
use Rattle.class_codec.specs.declared.tree.Attr.{Attr}
use Rattle.class_codec.specs.declared.tree.Attr.TheVariants as attributes
use Rattle.class_codec.specs.declared.tree.ClassFile.{ClassFile}
use Rattle.class_codec.specs.declared.tree.Code.{Code}
use Rattle.class_codec.specs.declared.tree.Const.{Const}
use Rattle.class_codec.specs.declared.tree.Const.TheVariants as constants
use Rattle.class_codec.specs.declared.tree.Member.{Member}
use Rattle.bytecode_model.specs.declared.program.LinkedClass.{LinkedClass}
use Rattle.bytecode_model.specs.declared.program.Method.{Method}
use Rattle.bytecode_model.specs.declared.program.Program.{Program}
use Rattle.bytecode_model.specs.Conditions.{codes_of, code_in}
use Rattle.bytecode_model.proofs.Lists.{all_append}
use Rattle.offset_patch.specs.Plan.{Plan}
use Rattle.offset_patch.specs.declared.block.PoolWant.{PoolWant}
use Rattle.offset_patch.specs.declared.block.PoolWant.TheVariants as wants
use Rattle.offset_patch.specs.declared.fault.SpliceFault.{SpliceFault}
use Rattle.offset_patch.specs.Entries.{placed, place_of, entry, text, class, name_and_type, state_name, variable_name, variable_type, wanted, with_wants}
use Rattle.offset_patch.specs.Splicing.{wants_of}
use Rattle.class_weaving.proofs.CodeCases.{code_cases}
use Rattle.class_weaving.specs.State.{state_file}
use Rattle.conspec_tree.specs.declared.types.Var.{Var}
use Rattle.class_weaving.specs.declared.woven.Members.{Members}
use Rattle.class_weaving.specs.declared.woven.Woven.{Woven}
use Rattle.class_weaving.specs.Woven.{WovenCode, folded, sites_of, code_woven, first_code, attr_with, member_with, bare_put, code_put, body_woven, member_woven, members_woven, none_made, file_with, file_put, class_woven, classes_woven, nothing_woven, state_put, woven}
use Rattle.class_weaving.specs.Outcome.{Each}

-- ---- a pool that grew

abbrev pub IsPlain : Const → Type 0
IsPlain (constants.Str text) = ⊥
IsPlain other = ⊤

-- The new pool has constants after the old one's, and no string is among them.
pub record IsLonger (old new : List Const) : Type 0 where
  pub more : List Const
  pub is : new ≡ old ++ more
  pub plain : AllByRecursion IsPlain more

same_pool : (pool : List Const) → IsLonger pool pool
same_pool pool = record { more = []; is = sym (append-nil pool); plain = tt }

longer_then : (a b c : List Const) → IsLonger a b → IsLonger b c → IsLonger a c
longer_then a b c p q = record {
  more = p.more ++ q.more;
  is = q.is ∙ ap (λ (xs : List Const). xs ++ q.more) p.is ∙ append_assoc a p.more q.more;
  plain = all_append IsPlain p.more q.more p.plain q.plain;
}

entry_longer : (c : Const) → IsPlain c → (pool : List Const) → IsLonger pool (entry c pool).0
entry_longer c plain pool = by (place_of c pool) where
  by : (o : Option ℕ) → IsLonger pool (placed pool c o).0
  by None = record { more = c ∷ []; is = refl; plain = (plain, tt) }
  by (Some i) = same_pool pool

text_longer : (bytes : List ℕ) (pool : List Const) → IsLonger pool (text bytes pool).0
text_longer bytes pool = entry_longer (constants.Utf8 bytes) tt pool

class_longer : (name : List ℕ) (pool : List Const) → IsLonger pool (class name pool).0
class_longer name pool =
    let one = text name pool in
    longer_then pool one.0 (class name pool).0 (text_longer name pool) (entry_longer (constants.Class one.1) tt one.0)

member_longer : (name desc : List ℕ) (pool : List Const) → IsLonger pool (name_and_type name desc pool).0
member_longer name desc pool =
    let one = text name pool in
    let two = text desc one.0 in
    longer_then pool two.0 (name_and_type name desc pool).0 (longer_then pool one.0 two.0 (text_longer name pool) (text_longer desc one.0)) (entry_longer (constants.NameAndType one.1 two.1) tt two.0)

-- what has a member of a class
of_longer : (c : ℕ → ℕ → Const) → ((i j : ℕ) → IsPlain (c i j)) → (owner name desc : List ℕ) (pool : List Const)
    → IsLonger pool (entry (c (class owner pool).1 (name_and_type name desc (class owner pool).0).1) (name_and_type name desc (class owner pool).0).0).0
of_longer c plain owner name desc pool =
    let one = class owner pool in
    let two = name_and_type name desc one.0 in
    longer_then pool two.0 (entry (c one.1 two.1) two.0).0 (longer_then pool one.0 two.0 (class_longer owner pool) (member_longer name desc one.0)) (entry_longer (c one.1 two.1) (plain one.1 two.1) two.0)

wanted_longer : (want : PoolWant) (pool : List Const) → IsLonger pool (wanted want pool).0
wanted_longer wants.StateClass pool = class_longer state_name pool
wanted_longer (wants.StateField var is_bool) pool = of_longer constants.Field (λ i j. tt) state_name (variable_name var) (variable_type is_bool) pool
wanted_longer wants.Exit pool = of_longer constants.Method (λ i j. tt) (codes "java/lang/System") (codes "exit") (codes "(I)V") pool
wanted_longer (wants.Integer n) pool = entry_longer (constants.Integer n) tt pool

wants_longer : (wants : List PoolWant) (pool : List Const) → IsLonger pool (with_wants pool wants)
wants_longer [] pool = same_pool pool
wants_longer (want ∷ others) pool =
    let one = (wanted want pool).0 in
    longer_then pool one (with_wants one others) (wanted_longer want pool) (wants_longer others one)

-- ---- a member

-- All but the contents of codes is kept.
pub record IsKeptMember (old new : Member) : Type 0 where
  pub flags : new.flags ≡ old.flags
  pub name : new.name ≡ old.name
  pub desc : new.desc ≡ old.desc
  pub codes : length (codes_of new) ≡ length (codes_of old)

pub same_member : (m : Member) → IsKeptMember m m
same_member m = record { flags = refl; name = refl; desc = refl; codes = refl }

same_codes : (code : Code) (attrs : List Attr) → length (filter_map code_in (map (attr_with code) attrs)) ≡ length (filter_map code_in attrs)
same_codes code [] = refl
same_codes code (attributes.Code old ∷ attrs) = ap suc (same_codes code attrs)
same_codes code (attributes.Other other ∷ attrs) = same_codes code attrs

pub with_kept : (member : Member) (code : Code) → IsKeptMember member (member_with member code)
with_kept member code = record { flags = refl; name = refl; desc = refl; codes = same_codes code member.attrs }

-- What one member more makes of what was made.
pub record IsNext (made next : Members) (member : Member) : Type 0 where
  pub longer : IsLonger made.entries next.entries
  pub item : Member
  pub items : next.items ≡ made.items ++ item ∷ []
  pub kept : IsKeptMember member item

code_longer : (plan : Plan) (state : ℕ) (class : List ℕ) (number : ℕ) (pool : List Const) (m : Method) (code : Code) (w : WovenCode) → code_woven plan state class number pool m code ≡ Ok w → IsLonger pool w.entries
code_longer plan state class number pool m code w =
    code_cases plan state class number pool m code (λ x. IsLonger pool x.entries) w (λ some new put. wants_longer (wants_of (sites_of plan code.max_locals m)) pool) (λ none. same_pool pool)

bare_next : (made next : Members) (member : Member) (method : Option Method) → bare_put made member method ≡ next → IsNext made next member
bare_next made next member method is =
    subst (λ (x : Members). IsNext made x member) is (record { longer = same_pool made.entries; item = member; items = refl; kept = same_member member })

body_next : (plan : Plan) (state : ℕ) (class : List ℕ) (made next : Members) (member : Member) (m : Option Method) (c : Option Code) → body_woven plan state class made member m c ≡ Ok next → IsNext made next member
body_next plan state class made next member (Some m) (Some code) e =
    let one = bind_ok (code_woven plan state class made.number made.entries m code) (λ w. Ok (code_put made member w)) next e in
    subst (λ (x : Members). IsNext made x member) (ok_is SpliceFault (code_put made member one.0) next one.2) (record {
      longer = code_longer plan state class made.number made.entries m code one.0 one.1;
      item = member_with member one.0.made.code;
      items = refl;
      kept = with_kept member one.0.made.code;
    })
body_next plan state class made next member None c e = bare_next made next member None (ok_is SpliceFault (bare_put made member None) next e)
body_next plan state class made next member (Some m) None e = bare_next made next member (Some m) (ok_is SpliceFault (bare_put made member (Some m)) next e)

-- ---- a file

pub record IsKept (old new : ClassFile) : Type 0 where
  pub longer : IsLonger old.pool new.pool
  pub flags : new.flags ≡ old.flags
  pub this_class : new.this_class ≡ old.this_class
  pub super_class : new.super_class ≡ old.super_class
  pub interfaces : new.interfaces ≡ old.interfaces
  pub fields : new.fields ≡ old.fields
  pub methods : Each IsKeptMember old.methods new.methods

pub record AreKept (made last : Members) (members : List Member) : Type 0 where
  pub longer : IsLonger made.entries last.entries
  pub items : List Member
  pub are : last.items ≡ made.items ++ items
  pub kept : Each IsKeptMember members items

pub members_kept : (plan : Plan) (state : ℕ) (class : LinkedClass) (members : List Member) (made last : Members) → folded (member_woven plan state class) made members ≡ Ok last → AreKept made last members
members_kept plan state class [] made last e =
    subst (λ (x : Members). AreKept made x []) (ok_is SpliceFault made last e) (record { longer = same_pool made.entries; items = []; are = sym (append-nil made.items); kept = tt })
members_kept plan state class (member ∷ members) made last e =
    let one = bind_ok (member_woven plan state class made member) (λ next. folded (member_woven plan state class) next members) last e in
    let next = one.0 in
    let first = body_next plan state class.name made next member (slice_get class.methods made.number) (first_code member.attrs) one.1 in
    let rest = members_kept plan state class members next last one.2 in
    record {
      longer = longer_then made.entries next.entries last.entries first.longer rest.longer;
      items = first.item ∷ rest.items;
      are = rest.are ∙ ap (λ (xs : List Member). xs ++ rest.items) first.items ∙ append_assoc made.items (first.item ∷ []) rest.items;
      kept = (first.kept, rest.kept);
    }

-- What a class was woven to.
pub record IsFileOf (plan : Plan) (state : ℕ) (class : LinkedClass) (file : ClassFile) : Type 0 where
  pub made : Members
  pub all : members_woven plan state class (none_made class.file.pool) class.file.methods ≡ Ok made
  pub is : file_with class.file made.entries made.items ≡ file

pub file_kept : (plan : Plan) (state : ℕ) (class : LinkedClass) (file : ClassFile) → IsFileOf plan state class file → IsKept class.file file
file_kept plan state class file w =
    let k = members_kept plan state class class.file.methods (none_made class.file.pool) w.made w.all in
    subst (IsKept class.file) w.is (record {
      longer = k.longer;
      flags = refl;
      this_class = refl;
      super_class = refl;
      interfaces = refl;
      fields = refl;
      methods = subst (Each IsKeptMember class.file.methods) (sym k.are) k.kept;
    })

-- all but the pool and the methods
pub file_is : (plan : Plan) (state : ℕ) (class : LinkedClass) (file : ClassFile) → IsFileOf plan state class file → file ≡ file_with class.file file.pool file.methods
file_is plan state class file w = subst (λ (f : ClassFile). f ≡ file_with class.file f.pool f.methods) w.is refl

-- ---- the files that are made

classes_made : (plan : Plan) (state : ℕ) (made last : Woven) (classes : List LinkedClass) → folded (class_woven plan state) made classes ≡ Ok last
    → (files : List ClassFile) × (last.files ≡ made.files ++ files) × Each (IsFileOf plan state) classes files
classes_made plan state made last [] e = ([], ap (λ (w : Woven). w.files) (sym (ok_is SpliceFault made last e)) ∙ sym (append-nil made.files), tt)
classes_made plan state made last (class ∷ classes) e =
    let one = bind_ok (class_woven plan state made class) (λ next. folded (class_woven plan state) next classes) last e in
    let two = bind_ok (members_woven plan state class (none_made class.file.pool) class.file.methods) (λ done. Ok (file_put made class done)) one.0 one.1 in
    let file = file_with class.file two.0.entries two.0.items in
    let put : one.0.files ≡ made.files ++ file ∷ [] = ap (λ (w : Woven). w.files) (sym (ok_is SpliceFault (file_put made class two.0) one.0 two.2)) in
    let later = classes_made plan state one.0 last classes one.2 in (
      file ∷ later.0,
      later.1 ∙ ap (λ (xs : List ClassFile). xs ++ later.0) put ∙ append_assoc made.files (file ∷ []) later.0,
      (record { made = two.0; all = two.1; is = refl }, later.2),
    )

pub files_made : (plan : Plan) (vars : List Var) (old : Program) (made : Woven) → woven old plan vars ≡ Ok made
    → (files : List ClassFile) × (made.files ≡ files ++ state_file vars ∷ []) × Each (IsFileOf plan (length old.classes)) old.classes files
files_made plan vars old made e =
    let state = length old.classes in
    let one = bind_ok (classes_woven plan state nothing_woven old.classes) (λ w. Ok (state_put vars w)) made e in
    let all = classes_made plan state nothing_woven one.0 old.classes one.1 in
    let put : made.files ≡ one.0.files ++ state_file vars ∷ [] = ap (λ (w : Woven). w.files) (sym (ok_is SpliceFault (state_put vars one.0) made one.2)) in
    (all.0, put ∙ ap (λ (xs : List ClassFile). xs ++ state_file vars ∷ []) all.1, all.2)
