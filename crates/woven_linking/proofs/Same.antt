-- What class files say and declare stays the same where they are kept.
use Rattle.std.proofs.Common.{◌≡◌, ℕ, ◌+◌, Bool, true, false, List, [], ◌∷◌, ◌++◌, length, map, Option, Some, None, refl, sym, ap, subst, ◌∙◌, append_assoc, append-nil, arith}
use Rattle.std.specs.Prelude.{bytes_eq, if◌then◌else◌}
use Rattle.std.specs.List.{AllByRecursion, filter_map, flat_map, fold}
use Rattle.std.proofs.lemmas.List.Elements.{filter_map-append}
use Rattle.class_codec.specs.declared.pool.ConstKind.TheVariants as kinds
use Rattle.class_codec.specs.declared.tree.ClassFile.{ClassFile}
use Rattle.class_codec.specs.declared.tree.Const.{Const}
use Rattle.class_codec.specs.declared.tree.Const.TheVariants as constants
use Rattle.class_codec.specs.declared.tree.Member.{Member}
use Rattle.class_codec.specs.Fits.{IsEncodable, FitsMember, FitsPool, IsIndex, IsNamed}
use Rattle.class_codec.specs.Pool.{names, utf8_at}
use Rattle.api_listing.specs.declared.types.ListedClass.{ListedClass}
use Rattle.bytecode_model.specs.declared.members.MemberKind.{MemberKind}
use Rattle.bytecode_model.specs.declared.members.MemberKind.TheVariants as members
use Rattle.bytecode_model.specs.Heads.{text_at, class_at, head_of, heads_of, is_interface, is_static, name_of, desc_of}
use Rattle.bytecode_model.specs.Members.{Declared, member_declared, members_from, file_members, given_from, target_in}
use Rattle.bytecode_model.specs.Operands.{text_of_string, strings_in, literals_of}
use Rattle.class_linking.specs.Linking.{static_main, main_from}
use Rattle.bytecode_model.specs.SearchOrder.{Name, with_name}
use Rattle.conspec_tree.specs.declared.types.Var.{Var}
use Rattle.class_weaving.specs.State.{values_from, state_file}
use Rattle.class_weaving.specs.Outcome.{Each}
use Rattle.woven_linking.proofs.Kept.{IsLonger, IsPlain, IsKeptMember, same_member, IsKept}
use Rattle.offset_patch.proofs.PoolFits.{utf8_on}
use Rattle.woven_linking.proofs.Texts.{text_on, class_on}

-- ---- names

pub class_longer : (old new : List Const) (i : ℕ) → IsLonger old new → FitsPool old → names kinds.Class old i ≡ true → class_at new i ≡ class_at old i
class_longer old new i k fits e = ap (λ (p : List Const). class_at p i) k.is ∙ class_on old k.more i fits e

pub text_longer : (old new : List Const) (i : ℕ) → IsLonger old new → names kinds.Utf8 old i ≡ true → text_at new i ≡ text_at old i
text_longer old new i k e = ap (λ (p : List Const). text_at p i) k.is ∙ text_on old k.more i e

classes_longer : (old new : List Const) (is : List ℕ) → IsLonger old new → FitsPool old → AllByRecursion (IsIndex kinds.Class old) is → map (class_at new) is ≡ map (class_at old) is
classes_longer old new [] k fits h = refl
classes_longer old new (i ∷ is) k fits h = rw (class_longer old new i k fits h.0.named, classes_longer old new is k fits h.1) refl

pub head_kept : (old new : ClassFile) → IsEncodable old → IsKept old new → head_of new ≡ head_of old
head_kept old new fits k =
    let made : List ℕ → List ℕ → List (List ℕ) → Bool → ListedClass = λ name parent interfaces flag. record { name = name; parent = parent; interfaces = interfaces; is_interface = flag } in
    let name : class_at new.pool new.this_class ≡ class_at old.pool old.this_class = ap (class_at new.pool) k.this_class ∙ class_longer old.pool new.pool old.this_class k.longer fits.pool fits.this_class.named in
    let parent : class_at new.pool new.super_class ≡ class_at old.pool old.super_class = ap (class_at new.pool) k.super_class ∙ class_longer old.pool new.pool old.super_class k.longer fits.pool fits.super_class.named in
    let interfaces : map (class_at new.pool) new.interfaces ≡ map (class_at old.pool) old.interfaces =
    ap (map (class_at new.pool)) k.interfaces ∙ classes_longer old.pool new.pool old.interfaces k.longer fits.pool fits.interfaces.each in
    let i = map (class_at new.pool) new.interfaces in
    let f = is_interface new.flags in
    ap (λ (x : List ℕ). made x (class_at new.pool new.super_class) i f) name ∙ ap (λ (x : List ℕ). made (class_at old.pool old.this_class) x i f) parent
    ∙ ap (λ (x : List (List ℕ)). made (class_at old.pool old.this_class) (class_at old.pool old.super_class) x f) interfaces
    ∙ ap (λ (x : ℕ). made (class_at old.pool old.this_class) (class_at old.pool old.super_class) (map (class_at old.pool) old.interfaces) (is_interface x)) k.flags

pub heads_kept : (olds news : List ClassFile) → AllByRecursion IsEncodable olds → Each IsKept olds news → heads_of news ≡ heads_of olds
heads_kept [] [] fits k = refl
heads_kept [] (new ∷ news) fits k = absurd k
heads_kept (old ∷ olds) [] fits k = absurd k
heads_kept (old ∷ olds) (new ∷ news) fits k = rw (head_kept old new fits.0 k.0, heads_kept olds news fits.1 k.1) refl

pub name_kept : (old new : List Const) (m n : Member) (b : Bool) → IsLonger old new → FitsMember old b m → IsKeptMember m n → name_of new n ≡ name_of old m
name_kept old new m n b k fits same = ap (text_at new) same.name ∙ text_longer old new m.name k fits.name.named

pub desc_kept : (old new : List Const) (m n : Member) (b : Bool) → IsLonger old new → FitsMember old b m → IsKeptMember m n → desc_of new n ≡ desc_of old m
desc_kept old new m n b k fits same = ap (text_at new) same.desc ∙ text_longer old new m.desc k fits.desc.named

-- ---- what is declared

module _ (kind : MemberKind) (name : Name) (old new : List Const) (k : IsLonger old new) (b : Bool) (class : ℕ) where
  declared_kept : (i : ℕ) (m n : Member) → FitsMember old b m → IsKeptMember m n → member_declared kind name new class i n ≡ member_declared kind name old class i m
  declared_kept i m n fits same =
      let made : List ℕ → List ℕ → ℕ → Declared = λ x y f. (record { class = name; name = x; desc = y }, record { target = target_in kind class i; is_static = is_static f }) in
      ap (λ (x : List ℕ). made x (desc_of new n) n.flags) (name_kept old new m n b k fits same) ∙ ap (λ (x : List ℕ). made (name_of old m) x n.flags) (desc_kept old new m n b k fits same)
      ∙ ap (made (name_of old m) (desc_of old m)) same.flags

  all_declared : (i : ℕ) (ms ns : List Member) → AllByRecursion (FitsMember old b) ms → Each IsKeptMember ms ns → members_from kind name new class i ns ≡ members_from kind name old class i ms
  all_declared i [] [] fits same = refl
  all_declared i [] (n ∷ ns) fits same = absurd same
  all_declared i (m ∷ ms) [] fits same = absurd same
  all_declared i (m ∷ ms) (n ∷ ns) fits same = rw (declared_kept i m n fits.0 same.0, all_declared (i + 1) ms ns fits.1 same.1) refl

same_members : (ms : List Member) → Each IsKeptMember ms ms
same_members [] = tt
same_members (m ∷ ms) = (same_member m, same_members ms)

file_declares : (kind : MemberKind) (class : ℕ) (old new : ClassFile) → IsEncodable old → IsKept old new → file_members kind class new ≡ file_members kind class old
file_declares members.Method class old new fits k =
    ap (λ (name : Name). members_from members.Method name new.pool class 0 new.methods) (ap (λ (c : ListedClass). c.name) (head_kept old new fits k))
    ∙ all_declared members.Method (class_at old.pool old.this_class) old.pool new.pool k.longer true class 0 old.methods new.methods fits.methods.each k.methods
file_declares members.Field class old new fits k =
    ap (λ (name : Name). members_from members.Field name new.pool class 0 new.fields) (ap (λ (c : ListedClass). c.name) (head_kept old new fits k))
    ∙ all_declared members.Field (class_at old.pool old.this_class) old.pool new.pool k.longer false class 0 old.fields new.fields fits.fields.each
    (subst (Each IsKeptMember old.fields) (sym k.fields) (same_members old.fields))

-- and after the files stands one more
pub given_kept : (kind : MemberKind) (s : ClassFile) (class : ℕ) (olds news : List ClassFile) → AllByRecursion IsEncodable olds → Each IsKept olds news
    → given_from kind class (news ++ s ∷ []) ≡ given_from kind class olds ++ file_members kind (class + length olds) s
given_kept kind s class [] [] fits k =
    let n : class ≡ class + 0 = omega arith in
    append-nil (file_members kind class s) ∙ ap (λ (i : ℕ). file_members kind i s) n
given_kept kind s class [] (new ∷ news) fits k = absurd k
given_kept kind s class (old ∷ olds) [] fits k = absurd k
given_kept kind s class (old ∷ olds) (new ∷ news) fits k =
    let here = file_members kind class old in
    let later = given_from kind (class + 1) olds in
    let n : class + 1 + length olds ≡ class + length (old ∷ olds) = omega arith in
    let rest = given_kept kind s (class + 1) olds news fits.1 k.1 ∙ ap (λ (i : ℕ). later ++ file_members kind i s) n in
    ap (λ (xs : List Declared). xs ++ given_from kind (class + 1) (news ++ s ∷ [])) (file_declares kind class old new fits.0 k.0) ∙ ap (λ (xs : List Declared). here ++ xs) rest
    ∙ sym (append_assoc here later (file_members kind (class + length (old ∷ olds)) s))

-- ---- literals

string_kept : (old new : List Const) → IsLonger old new → (c : Const) → IsNamed old c → text_of_string new c ≡ text_of_string old c
string_kept old new k (constants.Str text) named = ap (λ (p : List Const). utf8_at p text) k.is ∙ utf8_on old k.more text named
string_kept old new k c named = refl

strings_kept : (old new : List Const) → IsLonger old new → (cs : List Const) → AllByRecursion (IsNamed old) cs → filter_map (text_of_string new) cs ≡ filter_map (text_of_string old) cs
strings_kept old new k [] named = refl
strings_kept old new k (c ∷ cs) named = rw (string_kept old new k c named.0, strings_kept old new k cs named.1) refl

no_string : (pool : List Const) (c : Const) → IsPlain c → text_of_string pool c ≡ None
no_string pool (constants.Str text) plain = absurd plain
no_string pool c plain = refl

no_strings : (pool cs : List Const) → AllByRecursion IsPlain cs → filter_map (text_of_string pool) cs ≡ []
no_strings pool [] plain = refl
no_strings pool (c ∷ cs) plain = rw (no_string pool c plain.0) (no_strings pool cs plain.1)

file_strings : (old new : ClassFile) → IsEncodable old → IsKept old new → strings_in new ≡ strings_in old
file_strings old new fits k =
    let f = text_of_string new.pool in
    ap (filter_map f) k.longer.is ∙ filter_map-append f old.pool k.longer.more
    ∙ ap (λ (xs : List (List ℕ)). filter_map f old.pool ++ xs) (no_strings new.pool k.longer.more k.longer.plain) ∙ append-nil (filter_map f old.pool)
    ∙ strings_kept old.pool new.pool k.longer old.pool fits.pool.named

texts_kept : (s : ClassFile) → strings_in s ≡ [] → (olds news : List ClassFile) → AllByRecursion IsEncodable olds → Each IsKept olds news → flat_map strings_in (news ++ s ∷ []) ≡ flat_map strings_in olds
texts_kept s none [] [] fits k = ap (λ (xs : List (List ℕ)). xs ++ []) none
texts_kept s none [] (new ∷ news) fits k = absurd k
texts_kept s none (old ∷ olds) [] fits k = absurd k
texts_kept s none (old ∷ olds) (new ∷ news) fits k = rw (file_strings old new fits.0 k.0, texts_kept s none olds news fits.1 k.1) refl

pub literals_kept : (s : ClassFile) → strings_in s ≡ [] → (olds news : List ClassFile) → AllByRecursion IsEncodable olds → Each IsKept olds news → literals_of (news ++ s ∷ []) ≡ literals_of olds
literals_kept s none olds news fits k = ap (fold with_name []) (texts_kept s none olds news fits k)

-- ---- main

static_kept : (class : ℕ) (old new : List Const) → IsLonger old new → (i : ℕ) (ms ns : List Member) → AllByRecursion (FitsMember old true) ms → Each IsKeptMember ms ns
    → static_main class new i ns ≡ static_main class old i ms
static_kept class old new k i [] [] fits same = refl
static_kept class old new k i [] (n ∷ ns) fits same = absurd same
static_kept class old new k i (m ∷ ms) [] fits same = absurd same
static_kept class old new k i (m ∷ ms) (n ∷ ns) fits same =
    rw (name_kept old new m n true k fits.0 same.0, desc_kept old new m n true k fits.0 same.0, same.0.flags, static_kept class old new k (i + 1) ms ns fits.1 same.1) refl

pub main_kept : (s : ClassFile) (main : List ℕ) (begin : ℕ × ℕ) (class : ℕ) (olds news : List ClassFile) → AllByRecursion IsEncodable olds → Each IsKept olds news
    → main_from class olds main ≡ Some begin → main_from class (news ++ s ∷ []) main ≡ Some begin
main_kept s main begin class [] [] fits k e = absurd cc
main_kept s main begin class [] (new ∷ news) fits k e = absurd k
main_kept s main begin class (old ∷ olds) [] fits k e = absurd k
main_kept s main begin class (old ∷ olds) (new ∷ news) fits k e =
    let name : class_at new.pool new.this_class ≡ class_at old.pool old.this_class = ap (λ (c : ListedClass). c.name) (head_kept old new fits.0 k.0) in
    let one : main_from class (new ∷ (news ++ s ∷ [])) main ≡ (if bytes_eq (class_at old.pool old.this_class) main then static_main class old.pool 0 old.methods else main_from (class + 1) (news ++ s ∷ []) main) =
    ap (λ (x : List ℕ). if bytes_eq x main then static_main class new.pool 0 new.methods else main_from (class + 1) (news ++ s ∷ []) main) name
    ∙ ap (λ (x : Option (ℕ × ℕ)). if bytes_eq (class_at old.pool old.this_class) main then x else main_from (class + 1) (news ++ s ∷ []) main)
    (static_kept class old.pool new.pool k.0.longer 0 old.methods new.methods fits.0.methods.each k.0.methods) in
    one ∙ by (bytes_eq (class_at old.pool old.this_class) main) e (main_kept s main begin (class + 1) olds news fits.1 k.1) where
      by : (b : Bool) → (if b then static_main class old.pool 0 old.methods else main_from (class + 1) olds main) ≡ Some begin
          → (main_from (class + 1) olds main ≡ Some begin → main_from (class + 1) (news ++ s ∷ []) main ≡ Some begin)
          → (if b then static_main class old.pool 0 old.methods else main_from (class + 1) (news ++ s ∷ []) main) ≡ Some begin
      by true e rest = e
      by false e rest = rest e

-- ---- conspec/State

pub state_methods : (vars : List Var) (class : ℕ) → file_members members.Method class (state_file vars) ≡ []
state_methods vars class = refl

values_plain : (index : ℕ) (vars : List Var) → AllByRecursion IsPlain (values_from index vars)
values_plain index [] = tt
values_plain index (var ∷ vars) = (tt, (tt, values_plain (index + 1) vars))

pub state_strings : (vars : List Var) → strings_in (state_file vars) ≡ []
state_strings vars =
    let pool = (state_file vars).pool in
    no_strings pool pool (tt, (tt, (tt, (tt, (tt, (tt, (tt, (tt, values_plain 0 vars))))))))
