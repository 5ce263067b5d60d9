-- The main method has code.
use Rattle.std.proofs.Common.{◌≡◌, ℕ, zero, suc, ◌+◌, ◌≤◌, ◌<◌, Bool, true, false, cond, not, ◌&&◌, ◌||◌, List, [], ◌∷◌, length, Option, Some, None, Ok, refl, sym, ap, subst, ◌∙◌, arith}
use Rattle.std.specs.Prelude.{◌==◌, bytes_eq, slice_get, IsSomeAnd, option_and_then}
use Rattle.std.specs.List.{AllByRecursion, filter_map}
use Rattle.std.proofs.lemmas.Bool.Decides.{nat_tests}
use Rattle.mon_base.specs.Reading.{◌>>=◌}
use Rattle.mon_base.proofs.Reading.{bind_ok, ok_is}
use Rattle.class_codec.specs.declared.tree.Const.{Const}
use Rattle.class_codec.specs.declared.tree.Code.{Code}
use Rattle.class_codec.specs.declared.tree.Attr.{Attr}
use Rattle.class_codec.specs.declared.tree.Attr.TheVariants as attributes
use Rattle.class_codec.specs.declared.tree.Member.{Member}
use Rattle.class_codec.specs.declared.tree.ClassFile.{ClassFile}
use Rattle.class_codec.specs.Fits.{IsEncodable, FitsMember, FitsAttr}
use Rattle.insn_codec.specs.declared.fault.CodeFault.{CodeFault}
use Rattle.insn_codec.specs.declared.insn.Insn.{Insn}
use Rattle.insn_codec.specs.Reading.{Read, Finder, insn_at, insns_at, insns_of, among, any, ended, code_of}
use Rattle.mon_base.specs.Reading.{Place}
use Rattle.api_listing.specs.declared.types.Listing.{Listing}
use Rattle.class_linking.proofs.Parts.{class_parts, code_parts, method_parts}
use Rattle.bytecode_model.specs.declared.program.LinkedClass.{LinkedClass}
use Rattle.bytecode_model.specs.declared.program.Method.{Method}
use Rattle.bytecode_model.specs.Heads.{class_at, name_of, desc_of, is_abstract, is_static, is_member, main_name, main_desc, maker}
use Rattle.bytecode_model.specs.Conditions.{code_in, codes_of, has_good_flags, is_good_initialiser, is_begun_unlocked, describes_method, has_its_code}
use Rattle.class_linking.specs.Linking.{class_with, classes_with, code_linked, body_linked, method_linked, methods_linked, if_static, static_main, main_from, main_of, each_linked}
use Rattle.bytecode_model.proofs.Lists.{some_is, all_get}
use Rattle.class_linking.proofs.Loop.{linked_at}

-- ---- tests

pub and_left : (a b : Bool) → (a && b) ≡ true → a ≡ true
and_left true b e = refl
and_left false b e = e

pub and_right : (a b : Bool) → (a && b) ≡ true → b ≡ true
and_right true b e = e
and_right false b e = absurd cc

-- ---- where main is

-- the member of this place is static
record Stands (at i : ℕ) (members : List Member) : Type 0 where
  place : ℕ
  member : Member
  is : i ≡ at + place
  found : slice_get members place ≡ Some member
  static : is_static member.flags ≡ true

pub pair_first : (a b c d : ℕ) → ◌≡◌ {A = Option (ℕ × ℕ)} (Some (a, b)) (Some (c, d)) → a ≡ c
pair_first a b c d e =
    let pair : ℕ → ℕ → ℕ × ℕ = λ x y. (x, y) in
    ap (λ (p : ℕ × ℕ). p.0) (some_is (pair a b) (pair c d) e)

pub pair_second : (a b c d : ℕ) → ◌≡◌ {A = Option (ℕ × ℕ)} (Some (a, b)) (Some (c, d)) → b ≡ d
pair_second a b c d e =
    let pair : ℕ → ℕ → ℕ × ℕ = λ x y. (x, y) in
    ap (λ (p : ℕ × ℕ). p.1) (some_is (pair a b) (pair c d) e)

static_at : (class : ℕ) (pool : List Const) (at : ℕ) (members : List Member) (c m : ℕ) → static_main class pool at members ≡ Some (c, m) → (class ≡ c) × Stands at m members
static_at class pool at [] c m e = absurd cc
static_at class pool at (member ∷ members) c m e = by (is_member pool main_name main_desc member) e (static_at class pool (at + 1) members c m) where
  one : (b : Bool) → is_static member.flags ≡ b → cond {A = Option (ℕ × ℕ)} b (Some (class, at)) None ≡ Some (c, m) → (class ≡ c) × Stands at m (member ∷ members)
  one true s e =
      let same : at ≡ m = pair_second class at c m e in
      (pair_first class at c m e, record { place = 0; member = member; is = omega (arith, same); found = refl; static = s })
  one false s e = absurd cc

  by : (b : Bool) → cond b (if_static class at member) (static_main class pool (at + 1) members) ≡ Some (c, m)
      → (static_main class pool (at + 1) members ≡ Some (c, m) → (class ≡ c) × Stands (at + 1) m members) → (class ≡ c) × Stands at m (member ∷ members)
  by true e later = one (is_static member.flags) refl e
  by false e later =
      let l = later e in
      (l.0, record { place = suc l.1.place; member = l.1.member; is = omega (arith, l.1.is); found = l.1.found; static = l.1.static })

-- the class of this place has it
record Begins (at c m : ℕ) (files : List ClassFile) : Type 0 where
  place : ℕ
  file : ClassFile
  is : c ≡ at + place
  found : slice_get files place ≡ Some file
  main : Stands 0 m file.methods

begins_at : (at : ℕ) (files : List ClassFile) (main : List ℕ) (c m : ℕ) → main_from at files main ≡ Some (c, m) → Begins at c m files
begins_at at [] main c m e = absurd cc
begins_at at (file ∷ files) main c m e = by (bytes_eq (class_at file.pool file.this_class) main) e (begins_at (at + 1) files main c m) where
  by : (b : Bool) → cond b (static_main at file.pool 0 file.methods) (main_from (at + 1) files main) ≡ Some (c, m)
      → (main_from (at + 1) files main ≡ Some (c, m) → Begins (at + 1) c m files) → Begins at c m (file ∷ files)
  by true e later =
      let s = static_at at file.pool 0 file.methods c m e in
      record { place = 0; file = file; is = omega (arith, s.0); found = refl; main = s.1 }
  by false e later =
      let l = later e in
      record { place = suc l.place; file = l.file; is = omega (arith, l.is); found = l.found; main = l.main }

-- ---- code

-- bytes have an instruction
first_some : (find : Finder) (bytes : List ℕ) (b : ℕ) (all : List Insn × Place) → insns_at find (length (b ∷ bytes)) (record { at = 0; rest = b ∷ bytes }) ≡ Ok all → 0 < length all.0
unfolding insns_at
first_some find bytes b all e =
    let start : Place = record { at = 0; rest = b ∷ bytes } in
    let tail : Read (List Insn) = insn_at find 0 start >>= λ first. insns_at find (length bytes) first.1 >>= λ others. Ok (first.0 ∷ others.0, others.1) in
    let none : Read (List Insn) = Ok ([], start) in
    let test : (length (b ∷ bytes) == 0) ≡ false = grind (arith, nat_tests) in
    let more : tail ≡ Ok all = ap (λ (t : Bool). cond t none tail) (sym test) ∙ e in
    let first = bind_ok (insn_at find 0 start) (λ first. insns_at find (length bytes) first.1 >>= λ others. Ok (first.0 ∷ others.0, others.1)) all more in
    let others = bind_ok (insns_at find (length bytes) first.0.1) (λ others. Ok (first.0.0 ∷ others.0, others.1)) all first.2 in
    let made : List Insn × Place = (first.0.0 ∷ others.0.0, others.0.1) in
    subst (λ (x : List Insn × Place). 0 < length x.0) (ok_is CodeFault made all others.2) (omega arith)

some_insns : (find : Finder) (code : List ℕ) (insns : List Insn) → 1 ≤ length code → insns_of find code ≡ Ok insns → 0 < length insns
unfolding insns_of
some_insns find [] insns some e = absurd (omega arith)
some_insns find (b ∷ bytes) insns some e =
    let all = bind_ok (insns_at find (length (b ∷ bytes)) (record { at = 0; rest = b ∷ bytes })) (λ xs. Ok xs.0) insns e in
    subst (λ (xs : List Insn). 0 < length xs) (ok_is CodeFault all.0.0 insns all.2) (first_some find bytes b all.0 all.1)

pub code_some : (code : List ℕ) (insns : List Insn) → 1 ≤ length code → code_of code ≡ Ok insns → 0 < length insns
unfolding code_of
code_some code insns some e =
    let a = bind_ok (insns_of any code) (λ shapes. insns_of (among shapes) code >>= λ all. ended 0 all >>= λ _. Ok all) insns e in
    let b = bind_ok (insns_of (among a.0) code) (λ all. ended 0 all >>= λ _. Ok all) insns a.2 in
    let c = bind_ok (ended 0 b.0) (λ _. Ok b.0) insns b.2 in
    let is : b.0 ≡ insns = ok_is CodeFault b.0 insns c.2 in
    subst (λ (xs : List Insn). 0 < length xs) is (some_insns (among a.0) code b.0 some b.1)

-- the first code of a method has a byte
pub first_code : (pool : List Const) (attrs : List Attr) → AllByRecursion (FitsAttr pool true) attrs → length (filter_map code_in attrs) ≡ 1
    → (code : Code) × (slice_get (filter_map code_in attrs) 0 ≡ Some code) × (1 ≤ length code.code)
first_code pool [] fits one = absurd (omega arith)
first_code pool (attributes.Code code ∷ attrs) fits one = (code, refl, fits.0.1.some)
first_code pool (attributes.Other other ∷ attrs) fits one = first_code pool attrs fits.1 one

-- a static method is not abstract
has_one : (abstract static maker : Bool) (n : ℕ) → static ≡ true → not (abstract && (static || maker)) ≡ true → (n == cond abstract 0 1) ≡ true → n ≡ 1
has_one true true maker n s good its = absurd cc
has_one abstract false maker n s good its = absurd cc
has_one false true maker n s good its = grind (arith, nat_tests)

module _ (files : List ClassFile) (listing : Listing) (file : ClassFile) (at : ℕ) (member : Member) where
  body_some : (code : Code) (method : Method) → 1 ≤ length code.code → code_linked files listing file at member code ≡ Ok method → 0 < length method.insns
  body_some code method some e =
      let parts = code_parts files listing file at member code method e in
      subst (λ (m : Method). 0 < length m.insns) parts.is (code_some code.code parts.insns some parts.read)

  method_some : (method : Method) → FitsMember file.pool true member → is_static member.flags ≡ true → method_linked files listing file at member ≡ Ok method → 0 < length method.insns
  method_some method fits static e =
      let pool = file.pool in
      let parts = method_parts files listing file at member method e in
      let flags = has_good_flags pool member in
      let initialiser = is_good_initialiser pool member in
      let begun = is_begun_unlocked pool member in
      let described = describes_method (desc_of pool member) in
      let its = has_its_code member in
      let good = and_left flags (initialiser && (begun && (described && its))) parts.allowed in
      let one = and_right described its (and_right begun (described && its) (and_right initialiser (begun && (described && its)) (and_right flags (initialiser && (begun && (described && its))) parts.allowed))) in
      let count : length (codes_of member) ≡ 1 = has_one (is_abstract member.flags) (is_static member.flags) (bytes_eq (name_of pool member) maker) (length (codes_of member)) static (and_right _ _ good) one in
      let first = first_code pool member.attrs fits.attrs.each count in
      let body : body_linked files listing file at member (Some first.0) ≡ Ok method = ap (λ (o : Option Code). body_linked files listing file at member o) (sym first.1) ∙ parts.body in
      body_some first.0 method first.2 body

-- ---- the program

pub class_at_place : (files : List ClassFile) (methods : List (List Method)) (i : ℕ) (file : ClassFile) (ms : List Method) → slice_get files i ≡ Some file → slice_get methods i ≡ Some ms
    → slice_get (classes_with files methods) i ≡ Some (class_with file ms)
class_at_place [] methods i file ms f m = absurd cc
class_at_place (file' ∷ files) [] i file ms f m = absurd cc
class_at_place (file' ∷ files) (ms' ∷ methods) zero file ms f m =
    ap (λ (x : ClassFile). Some (class_with x ms')) (some_is file' file f) ∙ ap (λ (x : List Method). Some (class_with file x)) (some_is ms' ms m)
class_at_place (file' ∷ files) (ms' ∷ methods) (suc i) file ms f m = class_at_place files methods i file ms f m

abbrev HasCode : Option Method → Type 0
HasCode o = IsSomeAnd o (λ (m : Method). 0 < length m.insns)

abbrev method_at : List LinkedClass → ℕ → ℕ → Option Method
method_at classes c m = option_and_then (λ (x : LinkedClass). slice_get x.methods m) (slice_get classes c)

pub main_has_code : (files : List ClassFile) (listing : Listing) (main : List ℕ) (methods : List (List Method)) (c m : ℕ) → AllByRecursion IsEncodable files → each_linked files listing files ≡ Ok methods
    → main_of files main ≡ Some (c, m) → HasCode (method_at (classes_with files methods) c m)
main_has_code files listing main methods c m fit linked begin =
    let b = begins_at 0 files main c m begin in
    let c_is : b.place ≡ c = omega (arith, b.is) in
    let m_is : b.main.place ≡ m = omega (arith, b.main.is) in
    let ms = linked_at (λ (at : ℕ). methods_linked files listing) 0 files methods b.place b.file linked b.found in
    let one = linked_at (method_linked files listing b.file) 0 b.file.methods ms.0 b.main.place b.main.member (class_parts files listing b.file ms.0 ms.2).each b.main.found in
    let file_fits = all_get IsEncodable files b.place b.file fit b.found in
    let fits = all_get (FitsMember b.file.pool true) b.file.methods b.main.place b.main.member file_fits.methods.each b.main.found in
    let some = method_some files listing b.file (0 + b.main.place) b.main.member one.0 fits b.main.static one.2 in
    let class : slice_get (classes_with files methods) c ≡ Some (class_with b.file ms.0) = subst (λ (n : ℕ). slice_get (classes_with files methods) n ≡ Some (class_with b.file ms.0)) c_is (class_at_place files methods b.place b.file ms.0 b.found ms.1) in
    let found : method_at (classes_with files methods) c m ≡ Some one.0 =
    ap (λ (o : Option LinkedClass). option_and_then (λ (x : LinkedClass). slice_get x.methods m) o) class ∙ subst (λ (n : ℕ). slice_get ms.0 n ≡ Some one.0) m_is one.1 in
    subst HasCode (sym found) some
