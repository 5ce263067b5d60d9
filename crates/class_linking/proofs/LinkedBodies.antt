-- What is known of each method that a member of a file links to.
use Rattle.std.proofs.Common.{◌≡◌, ℕ, ◌<◌, ◌≤◌, Bool, true, false, cond, not, ◌&&◌, ◌||◌, List, [], ◌∷◌, length, Option, Some, None, Result, Ok, Err, refl, sym, ap, ap₂, subst, ◌∙◌, arith}
use Rattle.std.specs.Prelude.{◌==◌, bytes_eq, slice_get, nat_lt}
use Rattle.std.specs.List.{AllByRecursion}
use Rattle.std.proofs.lemmas.Bool.Decides.{nat_tests}
use Rattle.std.proofs.lemmas.Slice.Eq.{bytes_eq-Decides}
use Rattle.mon_base.specs.Reading.{◌>>=◌}
use Rattle.mon_base.proofs.Reading.{bind_ok, ok_is}
use Rattle.class_codec.specs.declared.tree.Const.{Const}
use Rattle.class_codec.specs.declared.tree.Code.{Code}
use Rattle.class_codec.specs.declared.tree.TableEntry.{TableEntry}
use Rattle.class_codec.specs.declared.tree.Member.{Member}
use Rattle.class_codec.specs.declared.tree.ClassFile.{ClassFile}
use Rattle.class_codec.specs.Fits.{FitsMember}
use Rattle.insn_codec.specs.Encoding.{starts_of}
use Rattle.insn_codec.proofs.InsnForms.{passed}
use Rattle.api_listing.specs.declared.descriptor.FieldType.{FieldType}
use Rattle.api_listing.specs.declared.types.ListedClass.{ListedClass}
use Rattle.api_listing.specs.declared.types.Listing.{Listing}
use Rattle.api_listing.specs.Descriptor.{whole_type}
use Rattle.api_listing.specs.Fault.{Read}
use Rattle.api_listing.specs.Listing.{is_known}
use Rattle.class_linking.specs.declared.fault.LinkFault.{LinkFault}
use Rattle.class_linking.specs.declared.operand_fault.OperandFault.{OperandFault}
use Rattle.class_linking.specs.declared.operand_fault.OperandFault.TheVariants as operand
use Rattle.bytecode_model.specs.declared.program.Handler.{Handler}
use Rattle.bytecode_model.specs.declared.program.Method.{Method}
use Rattle.bytecode_model.specs.declared.program.Target.{Target}
use Rattle.bytecode_model.specs.declared.program.Target.TheVariants as target
use Rattle.bytecode_model.specs.Arrays.{is_array}
use Rattle.bytecode_model.specs.Conditions.{is_allowed, has_good_flags, is_good_initialiser, is_begun_unlocked, describes_method, has_its_code, is_run, overrides, codes_of}
use Rattle.class_linking.specs.Handlers.{caught, handler_linked, handlers_linked}
use Rattle.bytecode_model.specs.Heads.{class_at, head_of, all_classes, name_of, desc_of, is_abstract, is_static, is_native, is_synchronized, main_name, main_desc, maker, initialiser, takes_nothing}
use Rattle.class_linking.specs.Linking.{bare, with_code, code_linked, body_linked, method_linked}
use Rattle.class_linking.specs.Operands.{class_linked, array_linked, told_at}
use Rattle.bytecode_model.specs.Operands.{element_is_known, known_in}
use Rattle.bytecode_model.specs.Layout.{has_code}
use Rattle.bytecode_model.specs.LinkedClasses.{IsOfEntry, IsOfCode, IsOfMember, IsAllowed}
use Rattle.bytecode_model.specs.Targets.{is_type, item_is_known}
use Rattle.class_linking.proofs.Beginning.{and_left, and_right, first_code, code_some}
use Rattle.class_linking.proofs.Parts.{handler_parts, code_parts, method_parts}
use Rattle.bytecode_model.proofs.Lists.{some_is, not_true}
use Rattle.class_linking.proofs.Loop.{same_length, each_of, linked_at}

none_there : {X : Type 0} (xs : List X) → length xs ≡ 0 → slice_get xs 0 ≡ None
none_there [] n = refl
none_there (x ∷ xs) n = absurd (omega (arith, n))

only_one : {X : Type 0} (xs : List X) (x : X) → length xs ≡ 1 → slice_get xs 0 ≡ Some x → xs ≡ x ∷ []
only_one [] x n e = absurd cc
only_one (y ∷ []) x n e = ap (λ z. z ∷ []) (some_is y x e)
only_one (y ∷ z ∷ xs) x n e = absurd (omega (arith, n))

front_same : {X : Type 0} (x y : X) → x ∷ [] ≡ y ∷ [] → x ≡ y
front_same x y e = cc

not_one : {X : Type 0} (x : X) (xs : List X) → length xs ≡ 0 → xs ≡ x ∷ [] → ⊥
not_one x [] n e = absurd cc
not_one x (y ∷ xs) n e = absurd (omega (arith, n))

-- ---- what is allowed

-- the parts of the condition
record AreAllowed (pool : List Const) (member : Member) : Type 0 where
  good : has_good_flags pool member ≡ true
  ready : is_good_initialiser pool member ≡ true
  begun : is_begun_unlocked pool member ≡ true
  described : describes_method (desc_of pool member) ≡ true
  its : has_its_code member ≡ true

parts_of : (pool : List Const) (member : Member) → is_allowed pool member ≡ true → AreAllowed pool member
parts_of pool member e =
    let flags = has_good_flags pool member in
    let initialiser = is_good_initialiser pool member in
    let begun = is_begun_unlocked pool member in
    let described = describes_method (desc_of pool member) in
    let its = has_its_code member in
    let second = and_right flags (initialiser && (begun && (described && its))) e in
    let third = and_right initialiser (begun && (described && its)) second in
    let fourth = and_right begun (described && its) third in
    record {
      good = and_left flags (initialiser && (begun && (described && its))) e;
      ready = and_left initialiser (begun && (described && its)) second;
      begun = and_left begun (described && its) third;
      described = and_left described its fourth;
      its = and_right described its fourth;
    }

pub allowed_is : (pool : List Const) (member : Member) (method : Method) → IsOfMember pool member method → is_allowed pool member ≡ true → has_code method ≡ not (is_abstract member.flags) → IsAllowed method
allowed_is pool member method of e code =
    let parts = parts_of pool member e in
    let native : not (is_native member.flags) ≡ true = and_left _ _ parts.good in
    let plain : not (is_abstract member.flags && (is_static member.flags || bytes_eq (name_of pool member) maker)) ≡ true = and_right (not (is_native member.flags)) _ parts.good in
    let locks : ℕ → List ℕ → List ℕ → Bool = λ flags name desc. is_synchronized flags && ((bytes_eq name main_name && bytes_eq desc main_desc) || (bytes_eq name initialiser || is_run name desc)) in
    let unlocked : locks member.flags (name_of pool member) (desc_of pool member) ≡ false = not_true (locks member.flags (name_of pool member) (desc_of pool member)) parts.begun in
    record {
      plain = ap₂ (λ (flags : ℕ) (name : List ℕ). is_abstract flags && (is_static flags || bytes_eq name maker)) of.flags of.name ∙ not_true _ plain;
      unlocked = ap (λ (flags : ℕ). locks flags method.name method.desc) of.flags ∙ ap₂ (locks member.flags) of.name of.desc ∙ unlocked;
      described = ap describes_method of.desc ∙ parts.described;
      native = ap is_native of.flags ∙ not_true (is_native member.flags) native;
      code = code ∙ ap (λ (flags : ℕ). not (is_abstract flags)) (sym of.flags);
      ready = λ named.
          let name : bytes_eq (name_of pool member) initialiser ≡ true = (bytes_eq-Decides (name_of pool member) initialiser).1 (sym of.name ∙ named) in
          let both : (is_static member.flags && bytes_eq (desc_of pool member) takes_nothing) ≡ true = passed (bytes_eq (name_of pool member) initialiser) _ parts.ready name in
          let nothing : desc_of pool member ≡ takes_nothing = (bytes_eq-Decides (desc_of pool member) takes_nothing).0 (and_right (is_static member.flags) _ both) in
          (ap is_static of.flags ∙ and_left (is_static member.flags) _ both, of.desc ∙ nothing);
    }

-- ---- classes that are known

pub ok_target : (a b : Target) → ◌≡◌ {A = Result Target OperandFault} (Ok a) (Ok b) → a ≡ b
ok_target a b e = cc

-- The class links to itself, and is known.
abbrev pub IsLinkedClass : List ListedClass → Bool → List ℕ → Target → Type 0
IsLinkedClass classes arrays text ref = (target.ClassName text ≡ ref) × (is_type classes arrays text ≡ true)

choice_known : (b : Bool) (text : List ℕ) (ref : Target) → cond b (Ok (target.ClassName text)) (Err (operand.Missing text)) ≡ Ok ref → (target.ClassName text ≡ ref) × (b ≡ true)
choice_known true text ref e = (ok_target (target.ClassName text) ref e, refl)
choice_known false text ref e = absurd cc

module _ (files : List ClassFile) (listing : Listing) where
  abbrev classes : List ListedClass
  classes = all_classes listing files

  array_known : (arrays : Bool) (text : List ℕ) (ref : Target) (t : Read FieldType) → array_linked arrays (known_in files listing) text t ≡ Ok ref
      → (target.ClassName text ≡ ref) × ((arrays && item_is_known classes t) ≡ true)
  array_known arrays text ref (Ok t) e = choice_known (arrays && element_is_known (known_in files listing) t.element) text ref e
  array_known arrays text ref (Err fault) e = absurd cc

  pub class_known : (arrays : Bool) (text : List ℕ) (ref : Target) → class_linked arrays (known_in files listing) text ≡ Ok ref → IsLinkedClass classes arrays text ref
  class_known arrays text ref e = by (is_array text) e where
    by : (b : Bool) → cond b (array_linked arrays (known_in files listing) text (whole_type text)) (cond (known_in files listing text) (Ok (target.ClassName text)) (Err (operand.Missing text))) ≡ Ok ref
        → (target.ClassName text ≡ ref) × (cond b (arrays && item_is_known classes (whole_type text)) (is_known classes text) ≡ true)
    by true e = array_known arrays text ref (whole_type text) e
    by false e = choice_known (known_in files listing text) text ref e

  -- ---- handlers

  -- A class that is caught is known.
  abbrev pub Catches : Handler → Type 0
  Catches handler = (name : List ℕ) → handler.class ≡ Some name → is_type classes true name ≡ true

  untold : (class : List ℕ) (method at : ℕ) (r : Result Target OperandFault) (x : Target) → told_at class method at r ≡ Ok x → r ≡ Ok x
  untold class method at (Ok y) x e = cc
  untold class method at (Err fault) x e = absurd cc

  caught_known : (class : List ℕ) (pool : List Const) (method at index : ℕ) (o : Option (List ℕ)) → caught files listing class pool method at index ≡ Ok o
      → (name : List ℕ) → o ≡ Some name → is_type classes true name ≡ true
  caught_known class pool method at index o e name is = by (index == 0) e where
    by : (b : Bool) → cond b (Ok None) (told_at class method at (class_linked true (known_in files listing) (class_at pool index)) >>= λ (t : Target). Ok (Some (class_at pool index))) ≡ Ok o → is_type classes true name ≡ true
    by true e =
        let none : None ≡ o = ok_is LinkFault None o e in
        absurd cc
    by false e =
        let a = bind_ok (told_at class method at (class_linked true (known_in files listing) (class_at pool index))) (λ (t : Target). Ok (Some (class_at pool index))) o e in
        let k = class_known true (class_at pool index) a.0 (untold class method at _ a.0 a.1) in
        let same : Some (class_at pool index) ≡ Some name = ok_is LinkFault (Some (class_at pool index)) o a.2 ∙ is in
        let named : class_at pool index ≡ name = cc in
        subst (λ (n : List ℕ). is_type classes true n ≡ true) named k.1

  handler_catches : (class : List ℕ) (pool : List Const) (method end : ℕ) (starts : List ℕ) (entry : TableEntry) (h : Handler) → handler_linked files listing class pool method end starts entry ≡ Ok h → Catches h
  handler_catches class pool method end starts entry h e = caught_known class pool method end entry.class h.class (handler_parts files listing class pool method end starts entry h e).catches

  caught_is : (class : List ℕ) (pool : List Const) (method at index : ℕ) (o : Option (List ℕ)) → caught files listing class pool method at index ≡ Ok o → o ≡ cond (index == 0) None (Some (class_at pool index))
  caught_is class pool method at index o e = by (index == 0) e where
    by : (b : Bool) → cond b (Ok None) (told_at class method at (class_linked true (known_in files listing) (class_at pool index)) >>= λ (t : Target). Ok (Some (class_at pool index))) ≡ Ok o
        → o ≡ cond b None (Some (class_at pool index))
    by true e = sym (ok_is LinkFault None o e)
    by false e =
        let a = bind_ok (told_at class method at (class_linked true (known_in files listing) (class_at pool index))) (λ (t : Target). Ok (Some (class_at pool index))) o e in
        sym (ok_is LinkFault (Some (class_at pool index)) o a.2)

  handler_is : (class : List ℕ) (pool : List Const) (method end : ℕ) (starts : List ℕ) (entry : TableEntry) (h : Handler) → handler_linked files listing class pool method end starts entry ≡ Ok h → IsOfEntry pool starts entry h
  handler_is class pool method end starts entry h e =
      let parts = handler_parts files listing class pool method end starts entry h e in
      record { from = parts.from; to = parts.to; at = parts.at; class = caught_is class pool method end entry.class h.class parts.catches }

  handlers_are : (class : List ℕ) (pool : List Const) (method end : ℕ) (starts : List ℕ) (table : List TableEntry) (hs : List Handler) → handlers_linked files listing class pool method end starts table ≡ Ok hs
      → (i : ℕ) (entry : TableEntry) (h : Handler) → slice_get table i ≡ Some entry → slice_get hs i ≡ Some h → IsOfEntry pool starts entry h
  handlers_are class pool method end starts table hs e i entry h there here =
      let one = linked_at (λ at. handler_linked files listing class pool method end starts) 0 table hs i entry e there in
      let same : one.0 ≡ h = some_is one.0 h (sym one.1 ∙ here) in
      subst (IsOfEntry pool starts entry) same (handler_is class pool method end starts entry one.0 one.2)

  -- ---- a method

  -- The method is that of the member, and has code exactly where it is not abstract.
  pub record IsBody (pool : List Const) (member : Member) (method : Method) : Type 0 where
    pub of_member : IsOfMember pool member method
    pub code : has_code method ≡ not (is_abstract member.flags)
    pub handlers : AllByRecursion Catches method.handlers

  -- a body without code is abstract
  module _ (file : ClassFile) (index : ℕ) (member : Member) where
    code_body : (code : Code) (method : Method) → 1 ≤ length code.code → is_abstract member.flags ≡ false → has_its_code member ≡ true → codes_of member ≡ code ∷ [] → code_linked files listing file index member code ≡ Ok method → IsBody file.pool member method
    code_body code method some own its alone e =
        let name = (head_of file).name in
        let parts = code_parts files listing file index member code method e in
        let made = with_code file member code parts.insns parts.refs parts.handlers in
        let many : 0 < length parts.insns = code_some code.code parts.insns some parts.read in
        let has : nat_lt 0 (length parts.insns) ≡ true = grind (arith, nat_tests) in
        let caught : AllByRecursion Catches parts.handlers = each_of (λ at. handler_linked files listing name file.pool index (length parts.insns) (starts_of parts.insns)) Catches (λ at. handler_catches name file.pool index (length parts.insns) (starts_of parts.insns)) 0 code.table parts.handlers parts.table in
        let of_code : IsOfCode file.pool code made = record {
          max_stack = refl;
          max_locals = refl;
          insns = parts.read;
          count = same_length (λ at. handler_linked files listing name file.pool index (length parts.insns) (starts_of parts.insns)) 0 code.table parts.handlers parts.table;
          handlers = handlers_are name file.pool index (length parts.insns) (starts_of parts.insns) code.table parts.handlers parts.table;
        } in
        let of_member : IsOfMember file.pool member made = record {
          flags = refl;
          name = refl;
          desc = refl;
          its = its;
          coded = λ other one. subst (λ (k : Code). IsOfCode file.pool k made) (front_same code other (sym alone ∙ one)) of_code;
        } in
        let body : IsBody file.pool member made = record { of_member = of_member; code = has ∙ ap not (sym own); handlers = caught } in
        subst (IsBody file.pool member) parts.is body

    bare_body : (method : Method) → is_abstract member.flags ≡ true → has_its_code member ≡ true → length (codes_of member) ≡ 0 → body_linked files listing file index member None ≡ Ok method → IsBody file.pool member method
    bare_body method own its nothing e =
        let is : bare file member ≡ method = ok_is LinkFault (bare file member) method e in
        let none : has_code (bare file member) ≡ false = refl in
        let of_member : IsOfMember file.pool member (bare file member) = record {
          flags = refl;
          name = refl;
          desc = refl;
          its = its;
          coded = λ code one. absurd (not_one code (codes_of member) nothing one);
        } in
        let body : IsBody file.pool member (bare file member) = record { of_member = of_member; code = none ∙ ap not (sym own); handlers = tt } in
        subst (IsBody file.pool member) is body

    -- there is one code, or none where the member is abstract
    body_is : (method : Method) → FitsMember file.pool true member → has_its_code member ≡ true → body_linked files listing file index member (slice_get (codes_of member) 0) ≡ Ok method → IsBody file.pool member method
    body_is method fits good e = by (is_abstract member.flags) refl good where
      by : (b : Bool) → is_abstract member.flags ≡ b → (length (codes_of member) == cond b 0 1) ≡ true → IsBody file.pool member method
      by true own its =
          let nothing : length (codes_of member) ≡ 0 = grind (arith, nat_tests) in
          bare_body method own good nothing (ap (λ (o : Option Code). body_linked files listing file index member o) (sym (none_there (codes_of member) nothing)) ∙ e)
      by false own its =
          let one : length (codes_of member) ≡ 1 = grind (arith, nat_tests) in
          let first = first_code file.pool member.attrs fits.attrs.each one in
          code_body first.0 method first.2 own good (only_one (codes_of member) first.0 one first.1) (ap (λ (o : Option Code). body_linked files listing file index member o) (sym first.1) ∙ e)

    -- What is known of the method of a member.
    pub record IsMethodOf (method : Method) : Type 0 where
      pub allowed : is_allowed file.pool member ≡ true
      pub own : overrides (all_classes listing files) listing (head_of file).name file.pool member ≡ false
      pub body : IsBody file.pool member method

    pub method_is : (method : Method) → FitsMember file.pool true member → method_linked files listing file index member ≡ Ok method → IsMethodOf method
    method_is method fits e =
        let parts = method_parts files listing file index member method e in
        let its = (parts_of file.pool member parts.allowed).its in
        record {
          allowed = parts.allowed;
          own = not_true (overrides (all_classes listing files) listing (head_of file).name file.pool member) parts.own;
          body = body_is method fits its parts.body;
        }
