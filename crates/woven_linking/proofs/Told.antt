-- The origins that are told of woven methods are true.
use Rattle.std.proofs.Common.{◌≡◌, ℕ, suc, ◌+◌, Bool, true, false, List, [], ◌∷◌, ◌++◌, length, map, Option, Some, None, Ok, refl, sym, ap, subst, ◌∙◌, append_assoc, append-nil, arith}
use Rattle.std.specs.Prelude.{◌≢◌, slice_get, slice_index, is_some, if◌then◌else◌}
use Rattle.std.specs.List.{AllByRecursion, enumerate_from, flat_map}
use Rattle.std.proofs.lemmas.List.{length-append, length-map}
use Rattle.mon_base.proofs.Reading.{bind_ok, ok_is}
use Rattle.class_codec.specs.declared.tree.ClassFile.{ClassFile}
use Rattle.class_codec.specs.declared.tree.Code.{Code}
use Rattle.class_codec.specs.declared.tree.Const.{Const}
use Rattle.class_codec.specs.declared.tree.Member.{Member}
use Rattle.insn_codec.specs.declared.insn.Insn.{Insn}
use Rattle.api_listing.specs.declared.types.Listing.{Listing}
use Rattle.class_linking.specs.declared.fault.LinkFault.{LinkFault}
use Rattle.bytecode_model.specs.declared.program.LinkedClass.{LinkedClass}
use Rattle.bytecode_model.specs.declared.program.Method.{Method}
use Rattle.bytecode_model.specs.declared.program.Program.{Program}
use Rattle.bytecode_model.specs.declared.program.Side.TheVariants as sides
use Rattle.class_linking.specs.Fault.{linked_from}
use Rattle.class_linking.specs.Linking.{assembled, body_linked, method_linked}
use Rattle.bytecode_model.specs.Sound.{IsSound, IsSoundMethod, IsSoundClass}
use Rattle.offset_patch.specs.Plan.{Plan}
use Rattle.offset_patch.specs.declared.block.Block.{Block}
use Rattle.offset_patch.specs.declared.block.BlockInsn.{BlockInsn}
use Rattle.offset_patch.specs.declared.block.BlockInsn.TheVariants.{Plain, Byte, Short, Local, Want, Jump, Call}
use Rattle.bytecode_model.specs.declared.origin.Origin.{Origin}
use Rattle.offset_patch.specs.declared.fault.SpliceFault.{SpliceFault}
use Rattle.offset_patch.specs.Splicing.{part_of, fronts_from, aimed, put, parts_from, spliced, origin_of, part_origins, origins_of}
use Rattle.class_weaving.proofs.CodeCases.{IsPut, code_cases}
use Rattle.class_weaving.specs.declared.woven.Members.{Members}
use Rattle.class_weaving.specs.declared.woven.Woven.{Woven}
use Rattle.class_weaving.specs.Woven.{WovenCode, folded, is_woven, sites_of, clients_from, code_woven, first_code, bare_put, code_put, body_woven, member_woven, members_woven, none_made, file_with, file_put, class_woven, classes_woven, nothing_woven, state_put, woven}
use Rattle.class_weaving.specs.Outcome.{Each, insns_woven}
use Rattle.woven_linking.specs.Origins.{fronts_in, insn_woven, IsOfBlock, IsFrom, AreFrom, MethodIsFrom, with_code, ClassTells, ClassesTell, OriginsAreTrue}
use Rattle.class_linking.proofs.Loop.{first_linked}
use Rattle.class_linking.proofs.Parts.{class_parts}
use Rattle.woven_linking.proofs.Pairs.{each_append}
use Rattle.woven_linking.proofs.Steps.{conditions_of, coded}
use Rattle.woven_linking.proofs.Whole.{get_after, IsOf, program_of}
use Rattle.class_weaving.specs.State.{state_file}
use Rattle.conspec_tree.specs.declared.types.Var.{Var}

-- ---- the parts of a method

module _ (plan : Plan) (pool : List Const) (m : Method) where
  tell_append : (at : ℕ) (xs ys : List Insn) (a b : List Origin) → AreFrom plan pool m at xs a → AreFrom plan pool m (at + length xs) ys b → AreFrom plan pool m at (xs ++ ys) (a ++ b)
  tell_append at [] ys [] b t u =
      let n : at + 0 ≡ at = omega arith in
      subst (λ (k : ℕ). AreFrom plan pool m k ys b) n u
  tell_append at [] ys (o ∷ a) b t u = absurd t
  tell_append at (x ∷ xs) ys [] b t u = absurd t
  tell_append at (x ∷ xs) ys (o ∷ a) b t u =
      let n : at + length (x ∷ xs) ≡ at + 1 + length xs = omega arith in
      (t.0, tell_append (at + 1) xs ys a b t.1 (subst (λ (k : ℕ). AreFrom plan pool m k ys b) n u))

  -- a method without a block
  clients_tell : is_woven plan m ≡ false → (at : ℕ) (insns : List Insn) → ((j : ℕ) (x : Insn) → slice_get insns j ≡ Some x → slice_get m.insns (at + j) ≡ Some x)
      → AreFrom plan pool m at insns (clients_from at insns)
  clients_tell none at [] sub = tt
  clients_tell none at (x ∷ insns) sub =
      let n : at + 0 ≡ at = omega arith in
      let same : x ≡ insn_woven plan m x = sym (ap (λ (b : Bool). if b then aimed (fronts_in plan m) x else x) none) in
      let here : slice_get m.insns at ≡ Some x = ap (slice_get m.insns) (sym n) ∙ sub 0 x refl in (
        record { own = x; there = here; is = same },
        clients_tell none (at + 1) insns (λ j y e.
            let k : at + 1 + j ≡ at + suc j = omega arith in
            ap (slice_get m.insns) k ∙ sub (suc j) y e),
      )

  module _ (some : is_woven plan m ≡ true) where
    abbrev fronts : List ℕ
    fronts = fronts_in plan m

    abbrev sites : List (Option Block)
    sites = sites_of plan m.max_locals m

    own_is : (own : Insn) → aimed fronts own ≡ insn_woven plan m own
    own_is own = sym (ap (λ (b : Bool). if b then aimed (fronts_in plan m) own else own) some)

    module _ (i begin : ℕ) (own : Insn) (begins : begin ≡ slice_index fronts i) (for : slice_get m.insns i ≡ Some own) where
      alone_tells : AreFrom plan pool m begin (map (put pool fronts begin own) (part_of None)) (part_origins (i, None))
      alone_tells = (record { own = own; there = for; is = own_is own }, tt)

      module _ (block : Block) (stands : slice_get sites i ≡ Some (Some block)) where
        of_block : (k : ℕ) (x : BlockInsn) → slice_get block.insns k ≡ Some x → x ≢ Call → IsOfBlock plan pool m (begin + k) (put pool fronts begin own x) i k
        of_block k x there other = record {
          block = block;
          stands = stands;
          from = ap (λ (n : ℕ). n + k) begins;
          item = x;
          there = there;
          other = other;
          own = own;
          for = for;
          is = ap (λ (n : ℕ). put pool fronts n own x) begins;
        }

        item_tells : (k : ℕ) (x : BlockInsn) → slice_get block.insns k ≡ Some x → IsFrom plan pool m (begin + k) (put pool fronts begin own x) (origin_of i (k, x))
        item_tells k (Plain op) e = of_block k (Plain op) e (λ f. absurd cc)
        item_tells k (Byte n) e = of_block k (Byte n) e (λ f. absurd cc)
        item_tells k (Short n) e = of_block k (Short n) e (λ f. absurd cc)
        item_tells k (Local op slot wide) e = of_block k (Local op slot wide) e (λ f. absurd cc)
        item_tells k (Want op want) e = of_block k (Want op want) e (λ f. absurd cc)
        item_tells k (Jump op place) e = of_block k (Jump op place) e (λ f. absurd cc)
        item_tells k Call e = record { own = own; there = for; is = own_is own }

        items_tell : (k : ℕ) (items : List BlockInsn) → ((j : ℕ) (x : BlockInsn) → slice_get items j ≡ Some x → slice_get block.insns (k + j) ≡ Some x)
            → AreFrom plan pool m (begin + k) (map (put pool fronts begin own) items) (map (origin_of i) (enumerate_from k items))
        items_tell k [] sub = tt
        items_tell k (x ∷ items) sub =
            let n : k + 0 ≡ k = omega arith in
            let here : slice_get block.insns k ≡ Some x = ap (slice_get block.insns) (sym n) ∙ sub 0 x refl in
            let at : begin + (k + 1) ≡ begin + k + 1 = omega arith in
            let rest = items_tell (k + 1) items (λ j y e.
            let next : k + 1 + j ≡ k + suc j = omega arith in
            ap (slice_get block.insns) next ∙ sub (suc j) y e) in
            (item_tells k x here, subst (λ (p : ℕ). AreFrom plan pool m p (map (put pool fronts begin own) items) (map (origin_of i) (enumerate_from (k + 1) items))) at rest)

        block_tells : AreFrom plan pool m begin (map (put pool fronts begin own) block.insns) (part_origins (i, Some block))
        block_tells =
            let n : begin + 0 ≡ begin = omega arith in
            let all = items_tell 0 block.insns (λ j x e.
            let zero_add : 0 + j ≡ j = omega arith in
            ap (slice_get block.insns) zero_add ∙ e) in
            subst (λ (p : ℕ). AreFrom plan pool m p (map (put pool fronts begin own) block.insns) (part_origins (i, Some block))) n all

      part_tells : (s : Option Block) → slice_get sites i ≡ Some s → AreFrom plan pool m begin (map (put pool fronts begin own) (part_of s)) (part_origins (i, s))
      part_tells None e = alone_tells
      part_tells (Some block) e = block_tells block e

    first_front : (begin : ℕ) (left : List (Option Block)) → slice_index (fronts_from begin left) 0 ≡ begin
    first_front begin [] = refl
    first_front begin (s ∷ left) = refl

    parts_tell : (i begin : ℕ) (own : List Insn) (left : List (Option Block)) → length left ≡ length own
        → ((j : ℕ) (x : Insn) → slice_get own j ≡ Some x → slice_get m.insns (i + j) ≡ Some x)
        → ((j : ℕ) (s : Option Block) → slice_get left j ≡ Some s → slice_get sites (i + j) ≡ Some s)
        → ((j : ℕ) → slice_index (fronts_from begin left) j ≡ slice_index fronts (i + j))
        → AreFrom plan pool m begin (parts_from pool fronts begin own left) (flat_map part_origins (enumerate_from i left))
    parts_tell i begin [] [] e a b c = tt
    parts_tell i begin [] (s ∷ left) e a b c = absurd (omega arith)
    parts_tell i begin (x ∷ own) [] e a b c = absurd (omega arith)
    parts_tell i begin (x ∷ own) (s ∷ left) e a b c =
        let n : i + 0 ≡ i = omega arith in
        let begins : begin ≡ slice_index fronts i = c 0 ∙ ap (slice_index fronts) n in
        let for : slice_get m.insns i ≡ Some x = ap (slice_get m.insns) (sym n) ∙ a 0 x refl in
        let stands : slice_get sites i ≡ Some s = ap (slice_get sites) (sym n) ∙ b 0 s refl in
        let here = map (put pool fronts begin x) (part_of s) in
        let count : length here ≡ length (part_of s) = length-map (part_of s) (put pool fronts begin x) in
        let after : begin + length (part_of s) ≡ begin + length here = omega (arith, count) in
        let later = parts_tell (i + 1) (begin + length (part_of s)) own left (omega arith)
        (λ j y f.
        let k : i + 1 + j ≡ i + suc j = omega arith in
        ap (slice_get m.insns) k ∙ a (suc j) y f)
        (λ j t f.
        let k : i + 1 + j ≡ i + suc j = omega arith in
        ap (slice_get sites) k ∙ b (suc j) t f)
        (λ j.
        let k : i + suc j ≡ i + 1 + j = omega arith in
        c (suc j) ∙ ap (slice_index fronts) k) in
        let rest = parts_from pool fronts (begin + length (part_of s)) own left in
        let told = flat_map part_origins (enumerate_from (i + 1) left) in
        tell_append begin here rest (part_origins (i, s)) told (part_tells i begin x begins for s stands) (subst (λ (p : ℕ). AreFrom plan pool m p rest told) after later)

    spliced_tells : length sites ≡ length m.insns → AreFrom plan pool m 0 (spliced pool m.insns sites) (origins_of sites)
    spliced_tells e =
        parts_tell 0 0 m.insns sites e
        (λ j x f.
        let n : 0 + j ≡ j = omega arith in
        ap (slice_get m.insns) n ∙ f)
        (λ j s f.
        let n : 0 + j ≡ j = omega arith in
        ap (slice_get sites) n ∙ f)
        (λ j.
        let n : j ≡ 0 + j = omega arith in
        ap (slice_index fronts) n)

  -- ---- a method

  code_tells : (state : ℕ) (class : List ℕ) (number : ℕ) (entries : List Const) (code : Code) (w : WovenCode) → IsSoundMethod m → m.max_locals ≡ code.max_locals
      → code_woven plan state class number entries m code ≡ Ok w → MethodIsFrom plan pool m w.made.origins
  code_tells state class number entries code w sound locals = code_cases plan state class number entries m code (λ x. MethodIsFrom plan pool m x.made.origins) w with_them without
    where
      with_them : is_woven plan m ≡ true → (new : Code) → IsPut plan state class number entries m code new → MethodIsFrom plan pool m (origins_of (sites_of plan code.max_locals m))
      with_them some new put =
          let told = ap (λ (n : ℕ). origins_of (sites_of plan n m)) locals in
          let insns : spliced pool m.insns (sites_of plan m.max_locals m) ≡ insns_woven plan pool m =
          sym (ap (λ (b : Bool). if b then spliced pool m.insns (sites_of plan m.max_locals m) else m.insns) some) in
          let count : length (sites_of plan m.max_locals m) ≡ length m.insns = length-map m.refs (plan.block m.max_locals) ∙ sound.refs in
          subst (AreFrom plan pool m 0 (insns_woven plan pool m)) told
          (subst (λ (xs : List Insn). AreFrom plan pool m 0 xs (origins_of (sites_of plan m.max_locals m))) insns (spliced_tells some count))

      without : is_woven plan m ≡ false → MethodIsFrom plan pool m (clients_from 0 m.insns)
      without none =
          let insns : m.insns ≡ insns_woven plan pool m = sym (ap (λ (b : Bool). if b then spliced pool m.insns (sites_of plan m.max_locals m) else m.insns) none) in
          let all = clients_tell none 0 m.insns (λ j x f.
          let n : 0 + j ≡ j = omega arith in
          ap (slice_get m.insns) n ∙ f) in
          subst (λ (xs : List Insn). AreFrom plan pool m 0 xs (clients_from 0 m.insns)) insns all

-- ---- the methods of a class

-- What is so of a method that was woven, and of the origins of its instructions.
abbrev pub Told : Plan → (Method → List Origin → Type 0) → Type 0
Told plan Holds =
    (m : Method) (state : ℕ) (class : List ℕ) (number : ℕ) (entries : List Const) (code : Code) (w : WovenCode) → IsSoundMethod m → m.max_locals ≡ code.max_locals
    → code_woven plan state class number entries m code ≡ Ok w → Holds m w.made.origins

module _ (plan : Plan) (Holds : Method → List Origin → Type 0) (told_of : Told plan Holds) (state : ℕ) (files : List ClassFile) (listing : Listing) (class : LinkedClass) where
  -- What one member more tells of the methods with code.
  record IsTold (made next : Members) (olds : List Method) : Type 0 where
    told : List (List Origin)
    is : next.origins ≡ made.origins ++ told
    number : next.number ≡ made.number + 1
    each : Each Holds olds told

  body_tells : (made next : Members) (member : Member) (m : Method) → IsSoundMethod m → (c : Option Code) → first_code member.attrs ≡ c
      → body_linked files listing class.file made.number member c ≡ Ok m → body_woven plan state class.name made member (Some m) c ≡ Ok next
      → IsTold made next (if is_some c then m ∷ [] else [])
  body_tells made next member m sound None first body e =
      subst (λ (x : Members). IsTold made x []) (ok_is SpliceFault (bare_put made member (Some m)) next e) (record { told = []; is = sym (append-nil made.origins); number = refl; each = tt })
  body_tells made next member m sound (Some code) first body e =
      let one = bind_ok (code_woven plan state class.name made.number made.entries m code) (λ w. Ok (code_put made member w)) next e in
      let old = coded files listing class.file made.number member code m body in
      subst (λ (x : Members). IsTold made x (m ∷ [])) (ok_is SpliceFault (code_put made member one.0) next one.2) (record {
        told = one.0.made.origins ∷ [];
        is = refl;
        number = refl;
        each = (told_of m state class.name made.number made.entries code one.0 sound old.max_locals one.1, tt);
      })

  first_of : (m : Method) (member : Member) (methods : List Method) (members : List Member)
      → (if is_some (first_code member.attrs) then m ∷ [] else []) ++ with_code methods members ≡ with_code (m ∷ methods) (member ∷ members)
  first_of m member methods members = by (is_some (first_code member.attrs))
    where
      by : (b : Bool) → (if b then m ∷ [] else []) ++ with_code methods members ≡ (if b then m ∷ with_code methods members else with_code methods members)
      by true = refl
      by false = refl

  members_tell : (members : List Member) (made last : Members) (done left : List Method) → class.methods ≡ done ++ left → length done ≡ made.number → AllByRecursion IsSoundMethod left
      → linked_from (method_linked files listing class.file) made.number members ≡ Ok left → folded (member_woven plan state class) made members ≡ Ok last
      → (told : List (List Origin)) × (last.origins ≡ made.origins ++ told) × Each Holds (with_code left members) told
  members_tell [] made last done left split count sound e w =
      let none : [] ≡ left = ok_is LinkFault [] left e in
      let same : last.origins ≡ made.origins ++ [] = ap (λ (x : Members). x.origins) (sym (ok_is SpliceFault made last w)) ∙ sym (append-nil made.origins) in
      ([], same, subst (λ (ms : List Method). Each Holds (with_code ms []) []) none tt)
  members_tell (member ∷ members) made last done left split count sound e w =
      let a = first_linked (method_linked files listing class.file) made.number member members left e in
      let m = a.0 in
      let rest = a.1 in
      let sound' : AllByRecursion IsSoundMethod (m ∷ rest) = subst (AllByRecursion IsSoundMethod) (sym a.4) sound in
      let split' : class.methods ≡ done ++ m ∷ rest = split ∙ ap (λ (xs : List Method). done ++ xs) (sym a.4) in
      let here : slice_get class.methods made.number ≡ Some m = ap (λ (n : ℕ). slice_get class.methods n) (sym count) ∙ ap (λ (xs : List Method). slice_get xs (length done)) split' ∙ get_after done m rest in
      let one = bind_ok (member_woven plan state class made member) (λ next. folded (member_woven plan state class) next members) last w in
      let next = one.0 in
      let made_by : body_woven plan state class.name made member (Some m) (first_code member.attrs) ≡ Ok next =
      ap (λ (o : Option Method). body_woven plan state class.name made member o (first_code member.attrs)) (sym here) ∙ one.1 in
      let body = (conditions_of files listing class.file made.number member m a.2).2 in
      let step = body_tells made next member m sound'.0 (first_code member.attrs) refl body made_by in
      let linked' : linked_from (method_linked files listing class.file) next.number members ≡ Ok rest = ap (λ (n : ℕ). linked_from (method_linked files listing class.file) n members) step.number ∙ a.3 in
      let count' : length (done ++ m ∷ []) ≡ next.number = length-append done (m ∷ []) ∙ ap (λ (n : ℕ). n + 1) count ∙ sym step.number in
      let later = members_tell members next last (done ++ m ∷ []) rest (split' ∙ sym (append_assoc done (m ∷ []) rest)) count' sound'.1 linked' one.2 in
      let all = each_append Holds (if is_some (first_code member.attrs) then m ∷ [] else []) (with_code rest members) step.told later.0 step.each later.2 in (
        step.told ++ later.0,
        later.1 ∙ ap (λ (xs : List (List Origin)). xs ++ later.0) step.is ∙ append_assoc made.origins step.told later.0,
        subst (λ (ms : List Method). Each Holds (with_code ms (member ∷ members)) (step.told ++ later.0)) a.4
            (subst (λ (ms : List Method). Each Holds ms (step.told ++ later.0)) (first_of m member rest members) all),
      )

-- ---- the program

module _ (plan : Plan) (Holds : List Const → Method → List Origin → Type 0) (told_of : (pool : List Const) → Told plan (Holds pool)) (state : ℕ)
    (files : List ClassFile) (listing : Listing) where
  classes_tell : (made last : Woven) (classes : List LinkedClass) → AllByRecursion IsSoundClass classes → AllByRecursion (IsOf files listing) classes
      → folded (class_woven plan state) made classes ≡ Ok last
      → (news : List ClassFile) × (told : List (List (List Origin))) × (last.files ≡ made.files ++ news) × (last.origins ≡ made.origins ++ told)
      × ((state : ClassFile) → ClassesTell Holds classes (news ++ state ∷ []) (told ++ [] ∷ []))
  classes_tell made last [] sound of e =
      let is : made ≡ last = ok_is SpliceFault made last e in (
        [],
        [],
        ap (λ (w : Woven). w.files) (sym is) ∙ sym (append-nil made.files),
        ap (λ (w : Woven). w.origins) (sym is) ∙ sym (append-nil made.origins),
        λ state. refl,
      )
  classes_tell made last (class ∷ classes) sound of e =
      let one = bind_ok (class_woven plan state made class) (λ next. folded (class_woven plan state) next classes) last e in
      let two = bind_ok (members_woven plan state class (none_made class.file.pool) class.file.methods) (λ done. Ok (file_put made class done)) one.0 one.1 in
      let done = two.0 in
      let is : file_put made class done ≡ one.0 = ok_is SpliceFault (file_put made class done) one.0 two.2 in
      let file = file_with class.file done.entries done.items in
      let parts = class_parts files listing class.file class.methods of.0.methods in
      let tell = members_tell plan (Holds done.entries) (told_of done.entries) state files listing class class.file.methods (none_made class.file.pool) done [] class.methods refl refl sound.0.methods parts.each two.1 in
      let here : ClassTells Holds class file done.origins = subst (Each (Holds done.entries) (with_code class.methods class.file.methods)) (sym tell.1) tell.2 in
      let later = classes_tell one.0 last classes sound.1 of.1 one.2 in (
        file ∷ later.0,
        done.origins ∷ later.1,
        later.2 ∙ ap (λ (xs : List ClassFile). xs ++ later.0) (ap (λ (w : Woven). w.files) (sym is)) ∙ append_assoc made.files (file ∷ []) later.0,
        later.3 ∙ ap (λ (xs : List (List (List Origin))). xs ++ later.1) (ap (λ (w : Woven). w.origins) (sym is)) ∙ append_assoc made.origins (done.origins ∷ []) later.1,
        λ state. (here, later.4 state),
      )

module _ (plan : Plan) (Holds : List Const → Method → List Origin → Type 0) (told_of : (pool : List Const) → Told plan (Holds pool)) (files : List ClassFile) (listing : Listing) where
  pub program_tells : (main : List ℕ) (vars : List Var) (old : Program) (made : Woven) → assembled files listing main sides.Original ≡ Ok old → IsSound old
      → woven old plan vars ≡ Ok made → ClassesTell Holds old.classes made.files made.origins
  program_tells main vars old made linked sound w =
      let p = program_of files listing main sides.Original old linked in
      let state = length old.classes in
      let one = bind_ok (classes_woven plan state nothing_woven old.classes) (λ x. Ok (state_put vars x)) made w in
      let is : state_put vars one.0 ≡ made = ok_is SpliceFault (state_put vars one.0) made one.2 in
      let all = classes_tell plan Holds told_of state files listing nothing_woven one.0 old.classes sound.classes p.classes one.1 in
      let news : (state_put vars one.0).files ≡ all.0 ++ state_file vars ∷ [] = ap (λ (xs : List ClassFile). xs ++ state_file vars ∷ []) all.2 in
      let told : (state_put vars one.0).origins ≡ all.1 ++ [] ∷ [] = ap (λ (xs : List (List (List Origin))). xs ++ [] ∷ []) all.3 in
      let here = all.4 (state_file vars) in
      let put : ClassesTell Holds old.classes (state_put vars one.0).files (state_put vars one.0).origins =
      subst (λ (xs : List (List (List Origin))). ClassesTell Holds old.classes (state_put vars one.0).files xs) (sym told)
      (subst (λ (xs : List ClassFile). ClassesTell Holds old.classes xs (all.1 ++ [] ∷ [])) (sym news) here) in
      subst (λ (x : Woven). ClassesTell Holds old.classes x.files x.origins) is put

pub tell : OriginsAreTrue
tell files listing main old plan vars made linked sound w =
    program_tells plan (MethodIsFrom plan) (λ pool m. code_tells plan pool m) files listing main vars old made linked sound w
