-- The methods that weaving made are those that the plan tells: so is the program that they make up.
use Rattle.std.proofs.Common.{◌≡◌, ℕ, ◌+◌, Bool, true, false, List, [], ◌∷◌, ◌++◌, length, map, Option, Some, None, Ok, refl, sym, ap, subst, ◌∙◌, append_assoc, append-nil}
use Rattle.std.specs.Prelude.{slice_get, if◌then◌else◌}
use Rattle.std.specs.List.{AllByRecursion}
use Rattle.std.proofs.lemmas.List.{length-append}
use Rattle.mon_base.proofs.Reading.{bind_ok, ok_is}
use Rattle.class_codec.specs.declared.tree.ClassFile.{ClassFile}
use Rattle.class_codec.specs.declared.tree.Code.{Code}
use Rattle.class_codec.specs.declared.tree.Const.{Const}
use Rattle.class_codec.specs.declared.tree.Member.{Member}
use Rattle.insn_codec.specs.declared.insn.Insn.{Insn}
use Rattle.api_listing.specs.declared.types.Listing.{Listing}
use Rattle.bytecode_model.specs.declared.program.LinkedClass.{LinkedClass}
use Rattle.bytecode_model.specs.declared.program.Method.{Method}
use Rattle.bytecode_model.specs.declared.program.Program.{Program}
use Rattle.bytecode_model.specs.declared.program.Side.TheVariants as sides
use Rattle.class_linking.specs.declared.fault.LinkFault.{LinkFault}
use Rattle.class_linking.specs.Fault.{linked_from}
use Rattle.class_linking.specs.Linking.{assembled, bare, body_linked, method_linked}
use Rattle.class_linking.proofs.Loop.{first_linked}
use Rattle.class_linking.proofs.Parts.{class_parts}
use Rattle.conspec_tree.specs.declared.types.Var.{Var}
use Rattle.offset_patch.specs.declared.block.Block.{Block}
use Rattle.offset_patch.specs.declared.fault.SpliceFault.{SpliceFault}
use Rattle.offset_patch.specs.Plan.{Plan}
use Rattle.offset_patch.specs.Splicing.{grown, handlers_with, method_spliced, operands_needed, parts_named, spliced}
use Rattle.class_weaving.specs.declared.woven.Members.{Members}
use Rattle.class_weaving.specs.declared.woven.Woven.{Woven}
use Rattle.class_weaving.specs.State.{state_file}
use Rattle.class_weaving.specs.Woven.{WovenCode, folded, is_woven, sites_of, locals_of, code_woven, first_code, bare_put, code_put, body_woven, member_woven, members_woven, none_made, file_with, file_put, class_woven, classes_woven, nothing_woven, state_put, woven}
use Rattle.class_weaving.proofs.CodeCases.{IsPut, code_cases}
use Rattle.woven_linking.specs.Program.{class_with, classes_with, program_with}
use Rattle.woven_linking.proofs.Again.{made_of}
use Rattle.woven_linking.proofs.ByPlan.{with_blocks, method_with}
use Rattle.woven_linking.proofs.ByPlan as by_plan
use Rattle.woven_linking.proofs.Kept.{members_kept}
use Rattle.woven_linking.proofs.Steps.{conditions_of, coded, spliced_on}
use Rattle.woven_linking.proofs.Whole.{get_after, IsOf, program_of}

-- ---- a method

module _ (plan : Plan) (state : ℕ) (m : Method) where
  code_method : (class : List ℕ) (number : ℕ) (entries : List Const) (code : Code) (w : WovenCode) → m.max_stack ≡ code.max_stack → m.max_locals ≡ code.max_locals → (ys : List Const)
      → code_woven plan state class number entries m code ≡ Ok w → w.made.method ≡ method_with plan state (w.entries ++ ys) m
  code_method class number entries code w stack locals ys =
      code_cases plan state class number entries m code (λ x. x.made.method ≡ method_with plan state (x.entries ++ ys) m) w with_them without
    where
      sites : List (Option Block)
      sites = sites_of plan code.max_locals m

      pool : List Const
      pool = grown entries sites

      made : ℕ → ℕ → List Insn → Method
      made a b xs = record {
        flags = m.flags;
        name = m.name;
        desc = m.desc;
        max_stack = a;
        max_locals = b;
        insns = xs;
        refs = parts_named state m.refs sites;
        handlers = handlers_with sites m.handlers;
      }

      by_test : Bool → Method
      by_test b = if b then with_blocks plan state (pool ++ ys) m (sites_of plan m.max_locals m) else m

      with_them : is_woven plan m ≡ true → (new : Code) → IsPut plan state class number entries m code new → method_spliced state pool m sites new ≡ method_with plan state (pool ++ ys) m
      with_them some new put =
          let h = made_of class number pool m code (locals_of plan m) sites new put.1 in
          let stack_is : new.max_stack ≡ m.max_stack + operands_needed = ap (λ (c : Code). c.max_stack) (sym h.is) ∙ ap (λ (n : ℕ). n + operands_needed) (sym stack) in
          let locals_is : new.max_locals ≡ m.max_locals + locals_of plan m = ap (λ (c : Code). c.max_locals) (sym h.is) ∙ ap (λ (n : ℕ). n + locals_of plan m) (sym locals) in
          ap (λ (n : ℕ). made n new.max_locals (spliced pool m.insns sites)) stack_is
          ∙ ap (λ (n : ℕ). made (m.max_stack + operands_needed) n (spliced pool m.insns sites)) locals_is
          ∙ ap (made (m.max_stack + operands_needed) (m.max_locals + locals_of plan m)) (spliced_on entries ys m.insns sites)
          ∙ ap (λ (n : ℕ). with_blocks plan state (pool ++ ys) m (sites_of plan n m)) (sym locals) ∙ sym (ap by_test some)

      without : is_woven plan m ≡ false → m ≡ method_with plan state (entries ++ ys) m
      without none = sym (ap (λ (b : Bool). if b then with_blocks plan state (entries ++ ys) m (sites_of plan m.max_locals m) else m) none)

-- ---- the methods of a class

module _ (plan : Plan) (state : ℕ) (files : List ClassFile) (listing : Listing) (class : LinkedClass) where
  -- What one member more makes of the methods, where these are the constants at last.
  abbrev IsMade : List Const → Members → Members → Method → Type 0
  IsMade pool made next m = (next.methods ≡ made.methods ++ method_with plan state pool m ∷ []) × (next.number ≡ made.number + 1)

  body_method : (made next : Members) (member : Member) (m : Method) → (c : Option Code) → body_linked files listing class.file made.number member c ≡ Ok m
      → body_woven plan state class.name made member (Some m) c ≡ Ok next → (ys : List Const) → IsMade (next.entries ++ ys) made next m
  body_method made next member m None body e ys =
      let is : bare class.file member ≡ m = ok_is LinkFault (bare class.file member) m body in
      let same : m ≡ method_with plan state (made.entries ++ ys) m = subst (λ (x : Method). x ≡ method_with plan state (made.entries ++ ys) x) is refl in
      subst (λ (x : Members). IsMade (x.entries ++ ys) made x m) (ok_is SpliceFault (bare_put made member (Some m)) next e) (ap (λ (x : Method). made.methods ++ x ∷ []) same, refl)
  body_method made next member m (Some code) body e ys =
      let one = bind_ok (code_woven plan state class.name made.number made.entries m code) (λ w. Ok (code_put made member w)) next e in
      let old = coded files listing class.file made.number member code m body in
      let is = code_method plan state m class.name made.number made.entries code one.0 old.max_stack old.max_locals ys one.1 in
      subst (λ (x : Members). IsMade (x.entries ++ ys) made x m) (ok_is SpliceFault (code_put made member one.0) next one.2) (ap (λ (x : Method). made.methods ++ x ∷ []) is, refl)

  members_methods : (members : List Member) (made last : Members) (done left : List Method) → class.methods ≡ done ++ left → length done ≡ made.number
      → linked_from (method_linked files listing class.file) made.number members ≡ Ok left → folded (member_woven plan state class) made members ≡ Ok last
      → last.methods ≡ made.methods ++ map (method_with plan state last.entries) left
  members_methods [] made last done left split count e w =
      let none : [] ≡ left = ok_is LinkFault [] left e in
      let same : last.methods ≡ made.methods ++ [] = ap (λ (x : Members). x.methods) (sym (ok_is SpliceFault made last w)) ∙ sym (append-nil made.methods) in
      same ∙ ap (λ (ms : List Method). made.methods ++ map (method_with plan state last.entries) ms) none
  members_methods (member ∷ members) made last done left split count e w =
      let a = first_linked (method_linked files listing class.file) made.number member members left e in
      let m = a.0 in
      let rest = a.1 in
      let split' : class.methods ≡ done ++ m ∷ rest = split ∙ ap (λ (xs : List Method). done ++ xs) (sym a.4) in
      let here : slice_get class.methods made.number ≡ Some m = ap (λ (n : ℕ). slice_get class.methods n) (sym count) ∙ ap (λ (xs : List Method). slice_get xs (length done)) split' ∙ get_after done m rest in
      let one = bind_ok (member_woven plan state class made member) (λ next. folded (member_woven plan state class) next members) last w in
      let next = one.0 in
      let made_by : body_woven plan state class.name made member (Some m) (first_code member.attrs) ≡ Ok next =
      ap (λ (o : Option Method). body_woven plan state class.name made member o (first_code member.attrs)) (sym here) ∙ one.1 in
      let body = (conditions_of files listing class.file made.number member m a.2).2 in
      let longer = (members_kept plan state class members next last one.2).longer in
      let step = body_method made next member m (first_code member.attrs) body made_by longer.more in
      let linked' : linked_from (method_linked files listing class.file) next.number members ≡ Ok rest = ap (λ (n : ℕ). linked_from (method_linked files listing class.file) n members) step.1 ∙ a.3 in
      let count' : length (done ++ m ∷ []) ≡ next.number = length-append done (m ∷ []) ∙ ap (λ (n : ℕ). n + 1) count ∙ sym step.1 in
      let later = members_methods members next last (done ++ m ∷ []) rest (split' ∙ sym (append_assoc done (m ∷ []) rest)) count' linked' one.2 in
      let tail = map (method_with plan state last.entries) rest in
      later ∙ ap (λ (xs : List Method). xs ++ tail) (step.0 ∙ ap (λ (q : List Const). made.methods ++ method_with plan state q m ∷ []) (sym longer.is))
      ∙ append_assoc made.methods (method_with plan state last.entries m ∷ []) tail
      ∙ ap (λ (ms : List Method). made.methods ++ map (method_with plan state last.entries) ms) a.4

-- ---- the program

module _ (plan : Plan) (state : ℕ) (files : List ClassFile) (listing : Listing) where
  -- What the classes that are left make of what was made.
  record AreMade (made last : Woven) (classes : List LinkedClass) : Type 0 where
    news : List ClassFile
    methods : List (List Method)
    files_are : last.files ≡ made.files ++ news
    methods_are : last.methods ≡ made.methods ++ methods
    same : (file : ClassFile) → classes_with classes (news ++ file ∷ []) (methods ++ [] ∷ []) ≡ by_plan.classes_with plan state classes (news ++ file ∷ [])

  classes_made : (made last : Woven) (classes : List LinkedClass) → AllByRecursion (IsOf files listing) classes → folded (class_woven plan state) made classes ≡ Ok last → AreMade made last classes
  classes_made made last [] of e =
      subst (λ (x : Woven). AreMade made x []) (ok_is SpliceFault made last e)
      (record { news = []; methods = []; files_are = sym (append-nil made.files); methods_are = sym (append-nil made.methods); same = λ file. refl })
  classes_made made last (class ∷ classes) of e =
      let one = bind_ok (class_woven plan state made class) (λ next. folded (class_woven plan state) next classes) last e in
      let two = bind_ok (members_woven plan state class (none_made class.file.pool) class.file.methods) (λ done. Ok (file_put made class done)) one.0 one.1 in
      let done = two.0 in
      let is : file_put made class done ≡ one.0 = ok_is SpliceFault (file_put made class done) one.0 two.2 in
      let file = file_with class.file done.entries done.items in
      let parts = class_parts files listing class.file class.methods of.0.methods in
      let here = members_methods plan state files listing class class.file.methods (none_made class.file.pool) done [] class.methods refl refl parts.each two.1 in
      let rest = classes_made one.0 last classes of.1 one.2 in
      record {
        news = file ∷ rest.news;
        methods = done.methods ∷ rest.methods;
        files_are = rest.files_are ∙ ap (λ (xs : List ClassFile). xs ++ rest.news) (ap (λ (w : Woven). w.files) (sym is)) ∙ append_assoc made.files (file ∷ []) rest.news;
        methods_are = rest.methods_are ∙ ap (λ (xs : List (List Method)). xs ++ rest.methods) (ap (λ (w : Woven). w.methods) (sym is)) ∙ append_assoc made.methods (done.methods ∷ []) rest.methods;
        same = λ state_file.
            ap (λ (ms : List Method). class_with class file ms ∷ classes_with classes (rest.news ++ state_file ∷ []) (rest.methods ++ [] ∷ [])) here
            ∙ ap (λ (cs : List LinkedClass). by_plan.class_with plan state class file ∷ cs) (rest.same state_file);
      }

-- The program that the files and methods make up is the one that the plan tells.
pub program_made : (plan : Plan) (files : List ClassFile) (listing : Listing) (main : List ℕ) (vars : List Var) (old : Program) (made : Woven) → assembled files listing main sides.Original ≡ Ok old
    → woven old plan vars ≡ Ok made → program_with old made.files made.methods ≡ by_plan.program_with plan old made.files
program_made plan files listing main vars old made linked w =
    let state = length old.classes in
    let p = program_of files listing main sides.Original old linked in
    let one = bind_ok (classes_woven plan state nothing_woven old.classes) (λ x. Ok (state_put vars x)) made w in
    let is : state_put vars one.0 ≡ made = ok_is SpliceFault (state_put vars one.0) made one.2 in
    let all = classes_made plan state files listing nothing_woven one.0 old.classes p.classes one.1 in
    let last : List ClassFile = state_file vars ∷ [] in
    let news : made.files ≡ all.news ++ last = ap (λ (x : Woven). x.files) (sym is) ∙ ap (λ (xs : List ClassFile). xs ++ last) all.files_are in
    let methods : made.methods ≡ all.methods ++ [] ∷ [] = ap (λ (x : Woven). x.methods) (sym is) ∙ ap (λ (xs : List (List Method)). xs ++ [] ∷ []) all.methods_are in
    let put : List LinkedClass → Program = λ classes. record { classes = classes; listing = old.listing; literals = old.literals; main_class = old.main_class; main_method = old.main_method } in
    ap put
    (ap (λ (fs : List ClassFile). classes_with old.classes fs made.methods) news ∙ ap (classes_with old.classes (all.news ++ last)) methods ∙ all.same (state_file vars)
    ∙ ap (by_plan.classes_with plan state old.classes) (sym news))
