-- Weaving stops at the first size that does not fit.
use Rattle.std.proofs.Common.{◌≡◌, ℕ, ◌+◌, Bool, true, false, List, [], ◌∷◌, ◌++◌, length, map, Option, Some, None, Ok, Err, refl, sym, ap, ◌∙◌, arith}
use Rattle.std.specs.Prelude.{◌<◌, ◌^◌, ◌≢◌, cond, not, nat_le, pos, IfErr, IsOk, slice_get, if◌then◌else◌}
use Rattle.std.specs.Option.{option_or}
use Rattle.std.specs.List.{AllByRecursion}
use Rattle.std.proofs.lemmas.List.{length-map}
use Rattle.std.proofs.lemmas.List.Folds.{find-append}
use Rattle.mon_base.specs.Reading.{◌>>=◌, need}
use Rattle.mon_base.proofs.Reading.{bind_ok, ok_is}
use Rattle.class_codec.specs.declared.tree.Code.{Code}
use Rattle.class_codec.specs.declared.tree.Const.{Const}
use Rattle.class_codec.specs.declared.tree.Member.{Member}
use Rattle.bytecode_model.specs.declared.program.LinkedClass.{LinkedClass}
use Rattle.bytecode_model.specs.declared.program.Method.{Method}
use Rattle.bytecode_model.specs.declared.program.Program.{Program}
use Rattle.bytecode_model.specs.Sound.{IsSoundMethod, IsSoundClass, IsSound}
use Rattle.bytecode_model.proofs.Lists.{all_get}
use Rattle.offset_patch.specs.Plan.{Plan, IsGood}
use Rattle.offset_patch.specs.declared.block.Block.{Block}
use Rattle.offset_patch.specs.declared.fault.SpliceFault.{SpliceFault}
use Rattle.offset_patch.specs.declared.splicing.Spliced.{Spliced}
use Rattle.offset_patch.specs.declared.fault.SpliceFault.TheVariants as faults
use Rattle.mon_base.specs.Answer.{Answers}
use Rattle.offset_patch.specs.Fault.{Fitting, fault_of}
use Rattle.conspec_tree.specs.declared.types.Var.{Var}
use Rattle.class_weaving.proofs.CodeCases.{code_cases}
use Rattle.class_weaving.proofs.Sites.{refs_fit, sites_stay}
use Rattle.std.proofs.lemmas.Bool.Decides.{nat_tests}
use Rattle.offset_patch.specs.declared.fault.Size.TheVariants as sizes
use Rattle.offset_patch.specs.Sizes.{is_unfit, first_unfit, method_sizes}
use Rattle.offset_patch.specs.Splicing.{grown, operands_needed, room, code_spliced, as_spliced}
use Rattle.offset_patch.proofs.Sizing.{method_law}
use Rattle.class_weaving.specs.declared.woven.Members.{Members}
use Rattle.class_weaving.specs.declared.woven.Woven.{Woven}
use Rattle.class_weaving.specs.Woven.{WovenCode, folded, is_woven, sites_of, locals_of, as_it_is, blocks_put, code_woven, first_code, bare_put, code_put, body_woven, member_woven, members_woven, none_made, file_put, class_woven, classes_woven, nothing_woven, state_put, woven}
use Rattle.class_weaving.specs.Sizes.{code_sizes, body_sizes, pool_after, members_sizes, classes_sizes, program_sizes, SizesDecide}

-- ---- one thing after another

-- what is made of an answer is a fault where the answer is
then_ok : {X Y : Type 0} (r : Fitting X) (made : X → Y) → fault_of (r >>= λ x. Ok (made x)) ≡ fault_of r
then_ok (Ok x) made = refl
then_ok (Err fault) made = refl

-- the first fault of two
then_next : {X Y : Type 0} (r : Fitting X) (f : X → Fitting Y) (later : Option SpliceFault) → ((x : X) → r ≡ Ok x → fault_of (f x) ≡ later) → fault_of (r >>= f) ≡ option_or (fault_of r) later
then_next (Ok x) f later h = h x refl
then_next (Err fault) f later h = refl

first_of : (xs ys : List SpliceFault) → first_unfit (xs ++ ys) ≡ option_or (first_unfit xs) (first_unfit ys)
first_of xs ys = find-append is_unfit xs ys

-- ---- the code of a method

-- a method whose locals do not fit stops before its blocks are made
room_first : (class : List ℕ) (number : ℕ) (pool : List Const) (m : Method) (code : Code) (locals : ℕ) (sites : List (Option Block)) (coded : Fitting Code)
    → nat_le (code.max_locals + locals) 65535 ≡ false
    → fault_of (room class number code locals >>= λ fits. coded) ≡ first_unfit (method_sizes class number pool m code locals sites)
room_first class number pool m code locals sites coded =
    by (faults.Overflow class number sizes.Stack (pos (code.max_stack + operands_needed))) (faults.Overflow class number sizes.Locals (pos (code.max_locals + locals)))
    (nat_le (code.max_stack + operands_needed) 65535) (nat_le (code.max_locals + locals) 65535) _
  where
    by : (stack slots : SpliceFault) (a b : Bool) (later : Option SpliceFault) → b ≡ false
        → fault_of ((need a stack >>= λ fits. need b slots) >>= λ fits. coded) ≡ cond (not a) (Some stack) (cond (not b) (Some slots) later)
    by stack slots false b later none = refl
    by stack slots true false later none = refl
    by stack slots true true later none = absurd cc

module _ (kinds : List Bool) (plan : Plan) (good : IsGood kinds plan) (state : ℕ) (class : List ℕ) (number : ℕ) (pool : List Const) (m : Method) (code : Code) where
  abbrev by_blocks : Bool → Fitting WovenCode
  by_blocks b = if b then blocks_put plan state class number pool m code (sites_of plan code.max_locals m) else Ok (record { made = as_it_is m code; entries = pool })

  abbrev sites : List (Option Block)
  sites = sites_of plan code.max_locals m

  abbrev locals : ℕ
  locals = locals_of plan m

  abbrev coded : Fitting Code
  coded = code_spliced class number (grown pool sites) m code locals sites

  spliced_law : IsSoundMethod m → fault_of (room class number code locals >>= λ fits. coded) ≡ first_unfit (method_sizes class number pool m code locals sites)
  spliced_law sound = by (nat_le (code.max_locals + locals) 65535) refl
    where
      by : (b : Bool) → nat_le (code.max_locals + locals) 65535 ≡ b → fault_of (room class number code locals >>= λ fits. coded) ≡ first_unfit (method_sizes class number pool m code locals sites)
      by true few =
          let less : code.max_locals + locals < 2 ^ 16 = grind (arith, nat_tests) in
          method_law class number pool m code locals sites (sites_stay sites (refs_fit kinds plan good code.max_locals m.refs less)) (length-map m.refs (plan.block code.max_locals) ∙ sound.refs)
      by false many = room_first class number pool m code locals sites coded many

  put_law : IsSoundMethod m → fault_of (blocks_put plan state class number pool m code sites) ≡ first_unfit (method_sizes class number pool m code locals sites)
  put_law sound =
      let spliced : Code → Spliced = as_spliced state (grown pool sites) m sites in
      moved (room class number code locals) coded spliced (λ s. record { made = s; entries = grown pool sites }) ∙ spliced_law sound
    where
      moved : (r : Fitting (Unit {0})) (next : Fitting Code) (spliced : Code → Spliced) (made : Spliced → WovenCode)
          → fault_of (r >>= λ fits. (next >>= λ new. Ok (spliced new)) >>= λ s. Ok (made s)) ≡ fault_of (r >>= λ fits. next)
      moved (Ok tt) next spliced made = then_ok (next >>= λ new. Ok (spliced new)) made ∙ then_ok next spliced
      moved (Err fault) next spliced made = refl

  code_law : IsSoundMethod m → fault_of (code_woven plan state class number pool m code) ≡ first_unfit (code_sizes plan class number pool m code)
  code_law sound = by (is_woven plan m)
    where
      by : (b : Bool) → fault_of (by_blocks b) ≡ first_unfit (if b then method_sizes class number pool m code (locals_of plan m) (sites_of plan code.max_locals m) else [])
      by true = put_law sound
      by false = refl

  code_pool : (w : WovenCode) → code_woven plan state class number pool m code ≡ Ok w → w.entries ≡ pool_after plan pool (Some m) (Some code)
  code_pool w =
      code_cases plan state class number pool m code (λ x. x.entries ≡ after (is_woven plan m)) w (λ some new put. sym (ap after some)) (λ none. sym (ap after none))
    where
      after : Bool → List Const
      after b = if b then grown pool sites else pool

-- ---- the members of a class

module _ (kinds : List Bool) (plan : Plan) (good : IsGood kinds plan) (state : ℕ) (class : LinkedClass) (sound : AllByRecursion IsSoundMethod class.methods) where
  body_law : (made : Members) (member : Member) (m : Option Method) (c : Option Code) → slice_get class.methods made.number ≡ m
      → fault_of (body_woven plan state class.name made member m c) ≡ first_unfit (body_sizes plan class.name made.number made.entries m c)
  body_law made member (Some m) (Some code) e =
      then_ok (code_woven plan state class.name made.number made.entries m code) (λ w. code_put made member w)
      ∙ code_law kinds plan good state class.name made.number made.entries m code (all_get IsSoundMethod class.methods made.number m sound e)
  body_law made member (Some m) None e = refl
  body_law made member None c e = refl

  body_after : (made next : Members) (member : Member) (m : Option Method) (c : Option Code) → body_woven plan state class.name made member m c ≡ Ok next
      → (next.number ≡ made.number + 1) × (next.entries ≡ pool_after plan made.entries m c)
  body_after made next member (Some m) (Some code) e =
      let one = bind_ok (code_woven plan state class.name made.number made.entries m code) (λ w. Ok (code_put made member w)) next e in
      let is : code_put made member one.0 ≡ next = ok_is SpliceFault (code_put made member one.0) next one.2 in
      (ap (λ (x : Members). x.number) (sym is), ap (λ (x : Members). x.entries) (sym is) ∙ code_pool kinds plan good state class.name made.number made.entries m code one.0 one.1)
  body_after made next member (Some m) None e =
      let is : bare_put made member (Some m) ≡ next = ok_is SpliceFault (bare_put made member (Some m)) next e in
      (ap (λ (x : Members). x.number) (sym is), ap (λ (x : Members). x.entries) (sym is))
  body_after made next member None c e =
      let is : bare_put made member None ≡ next = ok_is SpliceFault (bare_put made member None) next e in
      (ap (λ (x : Members). x.number) (sym is), ap (λ (x : Members). x.entries) (sym is))

  members_law : (members : List Member) (made : Members) → fault_of (folded (member_woven plan state class) made members) ≡ first_unfit (members_sizes plan class made.number made.entries members)
  members_law [] made = refl
  members_law (member ∷ members) made =
      let m = slice_get class.methods made.number in
      let c = first_code member.attrs in
      let here = body_sizes plan class.name made.number made.entries m c in
      let later = members_sizes plan class (made.number + 1) (pool_after plan made.entries m c) members in
      then_next (member_woven plan state class made member) (λ next. folded (member_woven plan state class) next members) (first_unfit later) (λ next e.
      let after = body_after made next member m c e in
      members_law members next ∙ ap (λ (n : ℕ). first_unfit (members_sizes plan class n next.entries members)) after.0
      ∙ ap (λ (p : List Const). first_unfit (members_sizes plan class (made.number + 1) p members)) after.1)
      ∙ ap (λ (o : Option SpliceFault). option_or o (first_unfit later)) (body_law made member m c refl) ∙ sym (first_of here later)

-- ---- classes

classes_law : (kinds : List Bool) (plan : Plan) → IsGood kinds plan → (state : ℕ) (made : Woven) (classes : List LinkedClass) → AllByRecursion IsSoundClass classes
    → fault_of (folded (class_woven plan state) made classes) ≡ first_unfit (classes_sizes plan classes)
classes_law kinds plan good state made [] sound = refl
classes_law kinds plan good state made (class ∷ classes) sound =
    let members = members_woven plan state class (none_made class.file.pool) class.file.methods in
    let here = members_sizes plan class 0 class.file.pool class.file.methods in
    let later = classes_sizes plan classes in
    then_next (class_woven plan state made class) (λ next. folded (class_woven plan state) next classes) (first_unfit later) (λ next e. classes_law kinds plan good state next classes sound.1)
    ∙ ap (λ (o : Option SpliceFault). option_or o (first_unfit later))
    (then_ok members (λ done. file_put made class done) ∙ members_law kinds plan good state class sound.0.methods class.file.methods (none_made class.file.pool))
    ∙ sym (first_of here later)

pub decide : SizesDecide
decide program plan vars sound good =
    let state = length program.classes in
    then_ok (classes_woven plan state nothing_woven program.classes) (λ made. state_put vars made)
    ∙ classes_law (map (λ (v : Var). v.is_bool) vars) plan good state nothing_woven program.classes sound.classes

-- ---- what is answered

pub fits_if : (program : Program) (plan : Plan) (vars : List Var) (r : Fitting Woven) → IsSound program → IsGood (map (λ (v : Var). v.is_bool) vars) plan
    → Answers faults.Memory r (woven program plan vars) → IsOk r → first_unfit (program_sizes program plan) ≡ None
fits_if program plan vars (Ok w) sound good told ok = sym (decide program plan vars sound good) ∙ ap fault_of told
fits_if program plan vars (Err fault) sound good told ok = absurd cc

pub unfit_if : (program : Program) (plan : Plan) (vars : List Var) (r : Fitting Woven) → IsSound program → IsGood (map (λ (v : Var). v.is_bool) vars) plan
    → Answers faults.Memory r (woven program plan vars) → IfErr r (λ fault. fault ≢ faults.Memory → first_unfit (program_sizes program plan) ≡ Some fault)
unfit_if program plan vars (Ok w) sound good told = tt
unfit_if program plan vars (Err fault) sound good told = λ other. sym (decide program plan vars sound good) ∙ ap fault_of (told other)
