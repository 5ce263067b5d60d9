-- The block of a call stands in the woven method, which has room for what it keeps and pushes.
use Rattle.std.proofs.Common.{
  ◌≡◌,
  ◌∙◌,
  ◌≤◌,
  ◌<◌,
  ℕ,
  zero,
  suc,
  ◌+◌,
  List,
  [],
  ◌∷◌,
  length,
  map,
  Bool,
  true,
  false,
  cond,
  Option,
  Some,
  refl,
  sym,
  ap,
  subst,
  arith,
}
use Rattle.std.specs.Prelude.{◌||◌, is_some, option_map, slice_get}
use Rattle.std.specs.List.{AllByRecursion, list_any}
use Rattle.std.proofs.lemmas.List.{length-map}
use Rattle.std.proofs.lemmas.Option.{slice_get-map, slice_get_within}
use Rattle.mon_base.proofs.Lists.{get_kept}
use Rattle.class_codec.specs.declared.tree.Const.{Const}
use Rattle.insn_codec.specs.declared.insn.Insn.{Insn}
use Rattle.bytecode_model.specs.declared.program.LinkedClass.{LinkedClass}
use Rattle.bytecode_model.specs.declared.program.Method.{Method}
use Rattle.bytecode_model.specs.declared.program.Program.{Program}
use Rattle.bytecode_model.specs.declared.program.Target.{Target}
use Rattle.bytecode_model.specs.declared.program.Target.TheVariants as target
use Rattle.bytecode_model.specs.Sound.{IsSound, IsSoundClass, IsSoundMethod}
use Rattle.cert_format.specs.declared.certificate.Mode.{Mode}
use Rattle.conspec_tree.specs.declared.types.Var.{Var}
use Rattle.conspec_automaton.specs.declared.policy.Policy.{Policy}
use Rattle.offset_patch.specs.declared.block.Block.{Block}
use Rattle.offset_patch.specs.declared.block.BlockInsn.{BlockInsn}
use Rattle.offset_patch.specs.Fits.{IsSite}
use Rattle.offset_patch.specs.Plan.{IsGood, Plan}
use Rattle.offset_patch.specs.Splicing.{fronts_of, operands_needed, part_named, part_of, parts_from, parts_named, put, spliced}
use Rattle.block_template.specs.Blocks.{block, locals_used, plan_of}
use Rattle.class_weaving.specs.Outcome.{IsWoven, IsWovenClass, IsWovenMethod}
use Rattle.class_weaving.specs.Woven.{AllLocalsFit, LocalsFit, is_woven, locals_of, most_locals, plan_sites}
use Rattle.class_weaving.proofs.Lists.{each_on, get_left, get_right, slice_there}
use Rattle.class_weaving.proofs.Sites.{refs_fit}
use Rattle.guest_model.specs.Places.{insn_in, method_at}
use Rattle.guest_model.proofs.Options.{all_get, and_then_of, some_is}
use Rattle.guest_erasing.specs.Places.{Sites, front}
use Rattle.block_runs.specs.Joining.{BlocksArePut, IsPut, sites}

-- ---- what stands in a part

module _ (k : ℕ) (site : Option Block) (insn : BlockInsn) (there : slice_get (part_of site) k ≡ Some insn) where
  within : (other : Option Block) → other ≡ site → slice_get (part_of other) k ≡ Some insn
  within other same = ap (λ (s : Option Block). slice_get (part_of s) k) same ∙ there

  -- where the part stands, and what it puts there
  put_there : (pool : List Const) (fronts : List ℕ) (begin : ℕ) (own : List Insn) (sites : Sites) (i : ℕ) (x : Insn)
      → slice_get own i ≡ Some x → slice_get sites i ≡ Some site
      → slice_get (parts_from pool fronts begin own sites) (front sites i + k) ≡ Some (put pool fronts (begin + front sites i) x insn)
  put_there pool fronts begin [] sites i x e f = absurd cc
  put_there pool fronts begin (y ∷ own) [] i x e f = absurd cc
  put_there pool fronts begin (y ∷ own) (s ∷ sites) zero x e f =
      let part = part_of s in
      let h : slice_get part k ≡ Some insn = within s (some_is s site f) in
      let here : List Insn = map (put pool fronts begin y) part in
      let less : k < length here = omega (arith, slice_get_within part k insn h, length-map part (put pool fronts begin y)) in
      let at : 0 + k ≡ k = omega arith in
      let from : begin + 0 ≡ begin = omega arith in
      rw (at, from) (
      get_left here (parts_from pool fronts (begin + length part) own sites) k less ∙ slice_get-map (put pool fronts begin y) part k
      ∙ ap (option_map (put pool fronts begin y)) h ∙ ap (λ (z : Insn). Some (put pool fronts begin z insn)) (some_is y x e)
      )
  put_there pool fronts begin (y ∷ own) (s ∷ sites) (suc i) x e f =
      let part = part_of s in
      let here : List Insn = map (put pool fronts begin y) part in
      let at : (length part + front sites i) + k ≡ length here + (front sites i + k) =
      omega (arith, length-map part (put pool fronts begin y)) in
      let from : begin + (length part + front sites i) ≡ (begin + length part) + front sites i = omega arith in
      rw (at, from) (
      get_right here (parts_from pool fronts (begin + length part) own sites) (front sites i + k)
      ∙ put_there pool fronts (begin + length part) own sites i x e f
      )

  -- what that names
  named_there : (state : ℕ) (own : List Target) (sites : Sites) (i : ℕ) (x : Target)
      → slice_get own i ≡ Some x → slice_get sites i ≡ Some site
      → slice_get (parts_named state own sites) (front sites i + k) ≡ Some (part_named state x insn)
  named_there state [] sites i x e f = absurd cc
  named_there state (y ∷ own) [] i x e f = absurd cc
  named_there state (y ∷ own) (s ∷ sites) zero x e f =
      let part = part_of s in
      let h : slice_get part k ≡ Some insn = within s (some_is s site f) in
      let here : List Target = map (part_named state y) part in
      let less : k < length here = omega (arith, slice_get_within part k insn h, length-map part (part_named state y)) in
      let at : 0 + k ≡ k = omega arith in
      rw at (
      get_left here (parts_named state own sites) k less ∙ slice_get-map (part_named state y) part k
      ∙ ap (option_map (part_named state y)) h ∙ ap (λ (z : Target). Some (part_named state z insn)) (some_is y x e)
      )
  named_there state (y ∷ own) (s ∷ sites) (suc i) x e f =
      let part = part_of s in
      let here : List Target = map (part_named state y) part in
      let at : (length part + front sites i) + k ≡ length here + (front sites i + k) =
      omega (arith, length-map part (part_named state y)) in
      rw at (get_right here (parts_named state own sites) (front sites i + k) ∙ named_there state own sites i x e f)

-- ---- a method with a block

-- what passes the test is among them
one_passes : {A : Type 0} (p : A → Bool) (xs : List A) (i : ℕ) (x : A) → slice_get xs i ≡ Some x → p x ≡ true → list_any p xs ≡ true
one_passes p [] i x e h = absurd cc
one_passes p (y ∷ xs) zero x e h =
    let is : p y ≡ true = ap p (some_is y x e) ∙ h in
    ap (λ (b : Bool). b || list_any p xs) is
one_passes p (y ∷ xs) (suc i) x e h = by (p y) (one_passes p xs i x e h) where
  by : (b : Bool) → list_any p xs ≡ true → (b || list_any p xs) ≡ true
  by true later = refl
  by false later = later

-- Its locals are at most the most.
used_at : (plan : Plan) (refs : List Target) (i : ℕ) (ref : Target) → slice_get refs i ≡ Some ref → plan.locals ref ≤ most_locals plan refs
used_at plan [] i ref e = absurd cc
used_at plan (r ∷ refs) zero ref e =
    let same : plan.locals r ≡ plan.locals ref = ap (λ (t : Target). plan.locals t) (some_is r ref e) in
    omega (arith, same)
used_at plan (r ∷ refs) (suc i) ref e = omega (arith, used_at plan refs i ref e)

module _ (policy : Policy) (mode : Mode) (client woven : Program) (kinds : List Bool) (good : IsGood kinds (plan_of policy mode)) where
  abbrev plan : Plan
  plan = plan_of policy mode

  module _ (class method : ℕ) (pool : List Const) (old new : Method) (ok : IsSoundMethod old) (room : LocalsFit plan old)
      (w : IsWovenMethod plan (length client.classes) pool old new) (new_there : method_at woven class method ≡ Some new)
      (index listed : ℕ) (made : Block) (ref_there : slice_get old.refs index ≡ Some (target.ApiMethod listed))
      (is : block policy mode listed old.max_locals ≡ Some made) where
    abbrev all : Sites
    all = plan_sites plan old

    site_there : slice_get all index ≡ Some (Some made)
    site_there =
        slice_get-map (plan.block old.max_locals) old.refs index ∙ ap (option_map (plan.block old.max_locals)) ref_there
        ∙ ap (λ (o : Option Block). Some o) is

    has : plan.has_block (target.ApiMethod listed) ≡ true
    has = sym (good.there old.max_locals (target.ApiMethod listed)) ∙ ap is_some is

    has_one : is_woven plan old ≡ true
    has_one = one_passes plan.has_block old.refs index (target.ApiMethod listed) ref_there has

    insns_are : new.insns ≡ spliced pool old.insns all
    insns_are = w.insns ∙ ap (λ (b : Bool). cond b (spliced pool old.insns all) old.insns) has_one

    refs_are : new.refs ≡ parts_named (length client.classes) old.refs all
    refs_are = w.refs ∙ ap (λ (b : Bool). cond b (parts_named (length client.classes) old.refs all) old.refs) has_one

    insn_there : (x : Insn) × (slice_get old.insns index ≡ Some x)
    insn_there = slice_there old.insns index (omega (arith, ok.refs, slice_get_within old.refs index (target.ApiMethod listed) ref_there))

    abbrev begin : ℕ
    begin = front all index

    stands : (k : ℕ) (insn : BlockInsn) → slice_get made.insns k ≡ Some insn
        → insn_in new (begin + k)
        ≡ Some (put pool (fronts_of all) begin insn_there.0 insn, part_named (length client.classes) (target.ApiMethod listed) insn)
    stands k insn e =
        let from : 0 + begin ≡ begin = omega arith in
        let a : slice_get new.insns (begin + k) ≡ Some (put pool (fronts_of all) (0 + begin) insn_there.0 insn) =
        ap (λ (xs : List Insn). slice_get xs (begin + k)) insns_are
        ∙ put_there k (Some made) insn e pool (fronts_of all) 0 old.insns all index insn_there.0 insn_there.1 site_there in
        let b : slice_get new.refs (begin + k) ≡ Some (part_named (length client.classes) (target.ApiMethod listed) insn) =
        ap (λ (xs : List Target). slice_get xs (begin + k)) refs_are
        ∙ named_there k (Some made) insn e (length client.classes) old.refs all index (target.ApiMethod listed) ref_there site_there in
        rw (a, b, from) refl

    site_fits : IsSite (Some made)
    site_fits =
        all_get IsSite all index (Some made) (refs_fit kinds plan good old.max_locals old.refs (room has_one)) site_there

    locals_fit : old.max_locals + locals_used policy listed ≤ new.max_locals
    locals_fit =
        let many : new.max_locals ≡ old.max_locals + locals_of plan old =
        w.max_locals ∙ ap (λ (b : Bool). cond b (old.max_locals + locals_of plan old) old.max_locals) has_one in
        omega (arith, many, used_at plan old.refs index (target.ApiMethod listed) ref_there)

    stack_fits : old.max_stack + operands_needed ≤ new.max_stack
    stack_fits =
        let many : new.max_stack ≡ old.max_stack + operands_needed =
        w.max_stack ∙ ap (λ (b : Bool). cond b (old.max_stack + operands_needed) old.max_stack) has_one in
        omega (arith, many)

    is_put : IsPut policy mode client woven class method old new index listed made
    is_put = record {
      code = record {
        pool = pool;
        fronts = fronts_of all;
        own = insn_there.0;
        ref = target.ApiMethod listed;
        code = new;
        there = new_there;
        each = stands;
        are = site_fits.each;
      };
      locals = locals_fit;
      stack = stack_fits;
    }

  -- ---- the program

  -- The blocks of all calls are put.
  pub blocks_put : (vars : List Var) → IsSound client → AllLocalsFit plan client → IsWoven client plan vars woven
      → BlocksArePut policy mode client woven
  blocks_put vars sound room w class method old new e f index listed made =
      let c = and_then_of (λ (c : LinkedClass). slice_get c.methods method) (slice_get client.classes class) old e in
      let n = each_on (IsWovenClass plan (length client.classes)) client.classes w.own class c.0 w.classes c.1 in
      let there : slice_get woven.classes class ≡ Some n.0 =
      ap (λ (cs : List LinkedClass). slice_get cs class) w.are ∙ get_kept w.own (w.state ∷ []) class n.0 n.1 in
      let d = and_then_of (λ (c : LinkedClass). slice_get c.methods method) (slice_get woven.classes class) new f in
      let same_class : d.0 ≡ n.0 = some_is d.0 n.0 (sym d.1 ∙ there) in
      let m = each_on (IsWovenMethod plan (length client.classes) n.0.file.pool) c.0.methods n.0.methods method old n.2.methods c.2 in
      let same : m.0 ≡ new = some_is m.0 new (sym m.1 ∙ ap (λ (k : LinkedClass). slice_get k.methods method) (sym same_class) ∙ d.2) in
      let sound_class = all_get IsSoundClass client.classes class c.0 sound.classes c.1 in
      let fits = all_get (λ (k : LinkedClass). AllByRecursion (LocalsFit plan) k.methods) client.classes class c.0 room c.1 in
      is_put class method n.0.file.pool old new (all_get IsSoundMethod c.0.methods method old sound_class.methods c.2)
      (all_get (LocalsFit plan) c.0.methods method old fits c.2)
      (subst (IsWovenMethod plan (length client.classes) n.0.file.pool old) same m.2) f index listed made
