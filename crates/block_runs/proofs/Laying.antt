-- A method with the blocks of a good plan is laid out as its sites say.
use Rattle.std.proofs.Common.{◌≡◌, ◌∙◌, ◌≤◌, ◌<◌, ℕ, zero, suc, ◌+◌, List, [], ◌∷◌, ◌++◌, length, map, Bool, true, false, cond, Option, Some, None, refl, sym, ap, subst, arith}
use Rattle.std.specs.Prelude.{nat_lt, option_map, slice_get}
use Rattle.std.specs.List.{AllByRecursion}
use Rattle.std.proofs.lemmas.List.{length-map}
use Rattle.std.proofs.lemmas.Option.{slice_get-map}
use Rattle.class_codec.specs.declared.tree.Const.{Const}
use Rattle.insn_codec.specs.declared.insn.Insn.{Insn}
use Rattle.insn_codec.specs.declared.insn.Insn.TheVariants as insns
use Rattle.insn_codec.specs.Control.{jump_targets}
use Rattle.insn_codec.specs.Fits.{AimsWithin}
use Rattle.bytecode_model.specs.declared.program.Handler.{Handler}
use Rattle.bytecode_model.specs.declared.program.Method.{Method}
use Rattle.bytecode_model.specs.declared.program.Target.{Target}
use Rattle.bytecode_model.specs.Sound as sound
use Rattle.bytecode_model.specs.Sound.{IsSoundMethod}
use Rattle.offset_patch.specs.declared.block.Block.{Block}
use Rattle.offset_patch.specs.declared.block.BlockInsn.{BlockInsn}
use Rattle.offset_patch.specs.declared.block.BlockInsn.TheVariants.{Plain, Byte, Short, Local, Want, Jump, Call}
use Rattle.offset_patch.specs.Fits.{IsSite, calls_in}
use Rattle.offset_patch.specs.Plan.{IsGood, Plan}
use Rattle.offset_patch.specs.Splicing.{aimed, at_fronts, call_place, fronts_of, handlers_with, part_named, part_of, parts_from, parts_named, put, spliced}
use Rattle.class_weaving.specs.Outcome.{IsWovenMethod, handlers_woven, insns_woven, refs_woven}
use Rattle.class_weaving.specs.Woven.{LocalsFit, is_woven, locals_of, plan_sites}
use Rattle.class_weaving.proofs.Lists.{get_left, get_right}
use Rattle.class_weaving.proofs.Sites.{refs_fit}
use Rattle.class_weaving.proofs.Unwoven.{all_alone, front_alone, handlers_same, insns_alone, named_alone, own_alone}
use Rattle.guest_erasing.specs.Laid.{IsLaid, IsWithin}
use Rattle.guest_erasing.specs.Places.{Sites, stand}

-- ---- where the call of a part stands

pub call_there : (insns : List BlockInsn) → calls_in insns ≡ 1 → slice_get insns (call_place insns) ≡ Some Call
unfolding call_place
call_there [] e = absurd cc
call_there (Call ∷ insns) e = refl
call_there (Plain op ∷ insns) e = call_there insns e
call_there (Byte n ∷ insns) e = call_there insns e
call_there (Short n ∷ insns) e = call_there insns e
call_there (Local op slot wide ∷ insns) e = call_there insns e
call_there (Want op want ∷ insns) e = call_there insns e
call_there (Jump op place ∷ insns) e = call_there insns e

site_call : (site : Option Block) → IsSite site → slice_get (part_of site) (call_place (part_of site)) ≡ Some Call
unfolding call_place
site_call None is = refl
site_call (Some block) is = call_there block.insns is.once

pub below_length : {X : Type 0} (xs : List X) (i : ℕ) (x : X) → slice_get xs i ≡ Some x → i < length xs
below_length [] i x e = absurd cc
below_length (y ∷ xs) zero x e = omega arith
below_length (y ∷ xs) (suc i) x e = omega (arith, below_length xs i x e)

-- ---- what stands there

insn_stands : (pool : List Const) (fronts : List ℕ) (begin : ℕ) (own : List Insn) (sites : Sites) → AllByRecursion IsSite sites
    → length sites ≡ length own
    → (i : ℕ) (insn : Insn) → slice_get own i ≡ Some insn
    → slice_get (parts_from pool fronts begin own sites) (stand sites i) ≡ Some (aimed fronts insn)
insn_stands pool fronts begin [] sites are many i insn e = absurd cc
insn_stands pool fronts begin (x ∷ own) [] are many i insn e = absurd (omega arith)
insn_stands pool fronts begin (x ∷ own) (site ∷ sites) are many zero insn e =
    let same : x ≡ insn = cc in
    let part = part_of site in
    let here : List Insn = map (put pool fronts begin x) part in
    let less : call_place part < length here = omega
    (arith, below_length part (call_place part) Call (site_call site are.0), length-map part (put pool fronts begin x)) in
    get_left here (parts_from pool fronts (begin + length part) own sites) (call_place part) less ∙ slice_get-map
    (put pool fronts begin x) part (call_place part)
    ∙ ap (option_map (put pool fronts begin x)) (site_call site are.0) ∙ ap (λ (y : Insn). Some (aimed fronts y)) same
insn_stands pool fronts begin (x ∷ own) (site ∷ sites) are many (suc i) insn e =
    let part = part_of site in
    let here : List Insn = map (put pool fronts begin x) part in
    let at : length part + stand sites i ≡ length here + stand sites i = omega (arith, length-map part (put pool fronts begin x)) in
    rw at (get_right here (parts_from pool fronts (begin + length part) own sites) (stand sites i) ∙ insn_stands pool fronts
    (begin + length part) own sites are.1 (omega arith) i insn e)

ref_stands : (state : ℕ) (own : List Target) (sites : Sites) → AllByRecursion IsSite sites → length sites ≡ length own
    → (i : ℕ) (ref : Target) → slice_get own i ≡ Some ref → slice_get (parts_named state own sites) (stand sites i) ≡ Some ref
ref_stands state [] sites are many i ref e = absurd cc
ref_stands state (x ∷ own) [] are many i ref e = absurd (omega arith)
ref_stands state (x ∷ own) (site ∷ sites) are many zero ref e =
    let same : x ≡ ref = cc in
    let part = part_of site in
    let here : List Target = map (part_named state x) part in
    let less : call_place part < length here = omega
    (arith, below_length part (call_place part) Call (site_call site are.0), length-map part (part_named state x)) in
    get_left here (parts_named state own sites) (call_place part) less ∙ slice_get-map (part_named state x) part (call_place part)
    ∙ ap (option_map (part_named state x)) (site_call site are.0) ∙ ap (λ (y : Target). Some y) same
ref_stands state (x ∷ own) (site ∷ sites) are many (suc i) ref e =
    let part = part_of site in
    let here : List Target = map (part_named state x) part in
    let at : length part + stand sites i ≡ length here + stand sites i = omega (arith, length-map part (part_named state x)) in
    rw at (get_right here (parts_named state own sites) (stand sites i) ∙ ref_stands state own sites are.1 (omega arith) i ref e)

-- ---- targets and handlers

jumps_within : (n : ℕ) (insn : Insn) → AimsWithin n insn → AllByRecursion (λ to. to < n) (jump_targets insn)
jumps_within n (insns.Branch op to) h = (h, tt)
jumps_within n (insns.GotoW to) h = (h, tt)
jumps_within n (insns.Table other low targets) h = h
jumps_within n (insns.Lookup other keys targets) h = h
jumps_within n (insns.Plain op) h = tt
jumps_within n (insns.Byte k) h = tt
jumps_within n (insns.Short k) h = tt
jumps_within n (insns.Ldc index) h = tt
jumps_within n (insns.Pool op index) h = tt
jumps_within n (insns.Iface index count) h = tt
jumps_within n (insns.Local op slot wide) h = tt
jumps_within n (insns.Inc slot by wide) h = tt
jumps_within n (insns.NewArray kind) h = tt

pub each_at : {X : Type 0} (P : X → Type 0) (xs : List X) → AllByRecursion P xs → (i : ℕ) (x : X) → slice_get xs i ≡ Some x → P x
each_at P [] are i x e = absurd cc
each_at P (y ∷ xs) are zero x e =
    let same : y ≡ x = cc in
    subst P same are.0
each_at P (y ∷ xs) are (suc i) x e = each_at P xs are.1 i x e

all_within : (n : ℕ) (handlers : List Handler) → AllByRecursion (sound.IsWithin n) handlers → AllByRecursion (IsWithin n) handlers
all_within n [] are = tt
all_within n (h ∷ handlers) are = (record { from = omega (arith, are.0.from); to = are.0.to; at = are.0.at }, all_within n handlers are.1)

-- ---- a method

module _ (plan : Plan) (kinds : List Bool) (good : IsGood kinds plan) (state : ℕ) (pool : List Const) (old new : Method)
    (ok : IsSoundMethod old) (room : LocalsFit plan old)
    (woven : IsWovenMethod plan state pool old new) where
  abbrev fronts : List ℕ
  fronts = fronts_of (plan_sites plan old)

  pub count : length (plan_sites plan old) ≡ length old.insns
  count = length-map old.refs (plan.block old.max_locals) ∙ ok.refs

  alone : is_woven plan old ≡ false → AllByRecursion (λ ref. plan.block old.max_locals ref ≡ None) old.refs
  alone e = all_alone plan old.max_locals (good.there old.max_locals) old.refs e

  none_fit : (refs : List Target) → AllByRecursion (λ ref. plan.block old.max_locals ref ≡ None) refs
      → AllByRecursion IsSite (map (plan.block old.max_locals) refs)
  none_fit [] are = tt
  none_fit (ref ∷ refs) are = (subst IsSite (sym are.0) tt, none_fit refs are.1)

  blocks_by : (b : Bool) → is_woven plan old ≡ b → AllByRecursion IsSite (plan_sites plan old)
  blocks_by true e = refs_fit kinds plan good old.max_locals old.refs (room e)
  blocks_by false e = none_fit old.refs (alone e)

  pub blocks : AllByRecursion IsSite (plan_sites plan old)
  blocks = blocks_by (is_woven plan old) refl

  insns_by : (b : Bool) → is_woven plan old ≡ b → insns_woven plan pool old ≡ spliced pool old.insns (plan_sites plan old)
  insns_by true e = ap (λ (b : Bool). cond b (spliced pool old.insns (plan_sites plan old)) old.insns) e
  insns_by false e =
      ap (λ (b : Bool). cond b (spliced pool old.insns (plan_sites plan old)) old.insns) e
      ∙ sym (insns_alone plan old.max_locals pool old.insns old.refs (alone e) (sym ok.refs) ok.targets)

  pub refs_by : (b : Bool) → is_woven plan old ≡ b → refs_woven plan state old ≡ parts_named state old.refs (plan_sites plan old)
  refs_by true e = ap (λ (b : Bool). cond b (parts_named state old.refs (plan_sites plan old)) old.refs) e
  refs_by false e =
      ap (λ (b : Bool). cond b (parts_named state old.refs (plan_sites plan old)) old.refs) e ∙ sym
      (named_alone plan old.max_locals state old.refs (alone e))

  handlers_by : (b : Bool) → is_woven plan old ≡ b → handlers_woven plan old ≡ handlers_with (plan_sites plan old) old.handlers
  handlers_by true e = ap (λ (b : Bool). cond b (handlers_with (plan_sites plan old) old.handlers) old.handlers) e
  handlers_by false e =
      ap (λ (b : Bool). cond b (handlers_with (plan_sites plan old) old.handlers) old.handlers) e
      ∙ sym (ap (λ (hs : List Handler). hs ++ map (at_fronts fronts) old.handlers) (own_alone plan old.max_locals 0 old.refs (alone e))
      ∙ handlers_same plan old.max_locals fronts (length old.insns)
      (λ i le. front_alone plan old.max_locals old.refs (alone e) i (omega (arith, le, ok.refs))) old.handlers ok.handlers)

  pub insns_are : new.insns ≡ spliced pool old.insns (plan_sites plan old)
  insns_are = woven.insns ∙ insns_by (is_woven plan old) refl

  code_by : (own : List Insn) (sites : Sites) → AllByRecursion IsSite sites → length sites ≡ length own
      → nat_lt 0 (length (parts_from pool fronts 0 own sites)) ≡ nat_lt 0 (length own)
  code_by [] sites are many = refl
  code_by (x ∷ own) sites are many =
      let there = below_length (parts_from pool fronts 0 (x ∷ own) sites) (stand sites 0) (aimed fronts x)
      (insn_stands pool fronts 0 (x ∷ own) sites are many 0 x refl) in
      grind (arith)

  stack_by : (b : Bool) → old.max_stack ≤ cond b (old.max_stack + 3) old.max_stack
  stack_by true = omega arith
  stack_by false = omega arith

  locals_by : (b : Bool) → old.max_locals ≤ cond b (old.max_locals + locals_of plan old) old.max_locals
  locals_by true = omega arith
  locals_by false = omega arith

  pub laid : IsLaid (plan_sites plan old) old new
  laid = record {
    flags = woven.flags;
    name = woven.name;
    desc = woven.desc;
    stack = subst (λ n. old.max_stack ≤ n) (sym woven.max_stack) (stack_by (is_woven plan old));
    locals = subst (λ n. old.max_locals ≤ n) (sym woven.max_locals) (locals_by (is_woven plan old));
    count = count;
    blocks = blocks;
    insns = λ i insn e.
        ap (λ (xs : List Insn). slice_get xs (stand (plan_sites plan old) i)) insns_are
        ∙ insn_stands pool fronts 0 old.insns (plan_sites plan old) blocks count i insn e;
    refs = λ i ref e.
        ap (λ (xs : List Target). slice_get xs (stand (plan_sites plan old) i)) (woven.refs ∙ refs_by (is_woven plan old) refl)
        ∙ ref_stands state old.refs (plan_sites plan old) blocks (length-map old.refs (plan.block old.max_locals)) i ref e;
    handlers = woven.handlers ∙ handlers_by (is_woven plan old) refl;
    code = ap (λ (xs : List Insn). nat_lt 0 (length xs)) insns_are ∙ code_by old.insns (plan_sites plan old) blocks count;
    jumps = λ i insn e. jumps_within (length old.insns) insn (each_at (AimsWithin (length old.insns)) old.insns ok.targets i insn e);
    within = all_within (length old.insns) old.handlers ok.handlers;
  }
