-- A method and what is woven of it by a plan: where its instructions and its handlers stand.
use Rattle.std.proofs.Common.{◌≡◌, ℕ, suc, ◌+◌, ◌≤◌, Bool, true, false, cond, List, ◌++◌, length, map, Option, Some, refl, sym, ap, ◌∙◌, arith}
use Rattle.std.specs.Prelude.{is_some, slice_get, slice_index, option_map}
use Rattle.std.proofs.lemmas.Option.{slice_get_within}
use Rattle.class_codec.specs.declared.tree.Const.{Const}
use Rattle.insn_codec.specs.declared.insn.Insn.{Insn}
use Rattle.bytecode_model.specs.declared.program.Handler.{Handler}
use Rattle.bytecode_model.specs.declared.program.Method.{Method}
use Rattle.bytecode_model.specs.declared.program.Target.{Target}
use Rattle.bytecode_model.specs.Sound.{IsSoundMethod}
use Rattle.offset_patch.specs.declared.block.Block.{Block}
use Rattle.offset_patch.specs.declared.block.BlockInsn.{BlockInsn}
use Rattle.offset_patch.specs.Plan.{Plan}
use Rattle.offset_patch.specs.Splicing.{fronts_of, parts_from, put, spliced}
use Rattle.offset_patch.specs.Splicing.{at_fronts, handlers_with, own_handlers, part_named, parts_named}
use Rattle.class_weaving.specs.Outcome.{IsWovenMethod}
use Rattle.class_weaving.specs.Woven.{is_woven, sites_of}
use Rattle.class_weaving.proofs.Parts as parts
use Rattle.class_weaving.proofs.Unwoven.{AreAlone, all_alone, front_alone, handlers_same, insns_alone, named_alone, own_alone}

-- A method of a linked program, and what it is in the woven one, whose blocks name constants of the pool.
pub record Weaves : Type 0 where
  pub plan : Plan
  -- the number of the class conspec/State
  pub state : ℕ
  pub pool : List Const
  pub method : Method
  pub made : Method
  pub of_method : IsWovenMethod plan state pool method made
  pub sound : IsSoundMethod method
  pub there : (ref : Target) → is_some (plan.block method.max_locals ref) ≡ plan.has_block ref

module _ (w : Weaves) where
  abbrev base : ℕ
  base = w.method.max_locals

  abbrev refs : List Target
  refs = w.method.refs

  abbrev sites : List (Option Block)
  sites = sites_of w.plan base w.method

  abbrev fronts : List ℕ
  fronts = fronts_of sites

  abbrev n : ℕ
  n = length w.method.insns

  abbrev part : Target → List BlockInsn
  part ref = parts.part w.plan base ref

  abbrev front : ℕ → ℕ
  front i = parts.before w.plan base refs i

  pub same_length : length refs ≡ n
  same_length = w.sound.refs

  -- ---- the code

  is_alone : is_woven w.plan w.method ≡ false → AreAlone w.plan base refs
  is_alone fails = all_alone w.plan base w.there refs fails

  insns_by : (c : Bool) → is_woven w.plan w.method ≡ c
      → cond c (spliced w.pool w.method.insns sites) w.method.insns ≡ parts_from w.pool fronts 0 w.method.insns sites
  insns_by true e = refl
  insns_by false e = sym (insns_alone w.plan base w.pool w.method.insns refs (is_alone e) (sym same_length) w.sound.targets)

  pub insns_are : w.made.insns ≡ parts_from w.pool fronts 0 w.method.insns sites
  insns_are = w.of_method.insns ∙ insns_by (is_woven w.plan w.method) refl

  refs_by : (c : Bool) → is_woven w.plan w.method ≡ c → cond c (parts_named w.state refs sites) refs ≡ parts_named w.state refs sites
  refs_by true e = refl
  refs_by false e = sym (named_alone w.plan base w.state refs (is_alone e))

  pub refs_are : w.made.refs ≡ parts_named w.state refs sites
  refs_are = w.of_method.refs ∙ refs_by (is_woven w.plan w.method) refl

  handlers_by : (c : Bool) → is_woven w.plan w.method ≡ c
      → cond c (handlers_with sites w.method.handlers) w.method.handlers ≡ handlers_with sites w.method.handlers
  handlers_by true e = refl
  handlers_by false e =
      sym
      (ap (λ (own : List Handler). own ++ map (at_fronts fronts) w.method.handlers) (own_alone w.plan base 0 refs (is_alone e))
      ∙ handlers_same w.plan base fronts n (λ i le. front_alone w.plan base refs (is_alone e) i (omega (arith, le, same_length)))
      w.method.handlers w.sound.handlers)

  -- The blocks' own handlers stand first.
  pub handlers_are : w.made.handlers ≡ own_handlers 0 sites ++ map (at_fronts fronts) w.method.handlers
  handlers_are = w.of_method.handlers ∙ handlers_by (is_woven w.plan w.method) refl

  -- ---- where instructions stand

  pub fronts_are : (i : ℕ) → i ≤ n → slice_index fronts i ≡ front i
  fronts_are i le = parts.front_is w.plan base refs 0 i (omega (arith, le, same_length)) ∙ omega arith

  pub next_front : (i : ℕ) (ref : Target) → slice_get refs i ≡ Some ref → front (suc i) ≡ front i + length (part ref)
  next_front i ref e = parts.before_next w.plan base refs i ref e

  pub made_long : length w.made.insns ≡ parts.total w.plan base refs
  made_long = ap length insns_are ∙ parts.insns_many w.plan base w.pool fronts 0 w.method.insns refs (sym same_length)

  -- After the last instruction the code ends.
  pub end_is : front n ≡ length w.made.insns
  end_is = ap (parts.before w.plan base refs) (sym same_length) ∙ parts.before_end w.plan base refs ∙ sym made_long

  pub insn_there : (i k : ℕ) (insn : Insn) (ref : Target) (x : BlockInsn) → slice_get w.method.insns i ≡ Some insn
      → slice_get refs i ≡ Some ref → slice_get (part ref) k ≡ Some x
      → slice_get w.made.insns (front i + k) ≡ Some (put w.pool fronts (front i) insn x)
  insn_there i k insn ref x e f g =
      let zero_is : 0 + front i ≡ front i = omega arith in
      ap (λ (xs : List Insn). slice_get xs (front i + k)) insns_are
      ∙ parts.insn_at w.plan base w.pool fronts 0 w.method.insns refs i k insn ref e f (slice_get_within (part ref) k x g)
      ∙ ap (λ (m : ℕ). option_map (put w.pool fronts m insn) (slice_get (part ref) k)) zero_is
      ∙ ap (option_map (put w.pool fronts (front i) insn)) g

  pub ref_there : (i k : ℕ) (ref : Target) (x : BlockInsn) → slice_get refs i ≡ Some ref → slice_get (part ref) k ≡ Some x
      → slice_get w.made.refs (front i + k) ≡ Some (part_named w.state ref x)
  ref_there i k ref x f g =
      ap (λ (xs : List Target). slice_get xs (front i + k)) refs_are
      ∙ parts.named_at w.plan base w.state refs i k ref f (slice_get_within (part ref) k x g)
      ∙ ap (option_map (part_named w.state ref)) g
