-- The plan of a policy: which calls have a block, and what stands for them.
use Rattle.std.proofs.Common.{◌≡◌, ℕ, ◌<◌, Bool, true, false, cond, List, length, map, Option, Some, None, refl, ap, ◌∙◌, arith}
use Rattle.std.specs.Prelude.{is_some, slice_get, option_map}
use Rattle.std.proofs.lemmas.List.{length-map}
use Rattle.std.proofs.lemmas.Option.{slice_get-map}
use Rattle.bytecode_model.specs.declared.program.Target.{Target}
use Rattle.bytecode_model.specs.declared.program.Target.TheVariants as target
use Rattle.cert_format.specs.declared.certificate.Mode.{Mode}
use Rattle.conspec_automaton.specs.declared.policy.Policy.{Policy}
use Rattle.conspec_automaton.specs.Next.{has_clauses}
use Rattle.offset_patch.specs.declared.block.Block.{Block}
use Rattle.offset_patch.specs.declared.block.BlockInsn.{BlockInsn}
use Rattle.offset_patch.specs.Splicing.{part_of}
use Rattle.block_template.specs.declared.item.Item.{Item}
use Rattle.block_template.specs.Blocks.{block_with, bools_of, clauses_of, has_block, items, plan_of, site}
use Rattle.block_template.proofs.Calling.{count_is}

module _ (policy : Policy) (mode : Mode) (base : ℕ) where
  -- the items of the block of a call of this method
  abbrev pub items_of : ℕ → List Item
  items_of callee = items mode (bools_of policy) base (clauses_of policy callee)

  abbrev pub block_of : ℕ → Block
  block_of callee = block_with mode (bools_of policy) base (clauses_of policy callee)

  -- what stands for an instruction whose operand names this
  abbrev part : Target → List BlockInsn
  part ref = part_of ((plan_of policy mode).block base ref)

  -- A call of a method that a clause names has a block; any other instruction has none.
  pub site_is : (callee : ℕ) → has_clauses policy callee ≡ true → site policy mode base (target.ApiMethod callee) ≡ Some (block_of callee)
  site_is callee has = ap (λ (b : Bool). cond b (Some (block_of callee)) None) has

  there_by : (b : Bool) (block : Block) → is_some (cond b (Some block) None) ≡ b
  there_by true block = refl
  there_by false block = refl

  pub there : (ref : Target) → is_some (site policy mode base ref) ≡ has_block policy ref
  there (target.ApiMethod callee) = there_by (has_clauses policy callee) (block_of callee)
  there target.None = refl
  there (target.Builtin i) = refl
  there (target.Method c m) = refl
  there (target.Field c f) = refl
  there (target.ApiField i) = refl
  there (target.ClassName name) = refl
  there (target.Number n) = refl
  there (target.Literal i) = refl

  pub none_there : (ref : Target) → has_block policy ref ≡ false → site policy mode base ref ≡ None
  none_there ref e = by (site policy mode base ref) (there ref ∙ e)
    where
      by : (o : Option Block) → is_some o ≡ false → o ≡ None
      by None f = refl
      by (Some block) f = absurd cc

  -- ---- what stands for a call

  pub part_is : (callee : ℕ) → has_clauses policy callee ≡ true → part (target.ApiMethod callee) ≡ map (λ (i : Item). i.insn) (items_of callee)
  part_is callee has = ap part_of (site_is callee has)

  pub part_length : (callee : ℕ) → has_clauses policy callee ≡ true → length (part (target.ApiMethod callee)) ≡ length (items_of callee)
  part_length callee has = ap length (part_is callee has) ∙ length-map (items_of callee) (λ (i : Item). i.insn)

  pub part_item : (callee : ℕ) → has_clauses policy callee ≡ true → (k : ℕ) (item : Item)
      → slice_get (items_of callee) k ≡ Some item → slice_get (part (target.ApiMethod callee)) k ≡ Some item.insn
  part_item callee has k item e =
      ap (λ (xs : List BlockInsn). slice_get xs k) (part_is callee has)
      ∙ slice_get-map (λ (i : Item). i.insn) (items_of callee) k ∙ ap (option_map (λ (i : Item). i.insn)) e

  pub insns_count : (callee : ℕ) → length (block_of callee).insns ≡ length (items_of callee)
  insns_count callee = length-map (items_of callee) (λ (i : Item). i.insn)

  some_by : (callee : ℕ) (b : Bool) → 0 < length (part_of (cond b (Some (block_of callee)) None))
  some_by callee false = omega arith
  some_by callee true = omega (arith, insns_count callee, count_is mode (bools_of policy) base (clauses_of policy callee))

  -- Each part has an instruction.
  pub some : (ref : Target) → 0 < length (part ref)
  some (target.ApiMethod callee) = some_by callee (has_clauses policy callee)
  some target.None = omega arith
  some (target.Builtin i) = omega arith
  some (target.Method c m) = omega arith
  some (target.Field c f) = omega arith
  some (target.ApiField i) = omega arith
  some (target.ClassName name) = omega arith
  some (target.Number n) = omega arith
  some (target.Literal i) = omega arith
