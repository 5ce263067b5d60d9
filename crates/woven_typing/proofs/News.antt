-- What is made at an index is made at its front.
use Rattle.std.proofs.Common.{◌≡◌, ℕ, ◌+◌, ◌<◌, ◌≤◌, true, length, Option, Some, refl, sym, ap, ◌∙◌, inl, inr, arith}
use Rattle.std.specs.Prelude.{nat_lt, slice_get}
use Rattle.std.proofs.lemmas.Bool.{cases_Bool, ltb-true}
use Rattle.std.proofs.lemmas.Bool.Decides.{nat_tests}
use Rattle.std.proofs.lemmas.Option.{slice_get_past}
use Rattle.insn_codec.specs.declared.insn.Insn.{Insn}
use Rattle.insn_codec.specs.declared.shape.Shape.{Shape}
use Rattle.insn_codec.specs.Shapes.{shape_of}
use Rattle.bytecode_model.specs.declared.program.Target.{Target}
use Rattle.bytecode_model.specs.declared.program.Target.TheVariants as target
use Rattle.bytecode_model.specs.Makes.{made_by, new_at, new_in}
use Rattle.conspec_automaton.specs.Next.{has_clauses}
use Rattle.offset_patch.specs.declared.block.BlockInsn.TheVariants.{Call}
use Rattle.offset_patch.specs.Splicing.{aimed, put}
use Rattle.block_template.specs.declared.item.Item.{Item}
use Rattle.block_template.specs.Blocks.{bools_of, clauses_of, has_block}
use Rattle.woven_typing.specs.Framing.{items_of}
use Rattle.class_weaving.proofs.Bodies.{insn_there, ref_there, same_length}
use Rattle.woven_typing.proofs.Aiming.{has_shape}
use Rattle.woven_typing.proofs.Body.{Body, base, front, fronts, moved, moved_is, moved_past, part, plan, pool, state, there, weaves}
use Rattle.block_template.proofs.Calling.{count_is, each_holds}
use Rattle.class_weaving.proofs.Lists.{slice_there}
use Rattle.woven_typing.proofs.Making.{MakesNothing, blocks_make, made_elsewhere, made_nothing}
use Rattle.block_template.proofs.Plans.{part_item}
use Rattle.class_weaving.proofs.Unwoven.{no_block, part_alone}

module _ (b : Body) where
  -- what the client's instruction makes, at its front
  client_makes : (i : ℕ) (insn : Insn) (ref : Target) → slice_get b.method.insns i ≡ Some insn → slice_get b.method.refs i ≡ Some ref
      → slice_get (part b ref) 0 ≡ Some Call → new_at b.made (front b i + 0) ≡ made_by (shape_of insn) ref
  client_makes i insn ref e f call =
      let shape = has_shape (fronts b) insn in
      ap (λ (o : Option Insn). new_in o (slice_get b.made.refs (front b i + 0))) (insn_there (weaves b) i 0 insn ref Call e f call)
      ∙ ap (λ (o : Option Target). new_in (Some (aimed (fronts b) insn)) o) (ref_there (weaves b) i 0 ref Call f call)
      ∙ ap (λ (s : Shape). made_by s ref) shape.is ∙ made_elsewhere shape.to (shape_of insn) ref

  -- What stands first in a block makes nothing.
  block_makes : (i callee : ℕ) (insn : Insn) → slice_get b.method.insns i ≡ Some insn
      → slice_get b.method.refs i ≡ Some (target.ApiMethod callee) → has_clauses b.policy callee ≡ true
      → new_at b.made (front b i + 0) ≡ made_by (shape_of insn) (target.ApiMethod callee)
  block_makes i callee insn e f has =
      let ref : Target = target.ApiMethod callee in
      let some : 0 < length (items_of b.policy b.mode (base b) callee) =
      omega (arith, count_is b.mode (bools_of b.policy) (base b) (clauses_of b.policy callee)) in
      let first = slice_there (items_of b.policy b.mode (base b) callee) 0 some in
      let there : slice_get (part b ref) 0 ≡ Some first.0.insn = part_item b.policy b.mode (base b) callee has 0 first.0 first.1 in
      elim (each_holds b.mode (bools_of b.policy) (base b) (clauses_of b.policy callee) MakesNothing (blocks_make _) 0 first.0 first.1) [
        | inl call ↦ client_makes i insn ref e f (there ∙ ap (λ (x : Item). Some x.insn) call.1)
        | inr other ↦
            ap (λ (o : Option Insn). new_in o (slice_get b.made.refs (front b i + 0))) (insn_there (weaves b) i 0 insn ref first.0.insn e f there)
            ∙ ap (λ (o : Option Target). new_in (Some (put (pool b) (fronts b) (front b i) insn first.0.insn)) o)
            (ref_there (weaves b) i 0 ref first.0.insn f there)
            ∙ other.is (pool b) (fronts b) (front b i) insn (state b) ref
            ∙ sym (made_nothing (shape_of insn) ref refl)
      ]

  there_makes : (i : ℕ) (insn : Insn) (ref : Target) → slice_get b.method.insns i ≡ Some insn → slice_get b.method.refs i ≡ Some ref
      → new_at b.made (front b i + 0) ≡ made_by (shape_of insn) ref
  there_makes i insn ref e f =
      elim (cases_Bool (has_block b.policy ref)) [
        | inl is ↦ blocked ref is e f
        | inr fails ↦
            let alone : part b ref ≡ _ = part_alone (plan b) (base b) ref (no_block (plan b) (base b) (there b) ref fails) in
            client_makes i insn ref e f (ap (λ xs. slice_get xs 0) alone)
      ]
    where
      blocked : (ref : Target) → has_block b.policy ref ≡ true → slice_get b.method.insns i ≡ Some insn
          → slice_get b.method.refs i ≡ Some ref → new_at b.made (front b i + 0) ≡ made_by (shape_of insn) ref
      blocked (target.ApiMethod callee) is e f = block_makes i callee insn e f is
      blocked target.None is e f = absurd cc
      blocked (target.Builtin j) is e f = absurd cc
      blocked (target.Method c m) is e f = absurd cc
      blocked (target.Field c g) is e f = absurd cc
      blocked (target.ApiField j) is e f = absurd cc
      blocked (target.ClassName name) is e f = absurd cc
      blocked (target.Number n) is e f = absurd cc
      blocked (target.Literal j) is e f = absurd cc

  pub news : (i : ℕ) → new_at b.made (moved b i) ≡ new_at b.method i
  news i =
      elim (cases_Bool (nat_lt i (length b.method.insns))) [
        | inl is ↦
            let lt : i < length b.method.insns = ltb-true _ _ is in
            let x = slice_there b.method.insns i lt in
            let r = slice_there b.method.refs i (omega (arith, lt, same_length (weaves b))) in
            let at : moved b i ≡ front b i + 0 = moved_is b i lt ∙ omega arith in
            ap (new_at b.made) at ∙ there_makes i x.0 r.0 x.1 r.1
            ∙ sym (ap (λ (o : Option Insn). new_in o (slice_get b.method.refs i)) x.1 ∙ ap (λ (o : Option Target). new_in (Some x.0) o) r.1)
        | inr fails ↦
            let past : length b.method.insns ≤ i = grind (arith, nat_tests) in
            let following : length b.made.insns ≤ moved b i = moved_past b i past in
            ap (λ (o : Option Insn). new_in o (slice_get b.made.refs (moved b i))) (slice_get_past b.made.insns (moved b i) following)
            ∙ sym (ap (λ (o : Option Insn). new_in o (slice_get b.method.refs i)) (slice_get_past b.method.insns i past))
      ]
