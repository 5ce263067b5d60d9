use Rattle.std.proofs.Common.{◌≡◌, ◌∙◌, ℕ, ◌<◌, ◌++◌, ◌∷◌, [], length, ltb, inl, inr, sym, ap, subst, arith, below_more}
use Rattle.std.proofs.lemmas.Bool.{cases_Bool, ltb-true, ltb-false}
use Rattle.std.proofs.lemmas.List.{length-append}
use Rattle.type_lattice.specs.Merging.{merged}
use Rattle.bytecode_model.specs.Makes.{type_at}
use Rattle.type_infer.proofs.Lists.{type_at-read, type_at-append, type_at-seam, type_at-past, merged-past}
use Rattle.type_infer.proofs.joining.types_joined.Goals as goal

pub loop-i-preserved : goal.loop-i-preserved
loop-i-preserved c =
    let x = c.in_ok-one.one in
    let is : c.push.new.self ≡ c.loop-i.joined ++ x ∷ [] = c.in_ok-push.ensures.ok in
    let a = type_at-read c.args.a.now c.loop-i.i c.index-a-i.result (omega arith) c.index-a-i.is in
    let b = type_at-read c.args.b.now c.loop-i.i c.index-b-i.result (omega arith) c.index-b-i.is in
    let value : x ≡ merged c.args.program.now (type_at c.args.a.now c.loop-i.i) (type_at c.args.b.now c.loop-i.i) = rw (a, b) c.in_ok-one.ensures in
    let seam : type_at (c.loop-i.joined ++ x ∷ []) c.loop-i.i ≡ x =
    subst (λ (n : ℕ). type_at (c.loop-i.joined ++ x ∷ []) n ≡ x) c.loop-i.invariant.0 (type_at-seam c.loop-i.joined x []) in
    let earlier = λ (j : ℕ) (h : j < c.loop-i.i). ap (λ l. type_at l j) is ∙ type_at-append c.loop-i.joined (x ∷ []) j (omega arith) ∙ c.loop-i.invariant.1 j h in
    (ap length is ∙ length-append c.loop-i.joined (x ∷ []) ∙ omega arith, below_more _ _ earlier (ap (λ l. type_at l c.loop-i.i) is ∙ seam ∙ value))

pub returns-clause-merged : goal.returns-clause-merged
returns-clause-merged c j =
    elim (cases_Bool (ltb j c.loop-i.i)) [
      | inl inside ↦ c.loop-i.invariant.1 j (ltb-true j c.loop-i.i inside)
      | inr past ↦
          let at = ltb-false j c.loop-i.i past in
          type_at-past c.loop-i.joined j (omega arith) ∙ sym (merged-past c.args.program.now c.args.a.now c.args.b.now j (omega arith))
    ]
