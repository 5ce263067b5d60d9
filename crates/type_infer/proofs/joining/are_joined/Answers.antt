use Rattle.std.proofs.Common.{◌≡◌, ◌∙◌, ltb, inl, inr, sym, arith, below_more}
use Rattle.std.proofs.lemmas.Bool.{cases_Bool, ltb-true, ltb-false}
use Rattle.type_lattice.specs.Merging.{merged}
use Rattle.bytecode_model.specs.Makes.{type_at}
use Rattle.type_infer.proofs.Lists.{type_at-read, type_at-past, merged-past}
use Rattle.type_infer.proofs.joining.are_joined.Goals as goal

pub loop-i-preserved : goal.loop-i-preserved
loop-i-preserved c =
    let i = c.loop-i.i in
    let a = type_at-read c.args.a.now i c.index-a-i.result (omega (arith, c.min.ensures, c.if-joined-min.false, c.loop-i-test.true)) c.index-a-i.is in
    let b = type_at-read c.args.b.now i c.index-b-i.result (omega (arith, c.min.ensures, c.if-joined-min.false, c.loop-i-test.true)) c.index-b-i.is in
    let joined : type_at c.args.joined.now i ≡ c.index-joined-i.result = type_at-read c.args.joined.now i c.index-joined-i.result c.loop-i-test.true c.index-joined-i.is in
    let value : c.in_ok-one.one ≡ merged c.args.program.now (type_at c.args.a.now i) (type_at c.args.b.now i) = rw (a, b) c.in_ok-one.ensures in
    let same : c.in_ok-one.one ≡ c.index-joined-i.result = c.is_same_type.ensures.0 c.if-not-is_same_type.false in
    below_more _ _ c.loop-i.invariant (joined ∙ sym same ∙ value)

pub returns : goal.returns
returns c h j =
    elim (cases_Bool (ltb j c.loop-i.i)) [
      | inl inside ↦ c.loop-i.invariant j (ltb-true j c.loop-i.i inside)
      | inr past ↦
          let at = ltb-false j c.loop-i.i past in
          type_at-past c.args.joined.now j (omega (arith, at, c.loop-i-test.false))
          ∙ sym (merged-past c.args.program.now c.args.a.now c.args.b.now j (omega (arith, at, c.min.ensures, c.if-joined-min.false, c.loop-i-test.false)))
    ]
