use Rattle.std.proofs.Common.{◌≡◌, true, ltb, inl, inr, sym, ap, subst, arith, below_more}
use Rattle.std.proofs.lemmas.Bool.{cases_Bool, ltb-true, ltb-false}
use Rattle.cert_format.specs.declared.typing.VType.{VType}
use Rattle.bytecode_model.specs.Assigning.{assignable}
use Rattle.bytecode_model.specs.Makes.{type_at}
use Rattle.type_infer.proofs.Lists.{type_at-read, type_at-past}
use Rattle.type_infer.proofs.joining.types_below.Goals as goal

pub loop-j-preserved : goal.loop-j-preserved
loop-j-preserved c =
    let read = type_at-read c.args.to.now c.loop-j.j c.index-to-j.result (omega arith) c.index-to-j.is in
    let here =
    subst (λ (t : VType). assignable c.args.program.now (type_at c.args.from.now c.loop-j.j) t ≡ true) (sym read) (c.type_below.ensures c.if-not-type_below.false) in
    below_more _ _ c.loop-j.invariant here

pub returns : goal.returns
returns c h j =
    elim (cases_Bool (ltb j c.loop-j.j)) [
      | inl inside ↦ c.loop-j.invariant j (ltb-true j c.loop-j.j inside)
      | inr past ↦
          let at = ltb-false j c.loop-j.j past in
          ap (assignable c.args.program.now (type_at c.args.from.now j)) (type_at-past c.args.to.now j (omega arith))
    ]
