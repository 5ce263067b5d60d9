use Rattle.std.proofs.Common.{◌∙◌, sym, ap, below_more}
use Rattle.std.specs.Prelude.{is_some}
use Rattle.std.proofs.lemmas.Bool.{false≢true}
use Rattle.bytecode_model.specs.Typed.{row_in}
use Rattle.type_infer.specs.Solving.{Scope}
use Rattle.type_infer.proofs.Lists.{not_some}
use Rattle.type_infer.proofs.failing.rows_met.Goals as goal

pub loop-at-preserved : goal.loop-at-preserved
loop-at-preserved c =
    let none = not_some c.row_in.result (sym c.is_some.ensures ∙ c.if-is_some.false) in
    let here = ap (λ (s : Scope). row_in s.program s.own s.class s.method c.args.frames.now c.loop-at.at) (sym c.body.view_is) ∙ sym c.row_in.ensures ∙ none in
    below_more _ _ c.loop-at.invariant here

pub returns-then-is_some-clause-unmet : goal.returns-then-is_some-clause-unmet
returns-then-is_some-clause-unmet c fails met =
    let none = c.row_in.ensures ∙ ap (λ (s : Scope). row_in s.program s.own s.class s.method c.args.frames.now c.loop-at.at) c.body.view_is ∙ met c.loop-at.at c.loop-at-test.true in
    false≢true (sym (ap is_some none) ∙ sym c.is_some.ensures ∙ c.if-is_some.true)
