use Rattle.std.proofs.Common.{◌≡◌, List, Option, Some, None, ap, sym, subst, ◌∙◌}
use denote.Ref.{Bor}
use Rattle.std.specs.Prelude.{option_copied, slice_get}
use Rattle.class_codec.specs.declared.tree.Attr.{Attr}
use Rattle.class_codec.specs.declared.tree.Code.{Code}
use Rattle.bytecode_model.specs.declared.program.Method.{Method}
use Rattle.mon_base.proofs.Lists.{got}
use Rattle.mon_base.specs.Answer.{AnswersAs}
use Rattle.offset_patch.specs.declared.fault.SpliceFault.TheVariants.{Memory}
use Rattle.class_weaving.specs.Woven.{body_woven, first_code}
use Rattle.class_weaving.proofs.members.member_woven.Goals as goal

pub returns-in_default-clause-is : goal.returns-in_default-clause-is
returns-in_default-clause-is g c =
    let plan = g.P.Planner.plan c.args.planner.now in
    let class = c.args.class.now in
    let member = c.args.member.now in
    let made = c.args.made.now in
    let there = got c.get.result c.as_slice.result.now made.number c.get.ensures.lookup.3 c.get.ensures.lookup.1 in
    let none : None ≡ slice_get class.methods made.number = sym (ap (λ (o : Option (Bor Method)). option_copied o) c.in_default.is) ∙ there ∙ ap (λ (ms : List Method). slice_get ms made.number) c.as_slice.ensures in
    subst (λ (o : Option Method). AnswersAs Memory (λ done. c.bare_put.new.made) c.bare_put.result (body_woven plan c.args.state class.name made member o (first_code member.attrs))) none c.bare_put.ensures

pub returns-clause-is : goal.returns-clause-is
returns-clause-is g c =
    let plan = g.P.Planner.plan c.args.planner.now in
    let class = c.args.class.now in
    let member = c.args.member.now in
    let made = c.args.made.now in
    let there = got c.get.result c.as_slice.result.now made.number c.get.ensures.lookup.3 c.get.ensures.lookup.1 in
    let some : Some c.in-Some.method.now ≡ slice_get class.methods made.number = sym (ap (λ (o : Option (Bor Method)). option_copied o) c.in-Some.is) ∙ there ∙ ap (λ (ms : List Method). slice_get ms made.number) c.as_slice.ensures in
    let code : Some c.in-Some-first_code.code.now ≡ first_code member.attrs = sym (ap (λ (o : Option (Bor Code)). option_copied o) c.in-Some-first_code.is) ∙ c.first_code.ensures ∙ ap (λ (attrs : List Attr). first_code attrs) c.as_slice-2.ensures in
    subst (λ (o : Option Method). AnswersAs Memory (λ done. c.body_woven.new.made) c.body_woven.result (body_woven plan c.args.state class.name made member o (first_code member.attrs))) some
    (subst (λ (o : Option Code). AnswersAs Memory (λ done. c.body_woven.new.made) c.body_woven.result (body_woven plan c.args.state class.name made member (Some c.in-Some.method.now) o)) code c.body_woven.ensures.is)
