use Rattle.std.proofs.Common.{◌∙◌, List, Option, ap, sym}
use Rattle.std.specs.Prelude.{find, option_map}
use Rattle.std.specs.List.{flat_map}
use Rattle.mon_base.specs.declared.method.MethodId.{MethodId}
use Rattle.mon_base.proofs.Lists.{front_is}
use Rattle.bytecode_model.specs.LeftMethods.{asked_by_named, is_left}
use Rattle.bytecode_model.specs.SearchOrder.{Name}
use Rattle.class_linking.proofs.LeftMethods.{found_here, found_later}
use Rattle.class_linking.proofs.left_methods.first_left.Goals as goal

pub returns-then-is_some : goal.returns-then-is_some
returns-then-is_some c =
    let files = c.args.index.now.files in
    let left = is_left files c.args.index.now.listing c.args.supers.now in
    let first : List Name → Option Name = λ names. option_map (λ (id : MethodId). id.name) (find left (flat_map (asked_by_named files) names)) in
    let split = front_is c.loop-left.left.now c.name-item.result c.in-len1-up.len_at_least c.name-item.is in
    found_here (λ (id : MethodId). id.name) left (asked_by_named files c.name-item.result) _ c.in_ok-found.found c.in_ok-found.ensures
    (sym c.is_some.ensures ∙ c.if-is_some.true) ∙ ap first (sym split) ∙ c.loop-left.invariant

pub loop-left-preserved : goal.loop-left-preserved
loop-left-preserved c =
    let files = c.args.index.now.files in
    let left = is_left files c.args.index.now.listing c.args.supers.now in
    let first : List Name → Option Name = λ names. option_map (λ (id : MethodId). id.name) (find left (flat_map (asked_by_named files) names)) in
    let split = front_is c.loop-left.left.now c.name-item.result c.in-len1-up.len_at_least c.name-item.is in
    sym (found_later (λ (id : MethodId). id.name) left (asked_by_named files c.name-item.result) _ c.in_ok-found.found c.in_ok-found.ensures
    (sym c.is_some.ensures ∙ c.if-is_some.false)) ∙ ap first (sym split) ∙ c.loop-left.invariant
