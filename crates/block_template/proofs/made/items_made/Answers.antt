use Rattle.std.proofs.Common.{◌∙◌, ap, sym}
use Rattle.std.specs.BTreeMap.{get}
use Rattle.std.specs.Option.{option_or}
use Rattle.std.specs.Ordering.{nat_cmp}
use Rattle.mon_base.proofs.Lists.{front_is}
use Rattle.bytecode_model.proofs.Lists.{none_left, or_none}
use Rattle.block_template.specs.Made.{known_items}
use Rattle.block_template.proofs.Making.{method_goes_on, none_made}
use Rattle.block_template.proofs.made.items_made.Goals as goal

pub loop-left-init : goal.loop-left-init
loop-left-init c = λ q.
    none_made c.new-made.result q _ c.new-made.ensures.empty
    ∙ ap (λ cs. known_items c.args.policy.now c.args.mode cs q) c.as_slice-left.ensures

pub loop-left-preserved : goal.loop-left-preserved
loop-left-preserved c =
    let split = front_is c.loop-left.left.now c.clause-item.result c.in-len1-up.len_at_least c.clause-item.is in
    λ q. method_goes_on c.args.policy.now c.args.mode c.loop-left.left.now _ c.clause-item.result q _ _ _ split (c.in_ok-add_items.ensures q)
    (c.loop-left.invariant q)

pub returns : goal.returns
returns c = λ q.
    sym (or_none (get nat_cmp c.loop-left.made q))
    ∙ ap (λ cs. option_or (get nat_cmp c.loop-left.made q) (known_items c.args.policy.now c.args.mode cs q))
    (sym (none_left c.loop-left.left.now c.in_default.len_below))
    ∙ c.loop-left.invariant q
