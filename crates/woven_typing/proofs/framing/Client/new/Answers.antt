use Rattle.std.proofs.Common.{List, map, ap, ◌∙◌}
use Rattle.bytecode_model.specs.declared.program.Target.{Target}
use Rattle.offset_patch.specs.Splicing.{fronts_of}
use Rattle.block_template.specs.Blocks.{Planned, plan_of}
use Rattle.block_template.proofs.Alike.{fronts_alike}
use Rattle.woven_typing.proofs.framing.Client.new.Goals as goal

pub invariant_of-result : goal.invariant_of-result
invariant_of-result c =
    let of : Planned = c.args.weaving.now.items.now in
    let method = c.args.method.now in (
      c.in_ok-list.ensures
          ∙ ap (λ (refs : List Target). fronts_of (map ((plan_of of.policy of.mode).block 0) refs)) c.as_slice.ensures
          ∙ fronts_alike of.policy of.mode 0 method.max_locals method.refs,
      c.len-count.ensures,
    )
