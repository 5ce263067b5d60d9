use Rattle.std.proofs.Common.{List, subst}
use Rattle.class_codec.specs.declared.tree.Const.{Const}
use Rattle.offset_patch.specs.Growth.{IsGrowth}
use Rattle.offset_patch.proofs.Knowing.{known_grown}
use Rattle.offset_patch.proofs.entries.Entries.add.Goals as goal

pub invariant_of-self-2 : goal.invariant_of-self-2
invariant_of-self-2 c =
    let own = c.self.inside in (
      subst (λ (p : List Const). IsGrowth p c.wanted.new.growth) c.as_slice-2.ensures c.in_ok-place.ensures.good,
      known_grown own.items c.as_slice.result.now c.as_slice-2.result.now own.growth c.take-kept.result c.in_ok-growth.growth c.wanted.new.growth own.known c.take-known.result
          c.in_ok-known.known c.args.want c.in_ok-place.place c.self.invariant.1 c.as_slice.ensures c.as_slice-2.ensures c.take-kept.ensures.value c.take-known.ensures.value
          c.in_ok-growth.ensures.is c.in_ok-place.ensures.is c.in_ok-known.ensures,
    )
