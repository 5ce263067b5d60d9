use Rattle.offset_patch.specs.Splicing.{grown}
use Rattle.offset_patch.proofs.Lists.{front_is}
use Rattle.offset_patch.proofs.Pieces.{grown_step}
use Rattle.offset_patch.proofs.splicing.add_wants.Goals as goal

pub loop-left-preserved : goal.loop-left-preserved
loop-left-preserved c =
    let split = front_is c.loop-left.left.now c.site-item.result c.in-len1-up.len_at_least c.site-item.is in
    grown_step c.loop-left.entries c.add_part.new.entries (grown c.args.entries.now c.args.sites.now) c.loop-left.left.now _ c.site-item.result c.part_of.result.now
    split c.part_of.ensures c.in_ok-add_part.ensures c.loop-left.invariant
