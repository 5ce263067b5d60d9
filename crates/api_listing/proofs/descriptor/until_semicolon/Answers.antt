use Rattle.api_listing.specs.Descriptor.{until}
use Rattle.api_listing.proofs.Descriptors.{first_of_list, passes}
use Rattle.api_listing.proofs.descriptor.until_semicolon.Goals as goal

pub loop-left-preserved : goal.loop-left-preserved
loop-left-preserved c =
    passes c.loop-left.at c.loop-left.left.now c.args.bytes.now _ _ (until 59 c.args.bytes.now) (first_of_list c.loop-left.left.now c.in-len1-up.len_at_least) c.if-first-eq59.false c.loop-left.invariant
