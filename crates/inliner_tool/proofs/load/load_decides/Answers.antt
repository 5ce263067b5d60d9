use Rattle.inliner_tool.proofs.Loading.{load_decides}
use Rattle.inliner_tool.proofs.load.load_decides.Goals as goal

pub returns : goal.returns
returns c =
    load_decides c.bundle_listing_is_read.ensures c.bundle_policy_is_read.ensures c.bundles_are_short.ensures c.bundles_link.ensures c.bundles_can_be_typed.ensures
