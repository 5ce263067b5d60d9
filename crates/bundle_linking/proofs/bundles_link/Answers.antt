use Rattle.bundle_linking.proofs.Whole.{bundle_links}
use Rattle.bundle_linking.proofs.bundles_link.Goals as goal

pub returns : goal.returns
returns c = bundle_links
