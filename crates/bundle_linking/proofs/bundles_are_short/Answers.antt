use Rattle.bundle_linking.proofs.Sizes.{bytes_few}
use Rattle.bundle_linking.proofs.bundles_are_short.Goals as goal

pub returns : goal.returns
returns c = bytes_few
