use Rattle.bundle_typing.proofs.Classes.{bundle_can}
use Rattle.bundle_typing.proofs.bundles_can_be_typed.Goals as goal

pub returns : goal.returns
returns c = bundle_can
