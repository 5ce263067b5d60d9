use Rattle.cert_maker.proofs.CanonicalPrograms.{canonical_is_typed}
use Rattle.cert_maker.proofs.laws.canonical_is_typed.Goals as goal

pub returns : goal.returns
returns c = canonical_is_typed
