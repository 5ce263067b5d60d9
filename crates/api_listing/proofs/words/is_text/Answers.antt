use Rattle.std.proofs.Common.{refl}
use Rattle.api_listing.proofs.words.is_text.Goals as goal

pub returns-clause-value : goal.returns-clause-value
returns-clause-value c = rw (c.eq.ensures, c.as_bytes.ensures.value) refl
