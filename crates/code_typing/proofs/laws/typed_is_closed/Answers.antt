use Rattle.code_typing.proofs.Closed.{begins, goes_on, caught}
use Rattle.code_typing.proofs.laws.typed_is_closed.Goals as goal

pub returns : goal.returns
returns c = record { begin = begins; next = goes_on; caught = caught }
