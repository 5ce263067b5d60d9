use Rattle.std.proofs.Common.{◌≡◌, length}
use Rattle.block_logic.specs.Notes.{first_handler}
use Rattle.cert_checker.proofs.passing.first_handler.Given as goal

abbrev pub invariant-loop-handler : goal.invariant-loop-handler
invariant-loop-handler l = first_handler l.at l.near ≡ first_handler l.at l.handlers

abbrev pub decreases-loop-handler : goal.decreases-loop-handler
decreases-loop-handler l = length l.near
