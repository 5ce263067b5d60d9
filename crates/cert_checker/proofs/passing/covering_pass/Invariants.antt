use Rattle.std.proofs.Common.{◌≡◌, length}
use Rattle.std.specs.List.{list_all}
use Rattle.block_logic.specs.Borrowed.{asked_borrowed}
use Rattle.block_logic.specs.Notes.{handlers_of, note_passes}
use Rattle.cert_checker.specs.Testing.{passes}
use Rattle.cert_checker.proofs.passing.covering_pass.Given as goal

abbrev pub invariant-loop-handler : goal.invariant-loop-handler
invariant-loop-handler l =
    let passing = note_passes (passes l.rules l.test) l.told (asked_borrowed l.asked) in
    list_all passing (handlers_of l.at l.near) ≡ list_all passing (handlers_of l.at l.handlers)

abbrev pub decreases-loop-handler : goal.decreases-loop-handler
decreases-loop-handler l = length l.near
