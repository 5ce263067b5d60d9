use Rattle.std.proofs.Common.{ap}
use Rattle.std.specs.List.{list_all}
use Rattle.block_logic.specs.Borrowed.{asked_borrowed}
use Rattle.block_logic.specs.Notes.{note_passes}
use Rattle.cert_checker.specs.Testing.{passes}
use Rattle.cert_checker.proofs.Covering.{same_covering}
use Rattle.cert_checker.proofs.passing.covering_pass.Goals as goal

pub loop-handler-init : goal.loop-handler-init
loop-handler-init c =
    ap (list_all (note_passes (passes c.args.rules.now c.args.test) c.args.told.now (asked_borrowed c.args.asked.now)))
    (same_covering c.args.at c.near-near.result c.args.handlers.now c.near-near.ensures.covering)
