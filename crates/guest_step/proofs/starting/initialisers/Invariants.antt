use Rattle.std.proofs.Common.{◌≡◌, ◌++◌}
use Rattle.guest_model.specs.Runs.{initialisers}
use Rattle.guest_step.proofs.Initialisers.{initialisers_from}
use Rattle.guest_step.proofs.starting.initialisers.Given as goal

abbrev pub invariant-loop-class : goal.invariant-loop-class
invariant-loop-class l = l.found ++ initialisers_from l.fn.guest.classes l.class l.class ≡ initialisers l.fn.guest
