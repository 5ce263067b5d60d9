use Rattle.std.proofs.Common.{◌≡◌, ◌-◌, length}
use Rattle.guest_model.specs.Finding.{declared_up}
use Rattle.guest_tables.proofs.finding.nearest_given.Given as goal

abbrev pub invariant-loop : goal.invariant-loop
invariant-loop l =
    declared_up (length l.guest.classes - l.counter) l.guest l.name l.desc l.at ≡ declared_up (length l.guest.classes) l.guest l.name l.desc l.class
