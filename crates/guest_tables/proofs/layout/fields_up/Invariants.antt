use Rattle.std.proofs.Common.{◌≡◌, ◌++◌, ◌-◌, length}
use Rattle.std.specs.Prelude.{reverse}
use Rattle.guest_model.specs.Layout.{fields_up}
use Rattle.guest_tables.proofs.layout.fields_up.Given as goal

abbrev pub invariant-loop : goal.invariant-loop
invariant-loop l =
    l.fields.items ++ reverse (fields_up (length l.guest.classes - l.counter) l.guest l.at) ≡ reverse (fields_up (length l.guest.classes) l.guest l.name)
