use Rattle.std.proofs.Common.{◌≡◌, ◌+◌, ◌-◌, length}
use Rattle.guest_model.specs.Layout.{fields_up}
use Rattle.guest_tables.proofs.fields.count_of.Given as goal

abbrev pub invariant-loop : goal.invariant-loop
invariant-loop l =
    l.count + length (fields_up (length l.program.classes - l.counter) l.program l.at) ≡ length (fields_up (length l.program.classes) l.program l.name)
