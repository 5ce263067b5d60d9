use Rattle.std.proofs.Common.{◌≡◌, ◌-◌, ◌+◌, length}
use Rattle.bytecode_model.specs.Conditions.{stays_within, runs_in_circle}
use Rattle.class_linking.proofs.heights.runs_in_circle.Given as goal

abbrev pub invariant-loop : goal.invariant-loop
invariant-loop l = stays_within (length l.classes + 1 - l.counter) l.classes l.at ≡ runs_in_circle l.classes l.name
