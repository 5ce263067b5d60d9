use Rattle.std.proofs.Common.{◌≡◌, ◌≤◌, ◌<◌, ℕ, length, Some}
use Rattle.std.specs.Prelude.{slice_get}
use Rattle.guest_heap.specs.declared.value.Value.{Value}
use Rattle.guest_model.specs.Seen.{bytes_shown}
use Rattle.guest_step.proofs.making_room.most_of_all.Given as goal

abbrev pub invariant-loop-value : goal.invariant-loop-value
invariant-loop-value l = record {
  least : l.least ≤ l.most;
  each : (i : ℕ) (v : Value) → i < l.value-index → slice_get l.args i ≡ Some v → length (bytes_shown l.guest l.heap v) ≤ l.most;
}
