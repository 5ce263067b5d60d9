use Rattle.std.proofs.Common.{◌≡◌, None, drop, length, ◌<◌}
use Rattle.std.specs.Prelude.{IfSome}
use Rattle.event_record.specs.Value.{last_at}
use Rattle.event_record.proofs.value.last_at.Given as goal

abbrev pub invariant-loop-place : goal.invariant-loop-place
invariant-loop-place l = record {
  same : last_at l.place l.known (drop l.place l.text) ≡ last_at 0 None l.text;
  within : IfSome l.known (λ place. place < length l.text);
}
