use Rattle.std.proofs.Common.{◌≡◌, length}
use Rattle.insn_codec.specs.Control.{by_key}
use Rattle.guest_frames.proofs.jumps.by_key.Given as goal

abbrev pub invariant-loop-keys_left : goal.invariant-loop-keys_left
invariant-loop-keys_left l = by_key l.other l.keys_left l.targets_left l.n ≡ by_key l.other l.keys l.targets l.n

abbrev pub decreases-loop-keys_left : goal.decreases-loop-keys_left
decreases-loop-keys_left l = length l.keys_left
