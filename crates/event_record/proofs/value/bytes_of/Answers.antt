use Rattle.std.proofs.Common.{ℕ, List, ◌-◌, length, get_or, take, drop, ap, ◌∙◌}
use Rattle.event_record.specs.Value.{bytes_from}
use Rattle.event_record.proofs.Hex.{byte_more, two_front}
use Rattle.event_record.proofs.value.bytes_of.Goals as goal

pub loop-left-preserved : goal.loop-left-preserved
loop-left-preserved c =
    let left = c.loop-left.left.now in
    let rest = take (length left - 2) (drop 2 left) in
    ap (λ (bs : List ℕ). bytes_from bs rest) c.in_ok-push.ensures.ok
    ∙ byte_more c.loop-left.bytes left rest (get_or left 0 0) (get_or left 1 0) c.in_ok-byte.byte _ (two_front left c.in-len2-up.len_at_least) c.in_ok-byte.ensures c.loop-left.invariant
