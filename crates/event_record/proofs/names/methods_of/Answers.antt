use Rattle.std.proofs.Common.{arith}
use Rattle.event_record.proofs.Naming.{front_is, goes_on, is_done, none_left, rest_length}
use Rattle.event_record.proofs.names.methods_of.Goals as goal

pub loop-left-preserved : goal.loop-left-preserved
loop-left-preserved c =
    let split = front_is c.loop-left.left.now c.method-item.result c.in-len1-up.len_at_least c.method-item.is in
    record {
      found = λ q. goes_on c.loop-left.places c.add_first.new.places c.method-item.result _ c.loop-left.left.now c.loop-left.index q _ split c.in_ok-add_first.ensures (c.loop-left.invariant.found q);
      count = omega (arith, rest_length c.loop-left.left.now _ _ split);
    }

pub returns : goal.returns
returns c = λ q. is_done c.loop-left.places c.loop-left.left.now c.loop-left.index q _ (none_left c.loop-left.left.now c.in_default.len_below) (c.loop-left.invariant.found q)
