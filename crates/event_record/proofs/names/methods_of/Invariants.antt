use Rattle.std.proofs.Common.{◌≡◌, ◌+◌, length}
use Rattle.std.specs.Option.{option_or}
use Rattle.mon_base.specs.declared.method.MethodId.{MethodId}
use Rattle.event_record.specs.Library.{index_in, place_listed}
use Rattle.event_record.proofs.Naming.{index_from}
use Rattle.event_record.proofs.names.methods_of.Given as goal

abbrev pub invariant-loop-left : goal.invariant-loop-left
invariant-loop-left l = record {
  found : (q : MethodId) → option_or (place_listed l.places q) (index_from l.index l.left q) ≡ index_in l.methods q;
  count : l.index + length l.left ≡ length l.methods;
}

abbrev pub decreases-loop-left : goal.decreases-loop-left
decreases-loop-left l = length l.left
