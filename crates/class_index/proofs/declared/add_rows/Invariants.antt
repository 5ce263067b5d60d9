use Rattle.std.proofs.Common.{◌≡◌, ◌+◌, length, map}
use Rattle.std.specs.Option.{option_or}
use Rattle.mon_base.specs.declared.method.MethodId.{MethodId}
use Rattle.class_index.specs.Index.{found_in}
use Rattle.bytecode_model.specs.Members.{first_of, rows_from}
use Rattle.class_index.proofs.declared.add_rows.Given as goal

abbrev pub invariant-loop-left : goal.invariant-loop-left
invariant-loop-left l = record {
  found : (q : MethodId) → option_or (found_in l.found q) (first_of (rows_from l.index (map (λ r. (r.0.now, r.1.now, r.2.now, r.3)) l.left)) q) ≡ option_or (found_in l.fn.found q) (first_of (rows_from 0 (map (λ r. (r.0.now, r.1.now, r.2.now, r.3)) l.rows)) q);
  count : l.index + length l.left ≡ length l.rows;
}

abbrev pub decreases-loop-left : goal.decreases-loop-left
decreases-loop-left l = length l.left
