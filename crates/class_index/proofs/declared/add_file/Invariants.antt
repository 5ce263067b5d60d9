use Rattle.std.proofs.Common.{◌≡◌, ◌+◌, length}
use Rattle.std.specs.Option.{option_or}
use Rattle.mon_base.specs.declared.method.MethodId.{MethodId}
use Rattle.class_index.specs.Index.{found_in}
use Rattle.bytecode_model.specs.Members.{first_of, members_from, members_of}
use Rattle.class_index.proofs.declared.add_file.Given as goal

abbrev pub invariant-loop-left : goal.invariant-loop-left
invariant-loop-left l = record {
  found : (q : MethodId) → option_or (found_in l.found q) (first_of (members_from l.kind l.name l.pool l.class l.index l.left) q) ≡ option_or (found_in l.fn.found q) (first_of (members_from l.kind l.name l.pool l.class 0 (members_of l.kind l.file)) q);
  count : l.index + length l.left ≡ length ((members_of l.kind l.file));
}

abbrev pub decreases-loop-left : goal.decreases-loop-left
decreases-loop-left l = length l.left
