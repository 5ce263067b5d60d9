use Rattle.std.proofs.Common.{◌≡◌, ◌+◌, length}
use Rattle.std.specs.List.{AllByRecursion}
use Rattle.std.specs.Option.{option_or}
use Rattle.mon_base.specs.declared.method.MethodId.{MethodId}
use Rattle.class_codec.specs.Fits.{IsEncodable}
use Rattle.class_index.specs.Index.{found_in}
use Rattle.bytecode_model.specs.Members.{first_of, given_from}
use Rattle.class_index.proofs.declared.add_files.Given as goal

abbrev pub invariant-loop-left : goal.invariant-loop-left
invariant-loop-left l = record {
  found : (q : MethodId) → option_or (found_in l.found q) (first_of (given_from l.kind l.class l.left) q) ≡ option_or (found_in l.fn.found q) (first_of (given_from l.kind 0 l.files) q);
  count : l.class + length l.left ≡ length (l.files);
  fits : AllByRecursion IsEncodable l.left;
}

abbrev pub decreases-loop-left : goal.decreases-loop-left
decreases-loop-left l = length l.left
