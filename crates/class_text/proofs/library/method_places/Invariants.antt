use Rattle.std.proofs.Common.{◌≡◌, ◌+◌, length}
use Rattle.std.specs.List.{position_from}
use Rattle.std.specs.Option.{option_or}
use Rattle.mon_base.specs.declared.method.MethodId.{MethodId}
use Rattle.api_listing.specs.declared.types.ListedMethod.{ListedMethod}
use Rattle.api_listing.specs.BuiltIn.{is_method}
use Rattle.api_listing.specs.Nearest.{declared_in}
use Rattle.class_text.specs.Library.{method_in}
use Rattle.class_text.proofs.library.method_places.Given as goal

abbrev pub invariant-loop-left : goal.invariant-loop-left
invariant-loop-left l = record {
  found : (q : MethodId) → option_or (method_in l.places q) (position_from (λ (m : ListedMethod). is_method q.class q.name q.desc m.id) l.index l.left) ≡ declared_in l.methods q.name q.desc q.class;
  count : l.index + length l.left ≡ length l.methods;
}

abbrev pub decreases-loop-left : goal.decreases-loop-left
decreases-loop-left l = length l.left
