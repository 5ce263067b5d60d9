use Rattle.std.proofs.Common.{◌≡◌, take}
use Rattle.mon_base.specs.declared.method.MethodId.{MethodId}
use Rattle.api_listing.specs.Seen.{has_id}
use Rattle.api_listing.specs.Listing.{has_method}
use Rattle.class_index.proofs.declared.listed_methods.Given as goal

abbrev pub invariant-loop-method : goal.invariant-loop-method
invariant-loop-method l = (q : MethodId) → has_id l.ids q ≡ has_method (take l.method-index l.methods) q
