use Rattle.std.proofs.Common.{◌≡◌, map, take}
use Rattle.api_listing.specs.declared.types.ListedMethod.{ListedMethod}
use Rattle.guest_model.specs.Calls.{arity}
use Rattle.guest_tables.proofs.arities.listed_arities.Given as goal

abbrev pub invariant-loop-method : goal.invariant-loop-method
invariant-loop-method l = l.counts ≡ map (λ (m : ListedMethod). arity m.id.desc) (take l.method-index l.methods)
