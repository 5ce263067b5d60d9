use Rattle.std.proofs.Common.{◌≡◌, map, take}
use Rattle.api_listing.specs.declared.types.ListedMethod.{ListedMethod}
use Rattle.guest_tables.specs.Library.{gives}
use Rattle.guest_tables.proofs.library.results_of.Given as goal

abbrev pub invariant-loop-method : goal.invariant-loop-method
invariant-loop-method l = l.results ≡ map (λ (m : ListedMethod). gives m.id.desc) (take l.method-index l.methods)
