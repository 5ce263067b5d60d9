use Rattle.std.proofs.Common.{◌≡◌, ℕ, List, take}
use Rattle.api_listing.specs.Seen.{has_name}
use Rattle.class_index.specs.Library.{is_owner}
use Rattle.class_index.proofs.declared.owners_of.Given as goal

abbrev pub invariant-loop-method : goal.invariant-loop-method
invariant-loop-method l = (q : List ℕ) → has_name l.names q ≡ is_owner (take l.method-index l.methods) q
