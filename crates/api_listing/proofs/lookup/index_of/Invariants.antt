use Rattle.std.proofs.Common.{◌≡◌, ◌+◌, length}
use Rattle.std.specs.List.{position_from}
use Rattle.api_listing.specs.BuiltIn.{is_method}
use Rattle.api_listing.proofs.lookup.index_of.Given as goal

abbrev pub invariant-loop-left : goal.invariant-loop-left
invariant-loop-left l = (position_from (λ m. is_method l.class l.name l.desc m.id) l.index l.left ≡ position_from (λ m. is_method l.class l.name l.desc m.id) 0 l.methods) × (l.index + length l.left ≡ length l.methods)

abbrev pub decreases-loop-left : goal.decreases-loop-left
decreases-loop-left l = length l.left
