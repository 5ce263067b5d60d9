use Rattle.std.proofs.Common.{◌≡◌, take, false}
use Rattle.api_listing.specs.Listing.{own_class}
use Rattle.bytecode_model.specs.SearchOrder.{is_one_of}
use Rattle.class_linking.proofs.class_conditions.any_is_own.Given as goal

abbrev pub invariant-loop-name : goal.invariant-loop-name
invariant-loop-name l = is_one_of (take l.name-index l.names) own_class ≡ false
