use Rattle.std.proofs.Common.{◌≡◌, take, map}
use Rattle.api_listing.specs.declared.events.ApiValue.TheVariants as api
use Rattle.race_free_check.proofs.points.int_values.Given as goal

abbrev pub invariant-loop-number : goal.invariant-loop-number
invariant-loop-number l = l.values ≡ map api.Int (take l.number-index l.numbers)
