use Rattle.std.proofs.Common.{◌≡◌, take, map}
use Rattle.api_listing.specs.BuiltIn.{class_of_row}
use Rattle.api_listing.proofs.built_in.classes_of_rows.Given as goal

abbrev pub invariant-loop-name : goal.invariant-loop-name
invariant-loop-name l = l.classes ≡ map (λ r. class_of_row (r.0.now, r.1.now)) (take l.name-index l.rows)
