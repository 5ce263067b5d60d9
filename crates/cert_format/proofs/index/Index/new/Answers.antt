use Rattle.std.proofs.Common.{rules, map}
use Rattle.cert_format.specs.Index.{HasPlaces}
use Rattle.cert_format.proofs.index.Index.new.Goals as goal

pub invariant_of-result : goal.invariant_of-result
invariant_of-result c =
    let places : HasPlaces (map (λ name. name.now) c.new-2.result.items) c.new.result = search rules in
    (places, c.in_ok-no_slots.ensures (map (λ name. name.now) c.new-2.result.items))
