use Rattle.std.proofs.Common.{arith}
use Rattle.std.specs.Prelude.{bytes_eq}
use Rattle.api_listing.specs.declared.types.ListedClass.{ListedClass}
use Rattle.bytecode_model.proofs.ByName.{none_noted}
use Rattle.mon_base.proofs.Lists.{front_is}
use Rattle.bytecode_model.proofs.Lists.{rest_length, none_left}
use Rattle.bytecode_model.proofs.Placing.{place_goes_on, place_is_done}
use Rattle.bytecode_model.proofs.places.class_places.Goals as goal

pub loop-left-preserved : goal.loop-left-preserved
loop-left-preserved c =
    let split = front_is c.loop-left.left.now c.class-item.result c.in-len1-up.len_at_least c.class-item.is in
    record {
      found = λ q. place_goes_on (λ (x : ListedClass). bytes_eq x.name q) _ _ _ c.loop-left.index _ _ _ split (c.in_ok-note.ensures q) (c.loop-left.invariant.found q);
      count = omega (arith, rest_length c.loop-left.left.now _ _ split);
    }

pub loop-left-init : goal.loop-left-init
loop-left-init c = record {
  found = λ q. none_noted c.new-places.result q _ c.new-places.ensures.empty;
  count = omega arith;
}

pub returns : goal.returns
returns c = λ q. place_is_done (λ (x : ListedClass). bytes_eq x.name q) _ _ _ _ (none_left c.loop-left.left.now c.in_default.len_below) (c.loop-left.invariant.found q)
