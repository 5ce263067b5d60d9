use Rattle.std.proofs.Common.{arith}
use Rattle.api_listing.specs.declared.types.ListedMethod.{ListedMethod}
use Rattle.api_listing.specs.BuiltIn.{is_method}
use Rattle.mon_base.proofs.Lists.{front_is}
use Rattle.bytecode_model.proofs.Lists.{rest_length, none_left}
use Rattle.bytecode_model.proofs.Placing.{place_goes_on, place_is_done}
use Rattle.class_text.proofs.Placing.{no_method}
use Rattle.class_text.proofs.library.method_places.Goals as goal

pub loop-left-preserved : goal.loop-left-preserved
loop-left-preserved c =
    let split = front_is c.loop-left.left.now c.method-item.result c.in-len1-up.len_at_least c.method-item.is in
    record {
      found = λ q. place_goes_on (λ (m : ListedMethod). is_method q.class q.name q.desc m.id) _ _ _ c.loop-left.index _ _ _ split (c.in_ok-add_method.ensures q) (c.loop-left.invariant.found q);
      count = omega (arith, rest_length c.loop-left.left.now _ _ split);
    }

pub loop-left-init : goal.loop-left-init
loop-left-init c = record {
  found = λ q. no_method c.new-places.result q _ c.new-places.ensures.empty;
  count = omega arith;
}

pub returns : goal.returns
returns c = λ q. place_is_done (λ (m : ListedMethod). is_method q.class q.name q.desc m.id) _ _ _ _ (none_left c.loop-left.left.now c.in_default.len_below) (c.loop-left.invariant.found q)
