use Rattle.std.proofs.Common.{◌&&◌, arith}
use Rattle.std.specs.Prelude.{bytes_eq}
use Rattle.bytecode_model.specs.declared.program.Method.{Method}
use Rattle.mon_base.proofs.Lists.{front_is}
use Rattle.bytecode_model.proofs.Lists.{rest_length, none_left}
use Rattle.bytecode_model.proofs.Placing.{place_goes_on, place_is_done}
use Rattle.guest_tables.proofs.Naming.{no_method}
use Rattle.guest_tables.proofs.methods.methods_in.Goals as goal

pub loop-left-preserved : goal.loop-left-preserved
loop-left-preserved c =
    let split = front_is c.loop-left.left.now c.method-item.result c.in-len1-up.len_at_least c.method-item.is in
    record {
      found = λ n d. place_goes_on (λ (m : Method). bytes_eq m.name n && bytes_eq m.desc d) _ _ _ c.loop-left.index _ _ _ split (c.in_ok-add_method.ensures n d) (c.loop-left.invariant.found n d);
      count = omega (arith, rest_length c.loop-left.left.now _ _ split);
    }

pub loop-left-init : goal.loop-left-init
loop-left-init c = record {
  found = λ n d. no_method c.new-table.result n d _ c.new-table.ensures.empty;
  count = omega arith;
}

pub returns : goal.returns
returns c = λ n d. place_is_done (λ (m : Method). bytes_eq m.name n && bytes_eq m.desc d) _ _ _ _ (none_left c.loop-left.left.now c.in_default.len_below) (c.loop-left.invariant.found n d)
