use Rattle.std.proofs.Common.{◌∷◌, [], ap, arith}
use Rattle.bytecode_model.specs.declared.members.Found.{Found}
use Rattle.bytecode_model.specs.declared.program.Target.TheVariants as target
use Rattle.bytecode_model.specs.Members.{Declared, listed_from}
use Rattle.mon_base.proofs.Lists.{front_is}
use Rattle.bytecode_model.proofs.Lists.{rest_length, none_left}
use Rattle.class_index.proofs.Declaring.{goes_on, is_done}
use Rattle.class_index.proofs.declared.add_listed.Goals as goal

pub loop-left-preserved : goal.loop-left-preserved
loop-left-preserved c =
    let split = front_is c.loop-left.left.now c.method-item.result c.in-len1-up.len_at_least c.method-item.is in
    let first : Found = record { target = target.ApiMethod c.loop-left.index; is_static = c.method-item.result.is_static } in
    let now : Declared = (c.method-item.result.id, first) in
    record {
      found = λ q. goes_on _ (now ∷ []) _ _ _ _ q (ap (listed_from c.loop-left.index) split) (rw (← c.in_ok-id.ensures) (c.in_ok-add_first.ensures q)) (c.loop-left.invariant.found q);
      count = omega (arith, rest_length c.loop-left.left.now _ _ split);
    }

pub returns : goal.returns
returns c = λ q. is_done _ _ _ q (ap (listed_from c.loop-left.index) (none_left c.loop-left.left.now c.in_default.len_below)) (c.loop-left.invariant.found q)
