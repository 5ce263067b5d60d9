use Rattle.std.proofs.Common.{◌∷◌, [], true, ap, arith}
use Rattle.bytecode_model.specs.declared.members.Found.{Found}
use Rattle.bytecode_model.specs.declared.program.Target.TheVariants as target
use Rattle.bytecode_model.specs.Members.{Declared, listed_fields_from}
use Rattle.mon_base.proofs.Lists.{front_is}
use Rattle.bytecode_model.proofs.Lists.{rest_length, none_left}
use Rattle.class_index.proofs.Declaring.{goes_on, is_done}
use Rattle.class_index.proofs.declared.add_listed_fields.Goals as goal

pub loop-left-preserved : goal.loop-left-preserved
loop-left-preserved c =
    let split = front_is c.loop-left.left.now c.id-item.result c.in-len1-up.len_at_least c.id-item.is in
    let first : Found = record { target = target.ApiField c.loop-left.index; is_static = true } in
    let now : Declared = (c.id-item.result, first) in
    record {
      found = λ q. goes_on _ (now ∷ []) _ _ _ _ q (ap (listed_fields_from c.loop-left.index) split) (rw (← c.in_ok-id.ensures) (c.in_ok-add_first.ensures q)) (c.loop-left.invariant.found q);
      count = omega (arith, rest_length c.loop-left.left.now _ _ split);
    }

pub returns : goal.returns
returns c = λ q. is_done _ _ _ q (ap (listed_fields_from c.loop-left.index) (none_left c.loop-left.left.now c.in_default.len_below)) (c.loop-left.invariant.found q)
