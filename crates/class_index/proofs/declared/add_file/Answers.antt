use Rattle.std.proofs.Common.{◌∷◌, [], ◌∙◌, ap, arith}
use Rattle.std.specs.Option.{option_or}
use Rattle.bytecode_model.specs.Heads.{class_at}
use Rattle.class_index.specs.Index.{found_in}
use Rattle.bytecode_model.specs.Members.{members_of, members_from, member_declared, first_of}
use Rattle.mon_base.proofs.Lists.{front_is}
use Rattle.bytecode_model.proofs.Lists.{rest_length, none_left}
use Rattle.class_index.proofs.Declaring.{goes_on, is_done}
use Rattle.class_index.proofs.declared.add_file.Goals as goal

pub loop-left-preserved : goal.loop-left-preserved
loop-left-preserved c =
    let split = front_is c.loop-left.left.now c.member-item.result c.in-len1-up.len_at_least c.member-item.is in
    let now = member_declared c.args.kind c.class_at-name.result.now c.as_slice-pool.result.now c.args.class c.loop-left.index c.member-item.result ∷ [] in
    record {
      found = λ q. goes_on _ now _ _ _ _ q (ap (members_from c.args.kind c.class_at-name.result.now c.as_slice-pool.result.now c.args.class c.loop-left.index) split) (c.in_ok-add_member.ensures q) (c.loop-left.invariant.found q);
      count = omega (arith, rest_length c.loop-left.left.now _ _ split);
    }

pub returns : goal.returns
returns c =
    let members = members_of c.args.kind c.args.file.now in
    let pool = c.as_slice-pool.ensures in
    let named = c.class_at-name.ensures ∙ ap (λ p. class_at p c.args.file.now.this_class) pool in
    let is = ap (λ p. members_from c.args.kind c.class_at-name.result.now p c.args.class 0 members) pool ∙ ap (λ n. members_from c.args.kind n c.args.file.now.pool c.args.class 0 members) named in
    λ q. is_done _ _ _ q (ap (members_from c.args.kind c.class_at-name.result.now c.as_slice-pool.result.now c.args.class c.loop-left.index) (none_left c.loop-left.left.now c.in_default.len_below)) (c.loop-left.invariant.found q)
    ∙ ap (λ ds. option_or (found_in c.args.found.now q) (first_of ds q)) is
