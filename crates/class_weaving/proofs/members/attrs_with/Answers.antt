use Rattle.std.proofs.Common.{map}
use Rattle.offset_patch.proofs.Lists.{front_is}
use Rattle.class_weaving.specs.Woven.{attr_with}
use Rattle.class_weaving.proofs.FirstCode.{last_code}
use Rattle.class_weaving.proofs.members.attrs_with.Goals as goal

pub returns-then-is_last_code : goal.returns-then-is_last_code
returns-then-is_last_code c =
    let code = c.args.code in
    let split = front_is c.loop-left.left.now c.attr-item.result c.in-len1-up.len_at_least c.attr-item.is in
    let last = c.is_last_code.ensures c.if-is_last_code.true in
    last_code code c.loop-left.attrs c.push.new.self c.put_others.new.attrs c.loop-left.left.now _ (map (attr_with code) c.args.olds.now) c.attr-item.result split (last.0 code) last.1
    c.in_ok-push.ensures.ok c.in_ok-put_others.ensures c.loop-left.invariant
